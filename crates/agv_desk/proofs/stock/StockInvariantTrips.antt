-- The stock invariant holds after a state of a vehicle on its trip, and after a vehicle is placed.
use Rattle.std.proofs.Common.{◌≡◌, ◌≤◌, ◌↔◌, ℕ, Bool, true, false, cond, List, [], map, Option, None, Some, is_some, length, IsTrue, arith, inl, inr, refl, sym, ap, subst, ◌∙◌}
use Rattle.std.proofs.lemmas.List.{length-map}
use Rattle.std.specs.FinMap as finite
use Rattle.std.specs.List.{zip}
use Rattle.std.specs.Ordering.{eq_by_cmp}
use Rattle.agv_header.specs.Key.{key_cmp}
use Rattle.agv_header.specs.KeyOrder.{key_cmp-total, key_cmp-IsAntisymmetric}
use Rattle.agv_header.specs.declared.key.VehicleKey.{VehicleKey}
use Rattle.agv_message_core.specs.declared.state.StateMessage.{StateMessage}
use Rattle.agv_order.specs.StopPlaces.{ArePaired}
use Rattle.agv_order.specs.Stops.{are_paired}
use Rattle.agv_order.specs.Trips.{stop_of, task_of}
use Rattle.agv_order.specs.declared.stop.Stop.{Stop}
use Rattle.agv_order.specs.declared.trip.Trip.{Trip}
use Rattle.agv_track.specs.Progressed.{Advances, progressed}
use Rattle.agv_track.specs.declared.progress.End.{End}
use Rattle.agv_track.specs.declared.progress.Progress.{Progress}
use Rattle.agv_world_core.specs.StockInvariant.{StockInvariant, ActionView, HasStockInvariant, Jobs, Places, capacity_for, capacity_of, action_views_by, action_views_for, action_views_of}
use Rattle.agv_world_core.specs.LawfulParts.{HasLawfulVehicles, IsTripOf}
use Rattle.agv_world_core.specs.Questions.{row_of, trip_of}
use Rattle.agv_world_core.specs.TableChanges.{written}
use Rattle.agv_world_core.specs.VehicleChanges.{with_vehicle}
use Rattle.agv_world_core.specs.Worlds.{Vehicle, World}
use Rattle.agv_world_core.specs.declared.row.VehicleRow.{VehicleRow}
use Rattle.agv_desk.specs.ActSteps.{act_jobs, act_moves, as_it_is, jobs_stopped}
use Rattle.agv_desk.specs.Outcomes.{Effect, moved}
use Rattle.agv_desk.specs.StateSteps.{fresh_state, pending_of, row_after, take_state, trip_state}
use Rattle.agv_desk.specs.VehicleSteps.{place_vehicle, placed}
use Rattle.agv_desk.proofs.stock.StockInvariantVehicles.{idle_keeps}
use Rattle.agv_desk.proofs.trip_acts.ActionViews.{AfterPicks, all_before, stops_by}
use Rattle.agv_desk.proofs.trip_acts.FitStops.{Fit, fit_of}
use Rattle.agv_desk.proofs.row_changes.Given.{AdvancesTrips}
use Rattle.agv_desk.proofs.outcomes.Keeping.{KeepsStock}
use Rattle.agv_desk.proofs.outcomes.Known.{known, vehicle_with}
use Rattle.agv_desk.proofs.outcomes.Ladders.{IfMade, made_branch, made_refuse_if_none, made_judged, made_refuse_unless, made_unheld}
use Rattle.agv_desk.proofs.trip_acts.TripActs.{after_picks, all_after_is, no_moves, same_before, same_renews, same_stops, zip_before, zip_renews, zip_stops}
use Rattle.agv_desk.proofs.trip_acts.WalkSteps.{Now, with_action_views, with_here, with_there}
use Rattle.agv_desk.proofs.trip_acts.Walks.{walk, walk_off}
use Rattle.agv_desk.proofs.lists.Writes.{IsWritten, is_written, same_or_other}

-- what the laws of the crates below say of stops
abbrev pub PairsAsSaid : Type 0
PairsAsSaid = (stops : List Stop) → IsTrue (are_paired stops) ↔ ArePaired stops

-- ---- the actions of one vehicle in a world, and in the world after

pub with_same : (carries : VehicleKey → List ActionView) (key other : VehicleKey) → with_action_views carries key (carries key) other ≡ carries other
with_same carries key other = elim (same_or_other key_cmp-total key_cmp-IsAntisymmetric other key) [
  | inl same ↦ subst (λ v. with_action_views carries key (carries key) v ≡ carries v) (sym same) (with_here carries key (carries key))
  | inr apart ↦ with_there carries key (carries key) other apart
]

module _ (world : World) (key : VehicleKey) (vehicle : Vehicle) (there : finite.get world.vehicles key ≡ Some vehicle) where
  -- the stock invariant as one of this vehicle's actions
  pub enter : HasStockInvariant world → Now world.layout (action_views_of world) (capacity_of world) key (action_views_by vehicle.trip) world.places world.jobs
  enter stock =
      subst (λ carried. Now world.layout (action_views_of world) (capacity_of world) key carried world.places world.jobs) (ap action_views_for there)
      (subst (λ carries. StockInvariant world.layout carries (capacity_of world) world.places world.jobs) (sym (λ i other. with_same (action_views_of world) key other i)) stock)

  module _ (new : Vehicle) (same : new.row.capacity ≡ vehicle.row.capacity) where
    action_views_then : (other : VehicleKey) → with_action_views (action_views_of world) key (action_views_by new.trip) other ≡ action_views_of (with_vehicle world key new) other
    action_views_then other =
        by_test (eq_by_cmp key_cmp other key) ∙ ap action_views_for (sym (finite.get-insert key_cmp-total world.vehicles key new other))
      where
        by_test : (is : Bool) → cond is (action_views_by new.trip) (action_views_of world other) ≡ action_views_for (cond is (Some new) (finite.get world.vehicles other))
        by_test true = refl
        by_test false = refl

    capacity_then : (other : VehicleKey) → capacity_of world other ≡ capacity_of (with_vehicle world key new) other
    capacity_then other = elim (same_or_other key_cmp-total key_cmp-IsAntisymmetric other key) [
      | inl own ↦ subst (λ v. capacity_of world v ≡ capacity_of (with_vehicle world key new) v) (sym own) (ap capacity_for there ∙ sym same ∙ sym (ap capacity_for (put.here)))
      | inr apart ↦ ap capacity_for (sym (put.there other apart))
    ]
      where
        put : IsWritten world.vehicles key new (finite.insert world.vehicles key new)
        put = is_written key_cmp-total key_cmp-IsAntisymmetric world.vehicles key new

    -- and as that of the world after
    pub depart : (places : Places) (jobs : Jobs) → Now world.layout (action_views_of world) (capacity_of world) key (action_views_by new.trip) places jobs
        → StockInvariant world.layout (action_views_of (with_vehicle world key new)) (capacity_of (with_vehicle world key new)) places jobs
    depart places jobs now =
        subst (λ carries. StockInvariant world.layout carries (capacity_of (with_vehicle world key new)) places jobs) (λ i other. action_views_then other i)
        (subst (λ capacity. StockInvariant world.layout (with_action_views (action_views_of world) key (action_views_by new.trip)) capacity places jobs) (λ i other. capacity_then other i) now)

-- ---- the calls

abbrev ended_by : Trip → Progress → Bool → Option Trip
ended_by trip progress ended = cond ended None (Some (progressed trip progress))

not_ended : (over : Option End) → is_some over ≡ false → over ≡ None
not_ended None e = refl
not_ended (Some over) e = cc

module _ (fits : PairsAsSaid) (advances : AdvancesTrips) (seats : ℕ) (world : World) (lawful : HasLawfulVehicles seats world) (stock : HasStockInvariant world) where
  abbrev P : Effect → Type 0
  P = KeepsStock world

  module _ (key : VehicleKey) (row : VehicleRow) (trip : Trip) (there : finite.get world.vehicles key ≡ Some (vehicle_with row (Some trip))) where
    pub is_trip : IsTripOf world.layout key row trip
    is_trip = lawful.trips key (vehicle_with row (Some trip)) trip there refl

    pub fit : Fit (map stop_of (map task_of trip.acts))
    fit = fit_of _ ((fits _).0 is_trip.well_formed.planned.stops)

    module _ (state : StateMessage) (progress : Progress) (step : Advances trip progress) where
      abbrev new_vehicle : Bool → Vehicle
      new_vehicle ended = record { row = row_after row trip state progress; trip = ended_by trip progress ended }

      pub entered : Now world.layout (action_views_of world) (capacity_of world) key (all_before (zip trip.acts progress.statuses)) world.places world.jobs
      entered =
          subst (λ carried. Now world.layout (action_views_of world) (capacity_of world) key carried world.places world.jobs) (sym (zip_before trip.acts progress.statuses step.acts))
          (enter world key (vehicle_with row (Some trip)) there stock)

      pub fit_zip : Fit (stops_by (zip trip.acts progress.statuses))
      fit_zip = subst Fit (sym (zip_stops trip.acts progress.statuses step.acts)) fit

      progress_keeps : (ended : Bool) → is_some progress.«end» ≡ ended
          → StockInvariant world.layout (action_views_of (with_vehicle world key (new_vehicle ended))) (capacity_of (with_vehicle world key (new_vehicle ended)))
          (moved world.places (act_moves key trip.order (zip trip.acts progress.statuses))) (written world.jobs (act_jobs world ended (zip trip.acts progress.statuses)))
      progress_keeps true is =
          depart world key (vehicle_with row (Some trip)) there (new_vehicle true) refl _ _
          (walk_off world.layout (action_views_of world) (capacity_of world) key world trip.order (zip trip.acts progress.statuses) world.places world.jobs
          (zip_renews trip.acts progress.statuses step.acts) fit_zip (λ k job at. refl) entered)
      progress_keeps false is =
          let turns = (step.under_way (not_ended progress.«end» is)).in_turn in
          let acts = zip trip.acts progress.statuses in
          let action_views_after = all_after_is acts in
          depart world key (vehicle_with row (Some trip)) there (new_vehicle false) refl _ _
          (subst (λ carried. Now world.layout (action_views_of world) (capacity_of world) key carried (moved world.places (act_moves key trip.order acts)) (written world.jobs (act_jobs world false acts))) action_views_after
          (walk world.layout (action_views_of world) (capacity_of world) key world trip.order [] (zip trip.acts progress.statuses) world.places world.jobs
          (zip_renews trip.acts progress.statuses step.acts) fit_zip (subst AfterPicks (sym action_views_after) (after_picks _ turns)) (λ k job at. refl) entered))

    pub trip_state_keeps : (state : StateMessage) → IfMade P (trip_state world key row trip state)
    trip_state_keeps state =
        made_judged P _ _ (λ progress judged.
        let few : length trip.acts ≤ 8 = few_acts is_trip.well_formed.planned.few in
        let step = advances trip (pending_of row) state progress is_trip.well_formed.under_way few judged in
        record { stock = progress_keeps state progress step (is_some progress.«end») refl })
      where
        few_acts : length (map task_of trip.acts) ≤ 8 → length trip.acts ≤ 8
        few_acts few = omega (arith, length-map trip.acts task_of)

  fresh_keeps : (key : VehicleKey) (row : VehicleRow) (state : StateMessage) → row_of world key ≡ Some row → (trip : Option Trip) → trip_of world key ≡ trip → IfMade P (fresh_state world key row trip state)
  fresh_keeps key row state there None same = idle_keeps world stock key row state there
  fresh_keeps key row state there (Some trip) same =
      made_branch P _ _ _ (trip_state_keeps key row trip (known world key row there ∙ ap (λ t. Some (vehicle_with row t)) same) state)
      (made_refuse_unless P _ _ _ (λ fresh. idle_keeps world stock key row state there))

  pub state_keeps : (key : VehicleKey) (state : StateMessage) → IfMade P (take_state world key state)
  state_keeps key state =
      made_refuse_if_none P _ _ _ (λ row there. made_branch P _ _ _ (fresh_keeps key row state there (trip_of world key) refl) (record { stock = stock }))

  -- ---- a vehicle is placed, and its trip ends as it stands

  placed_keeps : (key : VehicleKey) (row : VehicleRow) (node : List ℕ) (trip : Option Trip) → finite.get world.vehicles key ≡ Some (vehicle_with row trip)
      → StockInvariant world.layout (action_views_of (with_vehicle world key (placed row node))) (capacity_of (with_vehicle world key (placed row node))) world.places (written world.jobs (jobs_stopped world trip))
  placed_keeps key row node None there =
      depart world key (vehicle_with row None) there (placed row node) refl _ _ (enter world key (vehicle_with row None) there stock)
  placed_keeps key row node (Some trip) there =
      let acts = map as_it_is trip.acts in
      let entered = subst (λ carried. Now world.layout (action_views_of world) (capacity_of world) key carried world.places world.jobs) (sym (same_before trip.acts)) (enter world key (vehicle_with row (Some trip)) there stock) in
      depart world key (vehicle_with row (Some trip)) there (placed row node) refl _ _
      (subst (λ moves. Now world.layout (action_views_of world) (capacity_of world) key [] (moved world.places moves) (written world.jobs (act_jobs world true acts))) (no_moves key trip.order trip.acts)
      (walk_off world.layout (action_views_of world) (capacity_of world) key world trip.order acts world.places world.jobs
      (same_renews trip.acts) (subst Fit (sym (same_stops trip.acts)) (fit key row trip there)) (λ k job at. refl) entered))

  pub place_keeps : (key : VehicleKey) (reference node : List ℕ) → IfMade P (place_vehicle world key reference node)
  place_keeps key reference node =
      made_refuse_unless P _ _ _ (λ new_reference. made_refuse_if_none P _ _ _ (λ row there.
      made_refuse_unless P _ _ _ (λ known_node. made_unheld P _ _ (λ opened. made_refuse_unless P _ _ _ (λ few.
      record { stock = placed_keeps key row node (trip_of world key) (known world key row there) })))))
