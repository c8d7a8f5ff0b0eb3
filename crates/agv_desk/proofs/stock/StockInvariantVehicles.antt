-- The stock invariant holds after each call that changes a vehicle but not what it carries, after the layout is set, and after the calls that only tell.
use Rattle.std.proofs.Common.{◌≡◌, ◌⊎◌, ◌+◌, ◌≤◌, ℕ, Bool, true, false, cond, nat_eq, List, Option, None, Some, arith, inl, inr, refl, sym, ap, subst, ◌∙◌}
use Rattle.std.specs.Cmp.Lexicographic.{pointwise}
use Rattle.std.specs.FinMap as finite
use Rattle.std.specs.Option.{option_map}
use Rattle.agv_header.specs.Name.{name_cmp}
use Rattle.agv_header.specs.declared.key.VehicleKey.{VehicleKey}
use Rattle.agv_layout.specs.Layout.{Layout, IsStation, KeepsRules}
use Rattle.agv_layout.specs.declared.row.LayoutRow.{LayoutRow}
use Rattle.agv_layout.specs.declared.station.StationSite.{StationSite}
use Rattle.agv_message_core.specs.declared.instant.InstantKind.{InstantKind}
use Rattle.agv_message_core.specs.declared.state.StateMessage.{StateMessage}
use Rattle.agv_order.specs.Releases.{released}
use Rattle.agv_order.specs.declared.trip.Trip.{Trip}
use Rattle.agv_stock.specs.Rooms.{is_at}
use Rattle.agv_stock.specs.declared.place.Place.{Place}
use Rattle.agv_stock.specs.declared.place.Place.TheVariants as place
use Rattle.agv_world_core.specs.StockInvariant.{HasStockInvariant, IsKnownPlace, capacity_for, capacity_of, action_views_by, action_views_for}
use Rattle.agv_world_core.specs.LawfulParts.{HasLawfulVehicles}
use Rattle.agv_world_core.specs.Questions.{is_live_to, given as set_where, layout_set, row_of, trip_of}
use Rattle.agv_world_core.specs.VehicleChanges.{with_vehicle}
use Rattle.agv_world_core.specs.Worlds.{Vehicle, World, empty_layout}
use Rattle.agv_world_core.specs.declared.row.JobRow.{JobRow}
use Rattle.agv_world_core.specs.declared.row.VehicleRow.{VehicleRow}
use Rattle.agv_world_core.proofs.lists.Orders.{names_total}
use Rattle.agv_desk.specs.InstantSteps.{cancel, instruct, pause, resume}
use Rattle.agv_desk.specs.LayoutSteps.{set_layout}
use Rattle.agv_desk.specs.OrderSteps.{advance, send_update, sent_on, trip_for}
use Rattle.agv_desk.specs.Outcomes.{Effect, answer_only}
use Rattle.agv_desk.specs.ReadSteps.{get_instant, get_job, get_load, get_order, get_vehicle}
use Rattle.agv_desk.specs.StateSteps.{with_state, idle_state}
use Rattle.agv_desk.specs.VehicleSteps.{new_vehicle, register_vehicle, resync}
use Rattle.agv_desk.specs.declared.answer.Answer.{Answer}
use Rattle.agv_desk.proofs.stock.StockInvariantChanges.{action_views_told, vehicle_kept}
use Rattle.agv_desk.proofs.row_changes.Given.{GivesItself}
use Rattle.agv_desk.proofs.outcomes.Keeping.{KeepsStock}
use Rattle.agv_desk.proofs.outcomes.Known.{none_some, same_some, unknown, vehicle_with}
use Rattle.agv_desk.proofs.outcomes.Ladders.{IfMade, made_refuse_if_none, made_judged, made_refuse_unless, made_unheld}
use Rattle.agv_desk.proofs.row_changes.LayoutRows.{made_given}
use Rattle.agv_desk.proofs.row_changes.Steps.{missing}
use Rattle.agv_desk.proofs.lists.Writes.{tally-none}

-- the places of a vehicle of which a row is told
capacity_told : (there : Option Vehicle) (row : VehicleRow) → option_map (λ (vehicle : Vehicle). vehicle.row) there ≡ Some row → capacity_for there ≤ row.capacity
capacity_told None row e = none_some e
capacity_told (Some vehicle) row e = subst (λ (one : VehicleRow). vehicle.row.capacity ≤ one.capacity) (same_some e) (itself vehicle.row.capacity)
  where
    itself : (n : ℕ) → n ≤ n
    itself n = omega arith

no_places : (there : Option Vehicle) (n : ℕ) → there ≡ None → capacity_for there ≤ n
no_places None n e = omega arith
no_places (Some vehicle) n e = none_some (sym e)

-- the trip of an order is the open trip
trip_open : (there : Option Trip) (order : List ℕ) (trip : Trip) → trip_for there order ≡ Some trip → there ≡ Some trip
trip_open None order trip e = none_some e
trip_open (Some other) order trip e = by_test (pointwise nat_eq other.order order) e
  where
    by_test : (same : Bool) → cond same (Some other) None ≡ Some trip → Some other ≡ Some trip
    by_test true is = is
    by_test false is = none_some is

module _ (world : World) (stock : HasStockInvariant world) where
  abbrev P : Effect → Type 0
  P = KeepsStock world

  -- ---- what is only told
  tells : (answer : Answer) → P (answer_only answer)
  tells answer = record { stock = stock }

  pub order_keeps : (key : VehicleKey) → IfMade P (get_order world key)
  order_keeps key = made_refuse_if_none P _ _ _ (λ row is. tells _)

  pub instant_keeps : (key : VehicleKey) → IfMade P (get_instant world key)
  instant_keeps key = made_refuse_if_none P _ _ _ (λ row is. tells _)

  pub load_keeps : (load : List ℕ) → IfMade P (get_load world load)
  load_keeps load = made_refuse_if_none P _ _ _ (λ place is. tells _)

  pub job_keeps : (job : List ℕ) → IfMade P (get_job world job)
  job_keeps job = made_refuse_if_none P _ _ _ (λ row is. tells _)

  pub vehicle_keeps : (key : VehicleKey) → IfMade P (get_vehicle world key)
  vehicle_keeps key = made_refuse_if_none P _ _ _ (λ row is. tells _)

  -- ---- the row of a vehicle
  noted : (key : VehicleKey) (row new : VehicleRow) → row_of world key ≡ Some row → new.capacity ≡ row.capacity → HasStockInvariant (with_vehicle world key (vehicle_with new (trip_of world key)))
  noted key row new is same =
      vehicle_kept world key (vehicle_with new (trip_of world key)) (action_views_told (finite.get world.vehicles key))
      (subst (λ n. capacity_of world key ≤ n) (sym same) (capacity_told (finite.get world.vehicles key) row is)) stock

  pub instruct_keeps : (at : ℕ) (key : VehicleKey) (row : VehicleRow) (kind : InstantKind) → row_of world key ≡ Some row → IfMade P (instruct at key row kind)
  instruct_keeps at key row kind there = made_refuse_unless P _ _ _ (λ free. made_refuse_if_none P _ _ _ (λ number is. record { stock = noted key row _ there refl }))

  pub cancel_keeps : (at : ℕ) (key : VehicleKey) → IfMade P (cancel world at key)
  cancel_keeps at key = made_refuse_if_none P _ _ _ (λ row there. made_refuse_unless P _ _ _ (λ has. instruct_keeps at key row _ there))

  pub pause_keeps : (at : ℕ) (key : VehicleKey) → IfMade P (pause world at key)
  pause_keeps at key = made_refuse_if_none P _ _ _ (λ row there. instruct_keeps at key row _ there)

  pub resume_keeps : (at : ℕ) (key : VehicleKey) → IfMade P (resume world at key)
  resume_keeps at key = made_refuse_if_none P _ _ _ (λ row there. instruct_keeps at key row _ there)

  pub resync_keeps : (key : VehicleKey) → IfMade P (resync world key)
  resync_keeps key = made_refuse_if_none P _ _ _ (λ row there. record { stock = noted key row _ there refl })

  pub idle_keeps : (key : VehicleKey) (row : VehicleRow) (state : StateMessage) → row_of world key ≡ Some row → IfMade P (idle_state key row state)
  idle_keeps key row state there = made_judged P _ _ (λ over is. record { stock = noted key row (with_state row state over) there refl })

  -- ---- a new vehicle
  pub register_keeps : (seats : ℕ) (key : VehicleKey) (node : List ℕ) (capacity : ℕ) → IfMade P (register_vehicle seats world key node capacity)
  register_keeps seats key node capacity =
      made_refuse_unless P _ _ _ (λ free. made_refuse_unless P _ _ _ (λ known_node. made_unheld P _ _ (λ opened. made_refuse_unless P _ _ _ (λ few.
      let none = unknown world key (missing _ free) in
      record { stock = vehicle_kept world key (new_vehicle capacity node) (ap action_views_for (sym none)) (no_places (finite.get world.vehicles key) capacity none) stock }))))

  -- ---- an update of a trip
  send_keeps : (at : ℕ) (key : VehicleKey) (row : VehicleRow) (trip : Trip) (update edges : ℕ) → row_of world key ≡ Some row → trip_of world key ≡ Some trip → IfMade P (send_update world at key row trip update edges)
  send_keeps at key row trip update edges there same =
      made_refuse_unless P _ _ _ (λ can. made_unheld P _ _ (λ opened. made_refuse_if_none P _ _ _ (λ number is.
      record {
        stock = vehicle_kept world key (sent_on row at number (Some (released trip edges))) (ap action_views_by (sym same) ∙ action_views_told (finite.get world.vehicles key))
            (capacity_told (finite.get world.vehicles key) row there) stock;
      })))

  pub advance_keeps : (at : ℕ) (key : VehicleKey) (order : List ℕ) (update edges : ℕ) → IfMade P (advance world at key order update edges)
  advance_keeps at key order update edges =
      made_refuse_if_none P _ _ _ (λ row there. made_refuse_if_none P _ _ _ (λ trip is. made_refuse_unless P _ _ _ (λ next.
      made_refuse_unless P _ _ _ (λ confirmed. made_refuse_unless P _ _ _ (λ ready. made_refuse_unless P _ _ _ (λ going.
      send_keeps at key row trip update edges there (trip_open (trip_of world key) order trip is)))))))

-- ---- the layout

-- where no layout is set, the layout is empty
is_empty : (gives : GivesItself) (world : World) → layout_set world ≡ None → (world.layout ≡ empty_layout) ⊎ KeepsRules world.layout → world.layout ≡ empty_layout
unfolding layout_set
is_empty gives world unset (inl empty) = empty
is_empty gives world unset (inr keeps) = none_some (sym unset ∙ ap set_where (gives world.layout keeps))

module _ (gives : GivesItself) (seats : ℕ) (world : World) (lawful : HasLawfulVehicles seats world) (stock : HasStockInvariant world) where
  module _ (empty : world.layout ≡ empty_layout) (layout : Layout) where
    no_station : (station : List ℕ) (site : StationSite) → IsStation world.layout station site → ⊥
    no_station station site there = none_some (sym (finite.get-empty name_cmp station) ∙ ap (λ (one : Layout). finite.get one.stations station) (sym empty) ∙ there)

    still_known : (at : Place) → IsKnownPlace world.layout at → IsKnownPlace layout at
    still_known (place.Station id) known = absurd (no_station id known.0 known.1)
    still_known (place.Vehicle key) known = tt
    still_known place.Checking known = tt
    still_known place.Left known = tt

    at_none : (station : List ℕ) (at : Place) → IsKnownPlace world.layout at → is_at station at ≡ false
    at_none station (place.Station id) known = absurd (no_station id known.0 known.1)
    at_none station (place.Vehicle key) known = refl
    at_none station place.Checking known = refl
    at_none station place.Left known = refl

    no_job : (job : List ℕ) (row : JobRow) → finite.get world.jobs job ≡ Some row → ⊥
    no_job job row there = let origin = (stock.known job row there).origin in no_station row.origin origin.0 origin.1

    none_of_both : (n m c : ℕ) → n ≡ 0 → m ≡ 0 → n + m ≤ c
    none_of_both n m c none no_one = omega arith

    pub with_layout_kept : HasStockInvariant (record world { layout = layout })
    with_layout_kept = record {
      few_loads = stock.few_loads;
      few_jobs = stock.few_jobs;
      loads_named = stock.loads_named;
      jobs_named = stock.jobs_named;
      known_places = λ load at there. still_known at (stock.known_places load at there);
      known = λ job row there. absurd (no_job job row there);
      room = λ station site there. none_of_both _ _ _
          (tally-none names_total (is_at station) world.places (λ load at there. at_none station at (stock.known_places load at there)))
          (tally-none names_total (is_live_to station) world.jobs (λ job row there. absurd (no_job job row there)));
      within_capacity = stock.within_capacity;
      one_job = stock.one_job;
      waiting = stock.waiting;
      riding = stock.riding;
      carried = stock.carried;
      once = stock.once;
    }

  pub layout_keeps : (rows : List LayoutRow) → IfMade (KeepsStock world) (set_layout world rows)
  layout_keeps rows =
      made_refuse_unless (KeepsStock world) _ _ _ (λ unset. made_given (KeepsStock world) _ _ (λ layout read.
      record { stock = with_layout_kept (is_empty gives world (missing _ unset) lawful.laid) layout }))
