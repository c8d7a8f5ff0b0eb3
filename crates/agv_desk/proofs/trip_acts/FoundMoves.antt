-- In each call, an act that becomes finished finds its load: only a state of a vehicle on its trip moves loads by acts.
use Rattle.std.proofs.Common.{◌≡◌, ◌≤◌, ℕ, List, [], ◌∷◌, map, length, Option, None, Some, refl, sym, ap, subst, ◌∙◌, arith}
use Rattle.std.proofs.lemmas.List.{length-map}
use Rattle.std.specs.FinMap as finite
use Rattle.std.specs.List.{zip}
use Rattle.agv_header.specs.declared.key.VehicleKey.{VehicleKey}
use Rattle.agv_layout.specs.declared.row.LayoutRow.{LayoutRow}
use Rattle.agv_message_core.specs.declared.instant.InstantKind.{InstantKind}
use Rattle.agv_message_core.specs.declared.state.StateMessage.{StateMessage}
use Rattle.agv_order.specs.Trips.{task_of}
use Rattle.agv_order.specs.declared.trip.Trip.{Trip}
use Rattle.agv_stock.specs.declared.place.Place.{Place}
use Rattle.agv_world_core.specs.StockInvariant.{HasStockInvariant, Places, capacity_of, action_views_of}
use Rattle.agv_world_core.specs.LawfulParts.{HasLawfulVehicles}
use Rattle.agv_world_core.specs.Questions.{row_of, trip_of}
use Rattle.agv_world_core.specs.Worlds.{World}
use Rattle.agv_world_core.specs.declared.row.VehicleRow.{VehicleRow}
use Rattle.agv_desk.specs.ActedMoves.{FindsLoads}
use Rattle.agv_desk.specs.DriveSteps.{AskedDrive, start_drive}
use Rattle.agv_desk.specs.InstantSteps.{cancel, instruct, pause, resume}
use Rattle.agv_desk.specs.JobSteps.{add_job, stop_job}
use Rattle.agv_desk.specs.LayoutSteps.{set_layout}
use Rattle.agv_desk.specs.LoadSteps.{register_load, correct_load, leave_load}
use Rattle.agv_desk.specs.OrderSteps.{AskedOrder, advance, start_order}
use Rattle.agv_desk.specs.Outcomes.{Acted, Cause, Effect, Move}
use Rattle.agv_desk.specs.ReadSteps.{get_order, get_instant, get_load, get_job, get_vehicle}
use Rattle.agv_desk.specs.StateSteps.{fresh_state, idle_state, pending_of, take_state, trip_state}
use Rattle.agv_desk.specs.Step.{step}
use Rattle.agv_desk.specs.StocktakeSteps.{Row, count_move, take_stock}
use Rattle.agv_desk.specs.VehicleSteps.{place_vehicle, register_vehicle, resync}
use Rattle.agv_desk.specs.declared.call.Call.{Call}
use Rattle.agv_desk.specs.declared.call.Call.TheVariants as call
use Rattle.agv_desk.proofs.stock.StockInvariantOrders.{made_planned}
use Rattle.agv_desk.proofs.stock.StockInvariantTrips.{PairsAsSaid, entered, fit_zip, is_trip}
use Rattle.agv_desk.proofs.trip_acts.ActionViews.{AfterPicks}
use Rattle.agv_desk.proofs.trip_acts.FoundActs.{EachMove, Finds, each_at, turns_kept, walk_finds}
use Rattle.agv_desk.proofs.row_changes.Given.{AdvancesTrips}
use Rattle.agv_desk.proofs.outcomes.Known.{known, vehicle_with}
use Rattle.agv_desk.proofs.outcomes.Ladders.{IfMade, made_branch, made_checked, made_refuse_if_none, made_judged, made_refuse_unless, made_unheld}
use Rattle.agv_desk.proofs.row_changes.LayoutRows.{made_given}
use Rattle.agv_desk.proofs.trip_acts.TripActs.{after_picks, all_after_is, zip_renews}

-- ---- moves that no act causes

abbrev IsPlain : Cause → Type 0
IsPlain Cause.Registered = Unit {0}
IsPlain Cause.Recorded = Unit {0}
IsPlain (Acted kind order job) = ⊥

abbrev AllPlain : List Move → Type 0
AllPlain [] = Unit {0}
AllPlain (move ∷ moves) = IsPlain move.cause × AllPlain moves

all_counted : (loads : List (List ℕ × Place)) → AllPlain (map count_move loads)
all_counted [] = tt
all_counted (load ∷ loads) = (tt, all_counted loads)

plain_each : (world : World) (moves : List Move) (places : Places) → AllPlain moves → EachMove (Finds world) places moves
plain_each world [] places plain = tt
plain_each world (move ∷ moves) places plain = (λ kind order job is. absurd (subst IsPlain is plain.0), plain_each world moves (finite.insert places move.load move.place) plain.1)

finds_loads : (world : World) (effect : Effect) → EachMove (Finds world) world.places effect.moves → FindsLoads world effect
finds_loads world effect each =
    record { finds = λ before after move kind order job is cause. each_at (Finds world) effect.moves world.places each before after move is kind order job cause }

module _ (world : World) where
  abbrev P : Effect → Type 0
  P = FindsLoads world

  plain : (effect : Effect) → AllPlain effect.moves → P effect
  plain effect all = finds_loads world effect (plain_each world effect.moves world.places all)

  -- ---- loads and jobs
  registers_load : (load : List ℕ) (station : Option (List ℕ)) → IfMade P (register_load world load station)
  registers_load load station = made_checked P _ _ (made_refuse_unless P _ _ _ (λ few. plain _ (tt, tt)))

  corrects_load : (load reference : List ℕ) (station : Option (List ℕ)) → IfMade P (correct_load world load reference station)
  corrects_load load reference station = made_refuse_unless P _ _ _ (λ new. made_checked P _ _ (made_refuse_unless P _ _ _ (λ few. plain _ (tt, tt))))

  lets_load_leave : (load reference : List ℕ) → IfMade P (leave_load world load reference)
  lets_load_leave load reference = made_refuse_unless P _ _ _ (λ new. made_checked P _ _ (made_refuse_unless P _ _ _ (λ few. plain _ (tt, tt))))

  adds_job : (job load to : List ℕ) → IfMade P (add_job world job load to)
  adds_job job load to = made_checked P _ _ (made_refuse_if_none P _ _ _ (λ origin is. made_refuse_unless P _ _ _ (λ few. plain _ tt)))

  stops_job : (job : List ℕ) → IfMade P (stop_job world job)
  stops_job job = made_refuse_if_none P _ _ _ (λ row is. made_refuse_unless P _ _ _ (λ waits. plain _ tt))

  takes_stock : (reference : List ℕ) (rows : List Row) → IfMade P (take_stock world reference rows)
  takes_stock reference rows =
      made_refuse_unless P _ _ _ (λ a. made_refuse_unless P _ _ _ (λ b. made_refuse_unless P _ _ _ (λ c.
      made_refuse_unless P _ _ _ (λ d. made_refuse_unless P _ _ _ (λ e. made_refuse_unless P _ _ _ (λ f. made_refuse_unless P _ _ _ (λ g.
      plain _ (all_counted _))))))))

  -- ---- what is only told, the layout and the vehicles
  tells_order : (key : VehicleKey) → IfMade P (get_order world key)
  tells_order key = made_refuse_if_none P _ _ _ (λ row is. plain _ tt)

  tells_instant : (key : VehicleKey) → IfMade P (get_instant world key)
  tells_instant key = made_refuse_if_none P _ _ _ (λ row is. plain _ tt)

  tells_load : (load : List ℕ) → IfMade P (get_load world load)
  tells_load load = made_refuse_if_none P _ _ _ (λ place is. plain _ tt)

  tells_job : (job : List ℕ) → IfMade P (get_job world job)
  tells_job job = made_refuse_if_none P _ _ _ (λ row is. plain _ tt)

  tells_vehicle : (key : VehicleKey) → IfMade P (get_vehicle world key)
  tells_vehicle key = made_refuse_if_none P _ _ _ (λ row is. plain _ tt)

  sets_layout : (rows : List LayoutRow) → IfMade P (set_layout world rows)
  sets_layout rows = made_refuse_unless P _ _ _ (λ unset. made_given P _ _ (λ layout read. plain _ tt))

  instructs : (at : ℕ) (key : VehicleKey) (row : VehicleRow) (kind : InstantKind) → IfMade P (instruct at key row kind)
  instructs at key row kind = made_refuse_unless P _ _ _ (λ free. made_refuse_if_none P _ _ _ (λ number is. plain _ tt))

  cancels : (at : ℕ) (key : VehicleKey) → IfMade P (cancel world at key)
  cancels at key = made_refuse_if_none P _ _ _ (λ row there. made_refuse_unless P _ _ _ (λ has. instructs at key row _))

  pauses : (at : ℕ) (key : VehicleKey) → IfMade P (pause world at key)
  pauses at key = made_refuse_if_none P _ _ _ (λ row there. instructs at key row _)

  resumes : (at : ℕ) (key : VehicleKey) → IfMade P (resume world at key)
  resumes at key = made_refuse_if_none P _ _ _ (λ row there. instructs at key row _)

  begins_anew : (key : VehicleKey) → IfMade P (resync world key)
  begins_anew key = made_refuse_if_none P _ _ _ (λ row there. plain _ tt)

  registers_vehicle : (seats : ℕ) (key : VehicleKey) (node : List ℕ) (capacity : ℕ) → IfMade P (register_vehicle seats world key node capacity)
  registers_vehicle seats key node capacity =
      made_refuse_unless P _ _ _ (λ free. made_refuse_unless P _ _ _ (λ known_node. made_unheld P _ _ (λ opened. made_refuse_unless P _ _ _ (λ few. plain _ tt))))

  places_vehicle : (key : VehicleKey) (reference node : List ℕ) → IfMade P (place_vehicle world key reference node)
  places_vehicle key reference node =
      made_refuse_unless P _ _ _ (λ new. made_refuse_if_none P _ _ _ (λ row there. made_refuse_unless P _ _ _ (λ known_node.
      made_unheld P _ _ (λ opened. made_refuse_unless P _ _ _ (λ few. plain _ tt)))))

  -- ---- orders
  starts_order : (asked : AskedOrder) → IfMade P (start_order world asked)
  starts_order asked =
      made_refuse_unless P _ _ _ (λ a. made_refuse_if_none P _ _ _ (λ row b. made_refuse_unless P _ _ _ (λ c. made_refuse_if_none P _ _ _ (λ jobs d.
      made_refuse_unless P _ _ _ (λ e. made_refuse_unless P _ _ _ (λ f. made_refuse_unless P _ _ _ (λ g.
      made_refuse_unless P _ _ _ (λ h. made_refuse_unless P _ _ _ (λ i. made_refuse_unless P _ _ _ (λ j. made_refuse_unless P _ _ _ (λ k.
      made_refuse_if_none P _ _ _ (λ layout l. made_planned P _ _ (λ trip m. made_unheld P _ _ (λ n. made_refuse_if_none P _ _ _ (λ number o. made_refuse_unless P _ _ _ (λ p.
      plain _ tt))))))))))))))))

  starts_drive : (asked : AskedDrive) → IfMade P (start_drive world asked)
  starts_drive asked =
      made_refuse_unless P _ _ _ (λ a. made_refuse_if_none P _ _ _ (λ row b. made_refuse_unless P _ _ _ (λ c.
      made_refuse_unless P _ _ _ (λ d. made_refuse_unless P _ _ _ (λ e. made_refuse_unless P _ _ _ (λ f.
      made_refuse_unless P _ _ _ (λ g. made_refuse_unless P _ _ _ (λ h.
      made_refuse_if_none P _ _ _ (λ layout i. made_planned P _ _ (λ trip j. made_unheld P _ _ (λ k. made_refuse_if_none P _ _ _ (λ number l. made_refuse_unless P _ _ _ (λ m.
      plain _ tt)))))))))))))

  advances_trip : (at : ℕ) (key : VehicleKey) (order : List ℕ) (update edges : ℕ) → IfMade P (advance world at key order update edges)
  advances_trip at key order update edges =
      made_refuse_if_none P _ _ _ (λ row a. made_refuse_if_none P _ _ _ (λ trip b. made_refuse_unless P _ _ _ (λ c.
      made_refuse_unless P _ _ _ (λ d. made_refuse_unless P _ _ _ (λ e. made_refuse_unless P _ _ _ (λ f.
      made_refuse_unless P _ _ _ (λ g. made_unheld P _ _ (λ h. made_refuse_if_none P _ _ _ (λ number i. plain _ tt)))))))))

  -- ---- states
  takes_idle : (key : VehicleKey) (row : VehicleRow) (state : StateMessage) → IfMade P (idle_state key row state)
  takes_idle key row state = made_judged P _ _ (λ over is. plain _ tt)

  module _ (fits : PairsAsSaid) (advances : AdvancesTrips) (seats : ℕ) (lawful : HasLawfulVehicles seats world) (stock : HasStockInvariant world) where
    goes_on_trip : (key : VehicleKey) (row : VehicleRow) (trip : Trip) (state : StateMessage) → finite.get world.vehicles key ≡ Some (vehicle_with row (Some trip)) → IfMade P (trip_state world key row trip state)
    goes_on_trip key row trip state there =
        made_judged P _ _ (λ progress judged.
        let well = (is_trip fits advances seats world lawful stock key row trip there).well_formed in
        let few : length trip.acts ≤ 8 = few_acts well.planned.few in
        let step = advances trip (pending_of row) state progress well.under_way few judged in
        let turns = turns_kept trip (pending_of row) state progress few judged in
        let acts = zip trip.acts progress.statuses in
        finds_loads world _
        (walk_finds world.layout (action_views_of world) (capacity_of world) key world trip (vehicle_with row (Some trip), there, refl) [] acts world.places world.jobs
        (zip_renews trip.acts progress.statuses step.acts) (fit_zip fits advances seats world lawful stock key row trip there state progress step)
        (subst AfterPicks (sym (all_after_is acts)) (after_picks _ turns)) (λ k job at. refl)
        (entered fits advances seats world lawful stock key row trip there state progress step)))
      where
        few_acts : length (map task_of trip.acts) ≤ 8 → length trip.acts ≤ 8
        few_acts few = omega (arith, length-map trip.acts task_of)

    takes_fresh : (key : VehicleKey) (row : VehicleRow) (state : StateMessage) → row_of world key ≡ Some row → (trip : Option Trip) → trip_of world key ≡ trip → IfMade P (fresh_state world key row trip state)
    takes_fresh key row state there None same = takes_idle key row state
    takes_fresh key row state there (Some trip) same =
        made_branch P _ _ _ (goes_on_trip key row trip state (known world key row there ∙ ap (λ t. Some (vehicle_with row t)) same))
        (made_refuse_unless P _ _ _ (λ fresh. takes_idle key row state))

    takes_state : (key : VehicleKey) (state : StateMessage) → IfMade P (take_state world key state)
    takes_state key state = made_refuse_if_none P _ _ _ (λ row there. made_branch P _ _ _ (takes_fresh key row state there (trip_of world key) refl) (plain _ tt))

    -- ---- every call
    pub finds_all : (at : ℕ) (made : Call) → IfMade P (step seats world at made)
    finds_all at (call.SetLayout rows) = sets_layout rows
    finds_all at (call.RegisterVehicle key node capacity) = registers_vehicle seats key node capacity
    finds_all at (call.RegisterLoad load station) = registers_load load station
    finds_all at (call.CorrectLoad load reference station) = corrects_load load reference station
    finds_all at (call.LeaveLoad load reference) = lets_load_leave load reference
    finds_all at (call.AddJob job load to) = adds_job job load to
    finds_all at (call.StopJob job) = stops_job job
    finds_all at (call.StartOrder order key stops edges) = starts_order (record { at = at; order = order; key = key; stops = stops; edges = edges })
    finds_all at (call.StartDrive order key to edges) = starts_drive (record { at = at; order = order; key = key; to = to; edges = edges })
    finds_all at (call.Advance key order update edges) = advances_trip at key order update edges
    finds_all at (call.Cancel key) = cancels at key
    finds_all at (call.Pause key) = pauses at key
    finds_all at (call.Resume key) = resumes at key
    finds_all at (call.PlaceVehicle key reference node) = places_vehicle key reference node
    finds_all at (call.Resync key) = begins_anew key
    finds_all at (call.State key state) = takes_state key state
    finds_all at (call.GetOrder key) = tells_order key
    finds_all at (call.GetInstant key) = tells_instant key
    finds_all at (call.Stocktake reference rows) = takes_stock reference rows
    finds_all at (call.GetLoad load) = tells_load load
    finds_all at (call.GetJob job) = tells_job job
    finds_all at (call.GetVehicle key) = tells_vehicle key
    finds_all at (call.Report report) = plain _ tt
