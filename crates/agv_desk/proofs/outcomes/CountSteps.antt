-- What each call adds to the counts, and that what it adds to was below its limit.
use Rattle.std.proofs.Common.{◌≡◌, ◌≢◌, ◌+◌, ◌<◌, ℕ, Bool, true, false, not, cond, is_some, List, zip, Contains, Option, None, Some, refl, sym, ap, subst, ◌∙◌, ltb-true}
use Rattle.std.proofs.lemmas.Bool.{and_parts, not-true}
use Rattle.std.specs.FinMap as finite
use Rattle.std.specs.FinSet as set
use Rattle.agv_header.specs.KeyOrder.{key_cmp-total}
use Rattle.agv_header.specs.declared.key.VehicleKey.{VehicleKey}
use Rattle.agv_layout.specs.declared.row.LayoutRow.{LayoutRow}
use Rattle.agv_message_core.specs.declared.instant.InstantKind.{InstantKind}
use Rattle.agv_message_core.specs.declared.state.StateMessage.{StateMessage}
use Rattle.agv_order.specs.declared.act.Act.{Act}
use Rattle.agv_order.specs.declared.trip.Trip.{Trip}
use Rattle.agv_world_core.specs.ConsistentTrips.{HasTrip}
use Rattle.agv_world_core.specs.Counts.{limit_of, one_more}
use Rattle.agv_world_core.specs.LawfulParts.{HasLawfulLoads}
use Rattle.agv_world_core.specs.Questions.{count_of, is_used, row_of, trip_of}
use Rattle.agv_world_core.specs.Worlds.{Vehicle, World}
use Rattle.agv_world_core.specs.declared.floor.Counted.{Counted}
use Rattle.agv_world_core.specs.declared.floor.Counted.TheVariants as counted
use Rattle.agv_world_core.specs.declared.key.UseKind.TheVariants as used
use Rattle.agv_world_core.specs.declared.row.VehicleRow.{VehicleRow}
use Rattle.agv_world_core.proofs.lists.Orders.{names_total}
use Rattle.agv_desk.specs.Causes.{is_refusal}
use Rattle.agv_desk.specs.Counts.{added, adds_to}
use Rattle.agv_desk.specs.DriveSteps.{AskedDrive, start_drive}
use Rattle.agv_desk.specs.InstantSteps.{cancel, instruct, pause, resume}
use Rattle.agv_desk.specs.JobSteps.{add_job, stop_job}
use Rattle.agv_desk.specs.LayoutSteps.{set_layout}
use Rattle.agv_desk.specs.LoadSteps.{correct_load, leave_load, place_of, register_load}
use Rattle.agv_desk.specs.OrderSteps.{AskedOrder, advance, start_order}
use Rattle.agv_desk.specs.Outcomes.{Effect, Made, RowOnly, Outcome, Refused, after, answer_of, answer_only, with_effect}
use Rattle.agv_desk.specs.Shared.{goal_of, is_in_job, is_new}
use Rattle.agv_desk.specs.StateSteps.{fresh_state, idle_state, take_state, trip_state}
use Rattle.agv_desk.specs.Step.{step}
use Rattle.agv_desk.specs.StocktakeSteps.{Row, take_stock}
use Rattle.agv_desk.specs.VehicleSteps.{new_vehicle, place_vehicle, register_vehicle, resync}
use Rattle.agv_desk.specs.declared.answer.Answer.{Answer}
use Rattle.agv_desk.specs.declared.answer.Answer.TheVariants as answer
use Rattle.agv_desk.specs.declared.call.Call.{Call}
use Rattle.agv_desk.specs.declared.call.Call.TheVariants as call
use Rattle.agv_desk.proofs.stock.StockInvariantCounts.{as_many_loads}
use Rattle.agv_desk.proofs.stock.StockInvariantOrders.{made_planned}
use Rattle.agv_desk.proofs.outcomes.CausedMoves.{refused_leaves}
use Rattle.agv_desk.proofs.outcomes.Grown.{Grows, IsKnown, as_many, counted_is, grown, len_act_jobs, len_act_moves, len_known, len_name, len_new, len_riding, len_stopped, one_reference, same}
use Rattle.agv_desk.proofs.outcomes.Known.{has_trip, known, none_some, same_some, unknown, vehicle_with}
use Rattle.agv_desk.proofs.outcomes.Ladders.{IfMade, made_branch, made_refuse_if_none, made_judged, made_passed, made_refuse_unless, made_unheld}
use Rattle.agv_desk.proofs.row_changes.LayoutRows.{made_given}
use Rattle.agv_desk.proofs.row_changes.Steps.{missing}
use Rattle.agv_desk.proofs.stock.StockChecks.{adds, corrects, leaves, not_there, registers}

-- there is one more of the kind after the effect, if it has one, and that was below its limit
pub record IsCounted (world : World) (kind : Option Counted) (effect : Effect) : Type 0 where
  pub grows : HasLawfulLoads world → Grows world (with_effect world effect) kind
  pub below : (what : Counted) → kind ≡ Some what → count_of world what < limit_of what

module _ (world : World) where
  counts_none : (effect : Effect) → (HasLawfulLoads world → Grows world (with_effect world effect) None) → IsCounted world None effect
  counts_none effect grows = record { grows = grows; below = λ what is. none_some is }

  counts_one : (kind : Counted) (effect : Effect) → count_of world kind < limit_of kind → (HasLawfulLoads world → Grows world (with_effect world effect) (Some kind)) → IsCounted world (Some kind) effect
  counts_one kind effect few grows = record { grows = grows; below = λ what is. subst (λ one. count_of world one < limit_of one) (same_some is) few }

  -- ---- what is written

  vehicle_len : (key : VehicleKey) (row : VehicleRow) (new : Vehicle) → row_of world key ≡ Some row → finite.len (finite.insert world.vehicles key new) ≡ finite.len world.vehicles
  vehicle_len key row new there = len_known key_cmp-total world.vehicles key new (vehicle_with row (trip_of world key), known world key row there)

  order_len : (order : List ℕ) → not (is_used world used.Order order) ≡ true → set.len (set.insert world.orders order) ≡ set.len world.orders + 1
  unfolding is_used
  order_len order new = len_name world.orders order (not-true _ new)

  reference_len : (reference : List ℕ) → is_new world reference ≡ true → set.len (set.insert world.references reference) ≡ set.len world.references + 1
  unfolding is_used
  reference_len reference new = len_name world.references reference (not-true _ new)

  -- the load of an act of an open trip is known
  load_known : HasLawfulLoads world → (key : VehicleKey) (trip : Trip) → HasTrip world key trip → (act : Act) → Contains trip.acts act → IsKnown world.places act.load
  load_known lawful key trip open_trip act among =
      let named = lawful.joined.acts key trip act (record { open_trip = open_trip; among = among }) in
      let load = (lawful.jobs act.job named.row named.job).load in
      (load.0, ap (finite.get world.places) (sym named.load) ∙ load.1)

  -- ---- the calls that add nothing

  abbrev P : Effect → Type 0
  P = IsCounted world None

  tells : (said : Answer) → P (answer_only said)
  tells said = counts_none (answer_only said) (λ lawful. as_many world _ refl refl refl refl refl)

  notes : (said : Answer) (key : VehicleKey) (row new : VehicleRow) → row_of world key ≡ Some row → P (record (answer_only said) { touched = RowOnly key row new })
  notes said key row new there =
      counts_none (record (answer_only said) { touched = RowOnly key row new }) (λ lawful. as_many world _ (vehicle_len key row (vehicle_with new (trip_of world key)) there) refl refl refl refl)

  sets_layout : (rows : List LayoutRow) → IfMade P (set_layout world rows)
  sets_layout rows = made_refuse_unless P _ _ _ (λ unset. made_given P _ _ (λ layout read. counts_none _ (λ lawful. as_many world _ refl refl refl refl refl)))

  stops_job : (job : List ℕ) → IfMade P (stop_job world job)
  stops_job job =
      made_refuse_if_none P _ _ _ (λ row there.
      made_refuse_unless P _ _ _ (λ waits. counts_none _ (λ lawful. as_many world _ refl refl (len_known names_total world.jobs job _ (row, there)) refl refl)))

  instructs : (at : ℕ) (key : VehicleKey) (row : VehicleRow) (kind : InstantKind) → row_of world key ≡ Some row → IfMade P (instruct at key row kind)
  instructs at key row kind there = made_refuse_unless P _ _ _ (λ free. made_refuse_if_none P _ _ _ (λ number is. notes (answer.Instructed number) key row _ there))

  cancels : (at : ℕ) (key : VehicleKey) → IfMade P (cancel world at key)
  cancels at key = made_refuse_if_none P _ _ _ (λ row there. made_refuse_unless P _ _ _ (λ has. instructs at key row _ there))

  pauses : (at : ℕ) (key : VehicleKey) → IfMade P (pause world at key)
  pauses at key = made_refuse_if_none P _ _ _ (λ row there. instructs at key row _ there)

  resumes : (at : ℕ) (key : VehicleKey) → IfMade P (resume world at key)
  resumes at key = made_refuse_if_none P _ _ _ (λ row there. instructs at key row _ there)

  begins_anew : (key : VehicleKey) → IfMade P (resync world key)
  begins_anew key = made_refuse_if_none P _ _ _ (λ row there. notes answer.Done key row _ there)

  advances_trip : (at : ℕ) (key : VehicleKey) (order : List ℕ) (update edges : ℕ) → IfMade P (advance world at key order update edges)
  advances_trip at key order update edges =
      made_refuse_if_none P _ _ _ (λ row there. made_refuse_if_none P _ _ _ (λ trip b. made_refuse_unless P _ _ _ (λ c.
      made_refuse_unless P _ _ _ (λ d. made_refuse_unless P _ _ _ (λ e. made_refuse_unless P _ _ _ (λ f.
      made_refuse_unless P _ _ _ (λ g. made_unheld P _ _ (λ h.
      made_refuse_if_none P _ _ _ (λ number i. counts_none _ (λ lawful. as_many world _ (vehicle_len key row _ there) refl refl refl refl))))))))))

  -- ---- states

  takes_idle : (key : VehicleKey) (row : VehicleRow) (state : StateMessage) → row_of world key ≡ Some row → IfMade P (idle_state key row state)
  takes_idle key row state there = made_judged P _ _ (λ over is. notes (answer.Accepted true) key row _ there)

  goes_on_trip : (key : VehicleKey) (row : VehicleRow) (trip : Trip) (state : StateMessage) → row_of world key ≡ Some row → trip_of world key ≡ Some trip → IfMade P (trip_state world key row trip state)
  goes_on_trip key row trip state there same_trip =
      made_judged P _ _ (λ progress is. counts_none _ (λ lawful. as_many world _ (vehicle_len key row _ there)
      (len_act_moves world.places key trip.order trip.acts progress.statuses (load_known lawful key trip (has_trip world key trip same_trip))) (len_act_jobs world (is_some progress.«end») (zip trip.acts progress.statuses)) refl refl))

  takes_fresh : (key : VehicleKey) (row : VehicleRow) (state : StateMessage) → row_of world key ≡ Some row → (trip : Option Trip) → trip_of world key ≡ trip → IfMade P (fresh_state world key row trip state)
  takes_fresh key row state there None same_trip = takes_idle key row state there
  takes_fresh key row state there (Some trip) same_trip =
      made_branch P _ _ _ (goes_on_trip key row trip state there same_trip) (made_refuse_unless P _ _ _ (λ fresh. takes_idle key row state there))

  takes_state : (key : VehicleKey) (state : StateMessage) → IfMade P (take_state world key state)
  takes_state key state = made_refuse_if_none P _ _ _ (λ row there. made_branch P _ _ _ (takes_fresh key row state there (trip_of world key) refl) (tells (answer.Accepted false)))

  -- ---- the calls that add one

  registers_vehicle : (seats : ℕ) (key : VehicleKey) (node : List ℕ) (capacity : ℕ) → IfMade (IsCounted world (Some counted.Vehicles)) (register_vehicle seats world key node capacity)
  registers_vehicle seats key node capacity =
      let One : Effect → Type 0 = IsCounted world (Some counted.Vehicles) in
      made_refuse_unless One _ _ _ (λ free. made_refuse_unless One _ _ _ (λ known_node. made_unheld One _ _ (λ opened. made_refuse_unless One _ _ _ (λ limits.
      counts_one counted.Vehicles _ (ltb-true _ _ (and_parts _ _ limits).0) (λ lawful. record {
        vehicles = len_new key_cmp-total world.vehicles key (new_vehicle capacity node) (unknown world key (missing _ free));
        loads = same _ _ refl;
        jobs = same _ _ refl;
        orders = same _ _ refl;
        references = same _ _ refl;
      })))))

  registers_load : (load : List ℕ) (station : Option (List ℕ)) → IfMade (IsCounted world (Some counted.Loads)) (register_load world load station)
  registers_load load station =
      let One : Effect → Type 0 = IsCounted world (Some counted.Loads) in
      made_passed One _ _ (λ passed. made_refuse_unless One _ _ _ (λ few.
      counts_one counted.Loads _ (ltb-true _ _ few) (λ lawful. record {
        vehicles = same _ _ refl;
        loads = len_new names_total world.places load (place_of station) (registers (finite.get world.places load) (goal_of world station) passed).0;
        jobs = same _ _ refl;
        orders = same _ _ refl;
        references = same _ _ refl;
      })))

  adds_job : (job load to : List ℕ) → IfMade (IsCounted world (Some counted.Jobs)) (add_job world job load to)
  adds_job job load to =
      let One : Effect → Type 0 = IsCounted world (Some counted.Jobs) in
      made_passed One _ _ (λ passed. made_refuse_if_none One _ _ _ (λ origin stands. made_refuse_unless One _ _ _ (λ few.
      counts_one counted.Jobs _ (ltb-true _ _ few) (λ lawful. record {
        vehicles = same _ _ refl;
        loads = same _ _ refl;
        jobs = len_new names_total world.jobs job _ (not_there _ (ap not (adds (is_some (finite.get world.jobs job)) (finite.get world.places load) (is_in_job world load) (goal_of world (Some to)) passed).0));
        orders = same _ _ refl;
        references = same _ _ refl;
      }))))

  starts_order : (asked : AskedOrder) → IfMade (IsCounted world (Some counted.Orders)) (start_order world asked)
  starts_order asked =
      let One : Effect → Type 0 = IsCounted world (Some counted.Orders) in
      made_refuse_unless One _ _ _ (λ new. made_refuse_if_none One _ _ _ (λ row there. made_refuse_unless One _ _ _ (λ c. made_refuse_if_none One _ _ _ (λ jobs read.
      made_refuse_unless One _ _ _ (λ e. made_refuse_unless One _ _ _ (λ f. made_refuse_unless One _ _ _ (λ g.
      made_refuse_unless One _ _ _ (λ h. made_refuse_unless One _ _ _ (λ i. made_refuse_unless One _ _ _ (λ j. made_refuse_unless One _ _ _ (λ k.
      made_refuse_if_none One _ _ _ (λ layout l. made_planned One _ _ (λ trip m. made_unheld One _ _ (λ n.
      made_refuse_if_none One _ _ _ (λ number o. made_refuse_unless One _ _ _ (λ few.
      counts_one counted.Orders _ (ltb-true _ _ few) (λ lawful. record {
        vehicles = same _ _ (vehicle_len asked.key row _ there);
        loads = same _ _ refl;
        jobs = same _ _ (len_riding world asked.stops jobs read);
        orders = order_len asked.order new;
        references = same _ _ refl;
      })))))))))))))))))

  starts_drive : (asked : AskedDrive) → IfMade (IsCounted world (Some counted.Orders)) (start_drive world asked)
  starts_drive asked =
      let One : Effect → Type 0 = IsCounted world (Some counted.Orders) in
      made_refuse_unless One _ _ _ (λ new. made_refuse_if_none One _ _ _ (λ row there. made_refuse_unless One _ _ _ (λ c.
      made_refuse_unless One _ _ _ (λ d. made_refuse_unless One _ _ _ (λ e. made_refuse_unless One _ _ _ (λ f.
      made_refuse_unless One _ _ _ (λ g. made_refuse_unless One _ _ _ (λ h.
      made_refuse_if_none One _ _ _ (λ layout i. made_planned One _ _ (λ trip j. made_unheld One _ _ (λ k.
      made_refuse_if_none One _ _ _ (λ number l. made_refuse_unless One _ _ _ (λ few.
      counts_one counted.Orders _ (ltb-true _ _ few) (λ lawful. record {
        vehicles = same _ _ (vehicle_len asked.key row _ there);
        loads = same _ _ refl;
        jobs = same _ _ refl;
        orders = order_len asked.order new;
        references = same _ _ refl;
      }))))))))))))))

  -- ---- the calls that use a reference

  abbrev R : Effect → Type 0
  R = IsCounted world (Some counted.References)

  corrects_load : (load reference : List ℕ) (station : Option (List ℕ)) → IfMade R (correct_load world load reference station)
  corrects_load load reference station =
      made_refuse_unless R _ _ _ (λ new. made_passed R _ _ (λ passed. made_refuse_unless R _ _ _ (λ few.
      let is = corrects (finite.get world.places load) (is_in_job world load) (goal_of world station) passed in
      counts_one counted.References _ (ltb-true _ _ few) (λ lawful.
      one_reference world _ refl (len_known names_total world.places load (place_of station) (is.0, is.1)) refl refl (reference_len reference new)))))

  lets_load_leave : (load reference : List ℕ) → IfMade R (leave_load world load reference)
  lets_load_leave load reference =
      made_refuse_unless R _ _ _ (λ new. made_passed R _ _ (λ passed. made_refuse_unless R _ _ _ (λ few.
      let is = leaves (finite.get world.places load) (is_in_job world load) passed in
      counts_one counted.References _ (ltb-true _ _ few) (λ lawful.
      one_reference world _ refl (len_known names_total world.places load _ (is.0, is.1)) refl refl (reference_len reference new)))))

  places_vehicle : (key : VehicleKey) (reference node : List ℕ) → IfMade R (place_vehicle world key reference node)
  places_vehicle key reference node =
      made_refuse_unless R _ _ _ (λ new. made_refuse_if_none R _ _ _ (λ row there.
      made_refuse_unless R _ _ _ (λ known_node. made_unheld R _ _ (λ opened. made_refuse_unless R _ _ _ (λ few.
      counts_one counted.References _ (ltb-true _ _ few) (λ lawful.
      one_reference world _ (vehicle_len key row _ there) refl (len_stopped world (trip_of world key)) refl (reference_len reference new)))))))

  takes_stock : (reference : List ℕ) (rows : List Row) → IfMade R (take_stock world reference rows)
  takes_stock reference rows =
      made_refuse_unless R _ _ _ (λ new. made_refuse_unless R _ _ _ (λ known_stations. made_refuse_unless R _ _ _ (λ c.
      made_refuse_unless R _ _ _ (λ d. made_refuse_unless R _ _ _ (λ e. made_refuse_unless R _ _ _ (λ f. made_refuse_unless R _ _ _ (λ few.
      counts_one counted.References _ (ltb-true _ _ few) (λ lawful.
      one_reference world _ refl (as_many_loads world rows known_stations) refl refl (reference_len reference new)))))))))

  -- ---- every call

  each : (seats at : ℕ) (made : Call) → IfMade (IsCounted world (adds_to made)) (step seats world at made)
  each seats at (call.SetLayout rows) = sets_layout rows
  each seats at (call.RegisterVehicle key node capacity) = registers_vehicle seats key node capacity
  each seats at (call.RegisterLoad load station) = registers_load load station
  each seats at (call.CorrectLoad load reference station) = corrects_load load reference station
  each seats at (call.LeaveLoad load reference) = lets_load_leave load reference
  each seats at (call.AddJob job load to) = adds_job job load to
  each seats at (call.StopJob job) = stops_job job
  each seats at (call.StartOrder order key stops edges) = starts_order (record { at = at; order = order; key = key; stops = stops; edges = edges })
  each seats at (call.StartDrive order key to edges) = starts_drive (record { at = at; order = order; key = key; to = to; edges = edges })
  each seats at (call.Advance key order update edges) = advances_trip at key order update edges
  each seats at (call.Cancel key) = cancels at key
  each seats at (call.Pause key) = pauses at key
  each seats at (call.Resume key) = resumes at key
  each seats at (call.PlaceVehicle key reference node) = places_vehicle key reference node
  each seats at (call.Resync key) = begins_anew key
  each seats at (call.State key state) = takes_state key state
  each seats at (call.GetOrder key) = made_refuse_if_none P _ _ _ (λ row is. tells _)
  each seats at (call.GetInstant key) = made_refuse_if_none P _ _ _ (λ row is. tells _)
  each seats at (call.Stocktake reference rows) = takes_stock reference rows
  each seats at (call.GetLoad load) = made_refuse_if_none P _ _ _ (λ place is. tells _)
  each seats at (call.GetJob job) = made_refuse_if_none P _ _ _ (λ row is. tells _)
  each seats at (call.GetVehicle key) = made_refuse_if_none P _ _ _ (λ row is. tells _)
  each seats at (call.Report report) = tells _

  -- ---- the laws

  follows : (made : Call) (outcome : Outcome) (what : Counted) → HasLawfulLoads world → IfMade (IsCounted world (adds_to made)) outcome → (is_refusal (answer_of outcome) ≡ true → after world outcome ≡ world)
      → count_of (after world outcome) what ≡ count_of world what + added made (answer_of outcome) what
  unfolding after answer_of
  follows made (Refused why) what lawful holds stays = same _ _ refl
  follows made (Made effect) what lawful holds stays = by_answer (is_refusal effect.answer) stays
    where
      by_answer : (refused : Bool) → (refused ≡ true → with_effect world effect ≡ world) → count_of (with_effect world effect) what ≡ count_of world what + one_more (cond refused None (adds_to made)) what
      by_answer true stays = same _ _ (ap (λ next. count_of next what) (stays refl))
      by_answer false stays = grown world (with_effect world effect) (adds_to made) (holds.grows lawful) what

  pub counts_follow : (seats at : ℕ) (made : Call) (what : Counted) → HasLawfulLoads world
      → count_of (after world (step seats world at made)) what ≡ count_of world what + added made (answer_of (step seats world at made)) what
  counts_follow seats at made what lawful = follows made (step seats world at made) what lawful (each seats at made) (λ refused. (refused_leaves world seats at made refused).0)

  below_limit : (made : Call) (outcome : Outcome) (what : Counted) → IfMade (IsCounted world (adds_to made)) outcome → added made (answer_of outcome) what ≢ 0 → count_of world what < limit_of what
  unfolding answer_of
  below_limit made (Refused why) what holds more = absurd (more refl)
  below_limit made (Made effect) what holds more = holds.below what (counted_is (is_refusal effect.answer) (adds_to made) what more)

  pub adds_below : (seats at : ℕ) (made : Call) (what : Counted) → added made (answer_of (step seats world at made)) what ≢ 0 → count_of world what < limit_of what
  adds_below seats at made what more = below_limit made (step seats world at made) what (each seats at made) more
