-- A call that may change something is answered by what was done, or why not.
use Rattle.std.proofs.Common.{◌≡◌, ℕ, Bool, true, false, List, length, Option, None, Some}
use Rattle.std.proofs.lemmas.Bool.{true≢false}
use Rattle.agv_header.specs.declared.key.VehicleKey.{VehicleKey}
use Rattle.agv_header.specs.declared.refusal.Refusal.{Refusal}
use Rattle.agv_message_core.specs.declared.instant.InstantKind.{InstantKind}
use Rattle.agv_message_core.specs.declared.state.StateMessage.{StateMessage}
use Rattle.agv_order.specs.declared.trip.Trip.{Trip}
use Rattle.agv_world_core.specs.Worlds.{World}
use Rattle.agv_world_core.specs.declared.row.VehicleRow.{VehicleRow}
use Rattle.agv_desk.specs.DriveSteps.{AskedDrive, start_drive}
use Rattle.agv_desk.specs.InstantSteps.{instruct}
use Rattle.agv_desk.specs.OrderSteps.{AskedOrder, start_order, advance}
use Rattle.agv_desk.specs.Outcomes.{answer_of}
use Rattle.agv_desk.specs.StateSteps.{idle_state, trip_state, fresh_state, take_state}
use Rattle.agv_desk.specs.Step.{step}
use Rattle.agv_desk.specs.Unchanged.{only_tells}
use Rattle.agv_desk.specs.StocktakeSteps.{Row, count_moves, take_stock, unknown_in}
use Rattle.agv_desk.specs.VehicleSteps.{place_vehicle, register_vehicle}
use Rattle.agv_desk.specs.declared.answer.Answer.{Answer}
use Rattle.agv_desk.specs.declared.answer.Answer.TheVariants as answer
use Rattle.agv_desk.specs.declared.call.Call.{Call}
use Rattle.agv_desk.specs.declared.call.Call.TheVariants as call
use Rattle.agv_face_http.proofs.answers.Ladders.{of_made, of_refuse_unless, of_refuse_if_none, of_checked, of_unheld, of_branch, of_judged, of_given, of_planned}

-- it holds of each answer that tells what was done, or why not, but for that to a stocktake
pub record IsOfOutcomes (P : Answer → Type 0) : Type 0 where
  pub refused : (why : Refusal) → P (answer.Refused why)
  pub done : P answer.Done
  pub update : (n : ℕ) → P (answer.Update n)
  pub instructed : (n : ℕ) → P (answer.Instructed n)
  pub accepted : (newer : Bool) → P (answer.Accepted newer)

-- it holds of what a stocktake counts
abbrev pub IsOfCount : (Answer → Type 0) → World → Call → Type 0
IsOfCount P world (call.Stocktake reference rows) = P (answer.Counted (length (count_moves world rows)) (unknown_in world rows))
IsOfCount P world _ = Unit {0}

module _ (P : Answer → Type 0) (is : IsOfOutcomes P) (world : World) where
  instructs : (at : ℕ) (key : VehicleKey) (row : VehicleRow) (kind : InstantKind) → P (answer_of (instruct at key row kind))
  instructs at key row kind = of_refuse_unless P is.refused _ _ _ (of_refuse_if_none P is.refused _ _ _ (λ number. of_made P is.refused _ (is.instructed number)))

  starts : (asked : AskedOrder) → P (answer_of (start_order world asked))
  starts asked =
      of_refuse_unless P is.refused _ _ _ (of_refuse_if_none P is.refused _ _ _ (λ row. of_refuse_unless P is.refused _ _ _ (of_refuse_if_none P is.refused _ _ _ (λ jobs.
      of_refuse_unless P is.refused _ _ _ (of_refuse_unless P is.refused _ _ _ (of_refuse_unless P is.refused _ _ _
      (of_refuse_unless P is.refused _ _ _ (of_refuse_unless P is.refused _ _ _ (of_refuse_unless P is.refused _ _ _ (of_refuse_unless P is.refused _ _ _
      (of_refuse_if_none P is.refused _ _ _ (λ layout. of_planned P is.refused _ _ (λ trip.
      of_unheld P is.refused _ _ (of_refuse_if_none P is.refused _ _ _ (λ number. of_refuse_unless P is.refused _ _ _ (of_made P is.refused _ (is.update 0)))))))))))))))))

  drives : (asked : AskedDrive) → P (answer_of (start_drive world asked))
  drives asked =
      of_refuse_unless P is.refused _ _ _ (of_refuse_if_none P is.refused _ _ _ (λ row. of_refuse_unless P is.refused _ _ _
      (of_refuse_unless P is.refused _ _ _ (of_refuse_unless P is.refused _ _ _ (of_refuse_unless P is.refused _ _ _
      (of_refuse_unless P is.refused _ _ _ (of_refuse_unless P is.refused _ _ _
      (of_refuse_if_none P is.refused _ _ _ (λ layout. of_planned P is.refused _ _ (λ trip.
      of_unheld P is.refused _ _ (of_refuse_if_none P is.refused _ _ _ (λ number. of_refuse_unless P is.refused _ _ _ (of_made P is.refused _ (is.update 0))))))))))))))

  advances : (at : ℕ) (key : VehicleKey) (order : List ℕ) (update edges : ℕ) → P (answer_of (advance world at key order update edges))
  advances at key order update edges =
      of_refuse_if_none P is.refused _ _ _ (λ row. of_refuse_if_none P is.refused _ _ _ (λ trip. of_refuse_unless P is.refused _ _ _
      (of_refuse_unless P is.refused _ _ _ (of_refuse_unless P is.refused _ _ _ (of_refuse_unless P is.refused _ _ _
      (of_refuse_unless P is.refused _ _ _ (of_unheld P is.refused _ _ (of_refuse_if_none P is.refused _ _ _ (λ number. of_made P is.refused _ (is.update update))))))))))

  places : (key : VehicleKey) (reference node : List ℕ) → P (answer_of (place_vehicle world key reference node))
  places key reference node =
      of_refuse_unless P is.refused _ _ _ (of_refuse_if_none P is.refused _ _ _ (λ row. of_refuse_unless P is.refused _ _ _
      (of_unheld P is.refused _ _ (of_refuse_unless P is.refused _ _ _ (of_made P is.refused _ is.done)))))

  registers : (seats : ℕ) (key : VehicleKey) (node : List ℕ) (capacity : ℕ) → P (answer_of (register_vehicle seats world key node capacity))
  registers seats key node capacity =
      of_refuse_unless P is.refused _ _ _ (of_refuse_unless P is.refused _ _ _ (of_unheld P is.refused _ _ (of_refuse_unless P is.refused _ _ _ (of_made P is.refused _ is.done))))

  takes_idle : (key : VehicleKey) (row : VehicleRow) (state : StateMessage) → P (answer_of (idle_state key row state))
  takes_idle key row state = of_judged P is.refused _ _ (λ over. of_made P is.refused _ (is.accepted true))

  goes_on : (key : VehicleKey) (row : VehicleRow) (trip : Trip) (state : StateMessage) → P (answer_of (trip_state world key row trip state))
  goes_on key row trip state = of_judged P is.refused _ _ (λ progress. of_made P is.refused _ (is.accepted true))

  takes_fresh : (key : VehicleKey) (row : VehicleRow) (trip : Option Trip) (state : StateMessage) → P (answer_of (fresh_state world key row trip state))
  takes_fresh key row None state = takes_idle key row state
  takes_fresh key row (Some trip) state = of_branch P is.refused _ _ _ (goes_on key row trip state) (of_refuse_unless P is.refused _ _ _ (takes_idle key row state))

  takes_state : (key : VehicleKey) (state : StateMessage) → P (answer_of (take_state world key state))
  takes_state key state = of_refuse_if_none P is.refused _ _ _ (λ row. of_branch P is.refused _ _ _ (takes_fresh key row _ state) (of_made P is.refused _ (is.accepted false)))

  counts : (reference : List ℕ) (rows : List Row) → P (answer.Counted (length (count_moves world rows)) (unknown_in world rows)) → P (answer_of (take_stock world reference rows))
  counts reference rows h =
      of_refuse_unless P is.refused _ _ _ (of_refuse_unless P is.refused _ _ _
      (of_refuse_unless P is.refused _ _ _ (of_refuse_unless P is.refused _ _ _ (of_refuse_unless P is.refused _ _ _
      (of_refuse_unless P is.refused _ _ _ (of_refuse_unless P is.refused _ _ _ (of_made P is.refused _ h)))))))

  pub outcome_of : (seats at : ℕ) (made : Call) → only_tells made ≡ false → IsOfCount P world made → P (answer_of (step seats world at made))
  outcome_of seats at (call.SetLayout rows) more h = of_refuse_unless P is.refused _ _ _ (of_given P is.refused _ _ (λ layout. of_made P is.refused _ is.done))
  outcome_of seats at (call.RegisterVehicle key node capacity) more h = registers seats key node capacity
  outcome_of seats at (call.RegisterLoad load station) more h = of_checked P is.refused _ _ (of_refuse_unless P is.refused _ _ _ (of_made P is.refused _ is.done))
  outcome_of seats at (call.CorrectLoad load reference station) more h =
      of_refuse_unless P is.refused _ _ _ (of_checked P is.refused _ _ (of_refuse_unless P is.refused _ _ _ (of_made P is.refused _ is.done)))
  outcome_of seats at (call.LeaveLoad load reference) more h =
      of_refuse_unless P is.refused _ _ _ (of_checked P is.refused _ _ (of_refuse_unless P is.refused _ _ _ (of_made P is.refused _ is.done)))
  outcome_of seats at (call.AddJob job load to) more h =
      of_checked P is.refused _ _ (of_refuse_if_none P is.refused _ _ _ (λ origin. of_refuse_unless P is.refused _ _ _ (of_made P is.refused _ is.done)))
  outcome_of seats at (call.StopJob job) more h = of_refuse_if_none P is.refused _ _ _ (λ row. of_refuse_unless P is.refused _ _ _ (of_made P is.refused _ is.done))
  outcome_of seats at (call.StartOrder order key stops edges) more h = starts (record { at = at; order = order; key = key; stops = stops; edges = edges })
  outcome_of seats at (call.StartDrive order key to edges) more h = drives (record { at = at; order = order; key = key; to = to; edges = edges })
  outcome_of seats at (call.Advance key order update edges) more h = advances at key order update edges
  outcome_of seats at (call.Cancel key) more h = of_refuse_if_none P is.refused _ _ _ (λ row. of_refuse_unless P is.refused _ _ _ (instructs at key row _))
  outcome_of seats at (call.Pause key) more h = of_refuse_if_none P is.refused _ _ _ (λ row. instructs at key row _)
  outcome_of seats at (call.Resume key) more h = of_refuse_if_none P is.refused _ _ _ (λ row. instructs at key row _)
  outcome_of seats at (call.PlaceVehicle key reference node) more h = places key reference node
  outcome_of seats at (call.Resync key) more h = of_refuse_if_none P is.refused _ _ _ (λ row. of_made P is.refused _ is.done)
  outcome_of seats at (call.State key state) more h = takes_state key state
  outcome_of seats at (call.GetOrder key) more h = absurd (true≢false more)
  outcome_of seats at (call.GetInstant key) more h = absurd (true≢false more)
  outcome_of seats at (call.Stocktake reference rows) more h = counts reference rows h
  outcome_of seats at (call.GetLoad load) more h = absurd (true≢false more)
  outcome_of seats at (call.GetJob job) more h = absurd (true≢false more)
  outcome_of seats at (call.GetVehicle key) more h = absurd (true≢false more)
  outcome_of seats at (call.Report report) more h = absurd (true≢false more)
