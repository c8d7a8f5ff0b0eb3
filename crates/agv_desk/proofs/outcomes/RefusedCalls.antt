-- Whatever a call is refused for, it is for a refusal of calls, and only a call that asks for a report is answered by one: down each ladder of checks.
use Rattle.std.proofs.Common.{◌≡◌, ◌≤◌, ◌&&◌, nat_le, nat_lt, not, is_some, ℕ, Bool, true, false, cond, List, [], ◌∷◌, length, Option, None, Some, Result, Ok, Err, refl, subst, arith}
use Rattle.std.specs.FinMap as finite
use Rattle.std.proofs.lemmas.Bool.{and_parts}
use Rattle.std.proofs.lemmas.Bool.Decides.{nat_tests}
use Rattle.agv_header.specs.Refusal.{number_of}
use Rattle.agv_header.specs.declared.key.Thing.{Thing}
use Rattle.agv_header.specs.declared.key.VehicleKey.{VehicleKey}
use Rattle.agv_header.specs.declared.refusal.Refusal.{Refusal}
use Rattle.agv_header.specs.declared.refusal.Refusal.TheVariants as refusal
use Rattle.agv_layout.specs.Layout.{Layout}
use Rattle.agv_layout.specs.LayoutOf.{is_over_limit, is_sound, layout_in, layout_of}
use Rattle.agv_layout.specs.declared.fault.LayoutFault.TheVariants as unlaid
use Rattle.agv_layout.specs.declared.row.LayoutRow.{LayoutRow}
use Rattle.agv_message_core.specs.declared.instant.InstantKind.{InstantKind}
use Rattle.agv_message_core.specs.declared.state.StateMessage.{StateMessage}
use Rattle.agv_layout.specs.declared.edge.Edge.{Edge}
use Rattle.agv_order.specs.Drives.{drive_along, drive_edges, drive_over, drive_planned}
use Rattle.agv_order.specs.Plans.{stop_routes_to, planned, trip_along, trip_over, way_of}
use Rattle.agv_order.specs.declared.fault.PlanFault.TheVariants as unplanned
use Rattle.agv_order.specs.declared.stop.Stop.{Stop}
use Rattle.agv_order.specs.declared.trip.Trip.{Trip}
use Rattle.agv_stock.specs.Checks.{Checked, correct_check, has_room, is_known, is_stored, is_there, job_check, leave_check, passed, register_check, check_that}
use Rattle.agv_stock.specs.Rooms.{has_left}
use Rattle.agv_stock.specs.declared.goal.Goal.{Goal}
use Rattle.agv_stock.specs.declared.job.Job.{Job}
use Rattle.agv_stock.specs.declared.place.Place.{Place}
use Rattle.agv_track.specs.Idle.{idle_refusals, judged_idle}
use Rattle.agv_track.specs.Judgements.{act_refusals, first_of, judged, unless, way_refusals}
use Rattle.agv_track.specs.declared.pending.Pending.{Pending}
use Rattle.agv_world_core.specs.Worlds.{World}
use Rattle.agv_world_core.specs.declared.row.VehicleRow.{VehicleRow}
use Rattle.agv_desk.specs.DriveSteps.{AskedDrive, start_drive}
use Rattle.agv_desk.specs.InstantSteps.{instruct}
use Rattle.agv_desk.specs.LayoutSteps.{if_given, lay}
use Rattle.agv_desk.specs.OrderParts.{order_of_drive, send_trip}
use Rattle.agv_desk.specs.OrderSteps.{AskedOrder, advance, if_planned, start_order}
use Rattle.agv_desk.specs.Outcomes.{Effect, Made, Outcome, answer_of, branch, checked, refuse_if_none, refuse_unless, answer_only, unheld}
use Rattle.agv_desk.specs.ReadSteps.{instant_told, order_told}
use Rattle.agv_desk.specs.Refusals.{IsOfCall}
use Rattle.agv_desk.specs.Reports.{report_asked, served}
use Rattle.agv_desk.specs.Shared.{goal_of, is_in_job}
use Rattle.agv_desk.specs.StateSteps.{fresh_state, idle_state, if_judged, take_state, trip_state}
use Rattle.agv_desk.specs.Step.{step}
use Rattle.agv_desk.specs.StocktakeSteps.{Row, take_stock}
use Rattle.agv_desk.specs.VehicleSteps.{place_vehicle, register_vehicle}
use Rattle.agv_desk.specs.declared.answer.Answer.{Answer}
use Rattle.agv_desk.specs.declared.answer.Answer.TheVariants as answer
use Rattle.agv_desk.specs.declared.call.Call.{Call}
use Rattle.agv_desk.specs.declared.call.Call.TheVariants as call
use Rattle.agv_desk.specs.declared.report.Report.{Report}

-- the refusal is one of calls
abbrev is_of_call : Refusal → Bool
is_of_call why = nat_le 20 (number_of why) && nat_le (number_of why) 81

of_call : (n : ℕ) → (nat_le 20 n && nat_le n 81) ≡ true → (20 ≤ n) × (n ≤ 81)
of_call n is = let parts = and_parts (nat_le 20 n) (nat_le n 81) is in (grind (arith, nat_tests), grind (arith, nat_tests))

-- so is the answer, if it is a refusal; and where no report is asked for, it is none
abbrev IsFitFor : Answer → Option Report → Type 0
IsFitFor (answer.Refused why) asked = is_of_call why ≡ true
IsFitFor (answer.Report report text) None = ⊥
IsFitFor _ _ = Unit {0}

abbrev IsFit : Answer → Type 0
IsFit said = IsFitFor said None

abbrev Fits : Outcome → Type 0
Fits outcome = IsFit (answer_of outcome)

-- and what a check or a judgement refuses
abbrev IsFitIn : {X : Type 0} → Result X Refusal → Type 0
IsFitIn (Ok x) = Unit {0}
IsFitIn (Err why) = is_of_call why ≡ true

-- ---- ladders

by_made : (effect : Effect) → IsFit effect.answer → Fits (Made effect)
unfolding answer_of
by_made effect h = h

by_refuse_unless : (test : Bool) (why : Refusal) (rest : Outcome) → is_of_call why ≡ true → Fits rest → Fits (refuse_unless test why rest)
unfolding refuse_unless answer_of
by_refuse_unless true why rest of h = h
by_refuse_unless false why rest of h = of

by_refuse_if_none : {X : Type 0} (there : Option X) (why : Refusal) (rest : X → Outcome) → is_of_call why ≡ true → ((x : X) → Fits (rest x)) → Fits (refuse_if_none there why rest)
unfolding refuse_if_none answer_of
by_refuse_if_none None why rest of h = of
by_refuse_if_none (Some x) why rest of h = h x

by_checked : (check : Checked) (rest : Outcome) → IsFitIn check → Fits rest → Fits (checked check rest)
unfolding checked answer_of
by_checked (Ok done) rest of h = h
by_checked (Err why) rest of h = of

by_unheld : (held : Option (Thing × VehicleKey)) (rest : Outcome) → Fits rest → Fits (unheld held rest)
unfolding unheld answer_of
by_unheld None rest h = h
by_unheld (Some held) rest h = refl

by_branch : (test : Bool) (one other : Outcome) → Fits one → Fits other → Fits (branch test one other)
unfolding branch
by_branch true one other h k = h
by_branch false one other h k = k

by_judged : {X : Type 0} (judged : Result X Refusal) (rest : X → Outcome) → IsFitIn judged → ((x : X) → Fits (rest x)) → Fits (if_judged judged rest)
unfolding if_judged answer_of
by_judged (Ok x) rest of h = h x
by_judged (Err why) rest of h = of

reports : (report : Report) → IsFitFor (answer_of (Made (answer_only (answer.Report report [])))) (Some report)
unfolding answer_of
reports report = tt

-- ---- a layout, and a plan

by_layout : (over sound : Bool) (layout : Layout) (rest : Layout → Outcome) → Fits (rest layout) → Fits (if_given (cond over (Err unlaid.Limit) (cond sound (Ok layout) (Err unlaid.Bad))) rest)
unfolding if_given answer_of
by_layout true sound layout rest h = refl
by_layout false true layout rest h = h
by_layout false false layout rest h = refl

lays : (rows : List LayoutRow) → Fits (lay rows)
unfolding layout_of answer_of
lays rows = by_layout (is_over_limit rows) (is_sound rows) (layout_in rows) (λ layout. Made (record (answer_only answer.Done) { layout = Some layout })) tt

by_length : (long far : Bool) (trip : Trip) (rest : Trip → Outcome) → Fits (rest trip) → Fits (if_planned (cond long (Err unplanned.TooLong) (cond far (Err unplanned.Beyond) (Ok trip))) rest)
unfolding if_planned answer_of
by_length true far trip rest h = refl
by_length false true trip rest h = refl
by_length false false trip rest h = h

by_plan : (layout : Layout) (vehicle : VehicleKey) (jobs : List Job) (stops : List Stop) (order at : List ℕ) (base : ℕ) (rest : Trip → Outcome) → ((trip : Trip) → Fits (rest trip))
    → Fits (if_planned (planned layout vehicle jobs stops order at base) rest)
unfolding if_planned answer_of
by_plan layout vehicle jobs stops order at base rest h =
    elim (stop_routes_to layout jobs at stops) as (λ legs. Fits (if_planned (trip_along vehicle order at base legs) rest)) [
      | None ↦ refl
      | Some legs ↦ by_length (nat_lt 200 (length (way_of legs))) (nat_lt (length (way_of legs)) base) (trip_over vehicle order at base legs) rest (h _)
    ]

by_drive : (layout : Layout) (vehicle : VehicleKey) (order at to : List ℕ) (base : ℕ) (rest : Trip → Outcome) → ((trip : Trip) → Fits (rest trip))
    → Fits (if_planned (drive_planned layout vehicle order at to base) rest)
unfolding if_planned answer_of
by_drive layout vehicle order at to base rest h = by_edges (drive_edges layout at to)
  where
    by_edges : (found : Option (List Edge)) → Fits (if_planned (drive_along vehicle order at base found) rest)
    by_edges None = refl
    by_edges (Some []) = refl
    by_edges (Some (edge ∷ edges)) = by_length (nat_lt 200 (length (edge ∷ edges))) (nat_lt (length (edge ∷ edges)) base) (drive_over vehicle order at base (edge ∷ edges)) rest (h _)

-- ---- the checks of a load

by_check_that : (test : Bool) (why : Refusal) (rest : Checked) → is_of_call why ≡ true → IsFitIn rest → IsFitIn (check_that test why rest)
by_check_that true why rest of h = h
by_check_that false why rest of h = of

module _ (goal : Goal) where
  abbrev with_room : Checked
  with_room = check_that (has_room goal) refusal.Full passed

  has_space : IsFitIn with_room
  has_space = by_check_that (has_room goal) refusal.Full passed refl tt

  registers_load : (there : Option Place) → IsFitIn (register_check there goal)
  registers_load there =
      by_check_that (not (is_some there)) refusal.Exists (check_that (is_known goal) refusal.NoStation with_room) refl
      (by_check_that (is_known goal) refusal.NoStation with_room refl has_space)

  module _ (place : Place) (live : Bool) where
    abbrev apart : Checked
    apart = check_that (not (is_there goal place)) refusal.SameStation with_room

    abbrev free : Checked
    free = check_that (not live) refusal.InJob apart

    is_free : IsFitIn free
    is_free = by_check_that (not live) refusal.InJob apart refl (by_check_that (not (is_there goal place)) refusal.SameStation with_room refl has_space)

  corrects_load : (there : Option Place) (live : Bool) → IsFitIn (correct_check there live goal)
  corrects_load None live = refl
  corrects_load (Some place) live =
      by_check_that (is_known goal) refusal.NoStation (check_that (not (has_left place)) refusal.Elsewhere (free place live)) refl
      (by_check_that (not (has_left place)) refusal.Elsewhere (free place live) refl (is_free place live))

  adds_job : (known : Bool) (there : Option Place) (live : Bool) → IsFitIn (job_check known there live goal)
  adds_job true there live = refl
  adds_job false None live = refl
  adds_job false (Some place) live =
      by_check_that (is_known goal) refusal.NoStation (check_that (is_stored place) refusal.Elsewhere (free place live)) refl
      (by_check_that (is_stored place) refusal.Elsewhere (free place live) refl (is_free place live))

lets_load_leave : (there : Option Place) (live : Bool) → IsFitIn (leave_check there live)
lets_load_leave None live = refl
lets_load_leave (Some place) live =
    by_check_that (not (has_left place)) refusal.Elsewhere (check_that (not live) refusal.InJob passed) refl (by_check_that (not live) refusal.InJob passed refl tt)

-- ---- what a state is judged

abbrev AreFit : List (Bool × Refusal) → Type 0
AreFit [] = Unit {0}
AreFit (line ∷ lines) = (is_of_call line.1 ≡ true) × AreFit lines

by_line : {X : Type 0} (test : Bool) (why : Refusal) (later : Option Refusal) (result : Result X Refusal) → is_of_call why ≡ true → IsFitIn (unless later result) → IsFitIn (unless (cond test (Some why) later) result)
by_line true why later result of h = of
by_line false why later result of h = h

by_lines : {X : Type 0} (lines : List (Bool × Refusal)) (result : Result X Refusal) → AreFit lines → IsFitIn result → IsFitIn (unless (first_of lines) result)
by_lines [] result of h = h
by_lines (line ∷ lines) result of h = by_line line.0 line.1 (first_of lines) result of.0 (by_lines lines result of.1 h)

judges : (trip : Trip) (pending : Option Pending) (state : StateMessage) → IsFitIn (judged trip pending state)
unfolding judged way_refusals act_refusals
judges trip pending state =
    by_lines (way_refusals trip state) _ (refl, (refl, (refl, (refl, (refl, tt)))))
    (by_lines (act_refusals trip pending state) _ (refl, (refl, (refl, (refl, (refl, tt))))) tt)

judges_idle : (node : List ℕ) (pending : Option Pending) (state : StateMessage) → IsFitIn (judged_idle node pending state)
unfolding judged_idle idle_refusals
judges_idle node pending state = by_lines (idle_refusals node pending state) _ (refl, (refl, tt)) tt

-- ---- the calls

tells_a_message : (key : VehicleKey) (row : VehicleRow) (trip : Option Trip) → IsFit (order_told key row trip)
tells_a_message key row None = tt
tells_a_message key row (Some trip) = tt

tells_an_action : (key : VehicleKey) (row : VehicleRow) (kind : Option InstantKind) → IsFit (instant_told key row kind)
tells_an_action key row None = tt
tells_an_action key row (Some kind) = tt

module _ (world : World) where
  instructs : (at : ℕ) (key : VehicleKey) (row : VehicleRow) (kind : InstantKind) → Fits (instruct at key row kind)
  instructs at key row kind = by_refuse_unless _ refusal.InstantPending _ refl (by_refuse_if_none _ refusal.Spent _ refl (λ number. by_made _ tt))

  starts : (asked : AskedOrder) → Fits (start_order world asked)
  starts asked =
      by_refuse_unless _ refusal.Exists _ refl (by_refuse_if_none _ refusal.NoVehicle _ refl (λ row.
      by_refuse_unless _ refusal.BadStops _ refl (by_refuse_if_none _ refusal.NoJob _ refl (λ jobs.
      by_refuse_unless _ refusal.OrderKnown _ refl (by_refuse_unless _ refusal.JobState _ refl (by_refuse_unless _ refusal.Busy _ refl
      (by_refuse_unless _ refusal.Astray _ refl (by_refuse_unless _ refusal.Loaded _ refl (by_refuse_unless _ refusal.NotReady _ refl
      (by_refuse_unless _ refusal.InstantPending _ refl (by_refuse_if_none _ refusal.NoWalk _ refl (λ layout.
      by_plan layout asked.key jobs asked.stops asked.order row.node asked.edges (send_trip world asked row jobs) (λ trip.
      by_unheld _ _ (by_refuse_if_none _ refusal.Spent _ refl (λ number. by_refuse_unless _ refusal.Limit _ refl (by_made _ tt))))))))))))))))

  drives : (asked : AskedDrive) → Fits (start_drive world asked)
  drives asked =
      by_refuse_unless _ refusal.Exists _ refl (by_refuse_if_none _ refusal.NoVehicle _ refl (λ row. by_refuse_unless _ refusal.NoNode _ refl
      (by_refuse_unless _ refusal.OrderKnown _ refl (by_refuse_unless _ refusal.Busy _ refl (by_refuse_unless _ refusal.Astray _ refl
      (by_refuse_unless _ refusal.NotReady _ refl (by_refuse_unless _ refusal.InstantPending _ refl
      (by_refuse_if_none _ refusal.NoWalk _ refl (λ layout.
      by_drive layout asked.key asked.order row.node asked.to asked.edges (send_trip world (order_of_drive asked) row []) (λ trip.
      by_unheld _ _ (by_refuse_if_none _ refusal.Spent _ refl (λ number. by_refuse_unless _ refusal.Limit _ refl (by_made _ tt)))))))))))))

  advances : (at : ℕ) (key : VehicleKey) (order : List ℕ) (update edges : ℕ) → Fits (advance world at key order update edges)
  advances at key order update edges =
      by_refuse_if_none _ refusal.NoVehicle _ refl (λ row. by_refuse_if_none _ refusal.NoOrder _ refl (λ trip.
      by_refuse_unless _ (refusal.WrongUpdate trip.sent) _ refl (by_refuse_unless _ refusal.NotConfirmed _ refl (by_refuse_unless _ refusal.NotReady _ refl
      (by_refuse_unless _ refusal.InstantPending _ refl (by_refuse_unless _ refusal.Beyond _ refl
      (by_unheld _ _ (by_refuse_if_none _ refusal.Spent _ refl (λ number. by_made _ tt)))))))))

  places : (key : VehicleKey) (reference node : List ℕ) → Fits (place_vehicle world key reference node)
  places key reference node =
      by_refuse_unless _ refusal.RefUsed _ refl (by_refuse_if_none _ refusal.NoVehicle _ refl (λ row. by_refuse_unless _ refusal.NoNode _ refl
      (by_unheld _ _ (by_refuse_unless _ refusal.Limit _ refl (by_made _ tt)))))

  registers : (seats : ℕ) (key : VehicleKey) (node : List ℕ) (capacity : ℕ) → Fits (register_vehicle seats world key node capacity)
  registers seats key node capacity =
      by_refuse_unless _ refusal.Exists _ refl (by_refuse_unless _ refusal.NoNode _ refl (by_unheld _ _ (by_refuse_unless _ refusal.Limit _ refl (by_made _ tt))))

  takes_idle : (key : VehicleKey) (row : VehicleRow) (state : StateMessage) → Fits (idle_state key row state)
  takes_idle key row state = by_judged _ _ (judges_idle _ _ state) (λ over. by_made _ tt)

  goes_on : (key : VehicleKey) (row : VehicleRow) (trip : Trip) (state : StateMessage) → Fits (trip_state world key row trip state)
  goes_on key row trip state = by_judged _ _ (judges trip _ state) (λ progress. by_made _ tt)

  takes_fresh : (key : VehicleKey) (row : VehicleRow) (trip : Option Trip) (state : StateMessage) → Fits (fresh_state world key row trip state)
  takes_fresh key row None state = takes_idle key row state
  takes_fresh key row (Some trip) state = by_branch _ _ _ (goes_on key row trip state) (by_refuse_unless _ refusal.OtherOrder _ refl (takes_idle key row state))

  takes_state : (key : VehicleKey) (state : StateMessage) → Fits (take_state world key state)
  takes_state key state = by_refuse_if_none _ refusal.NoVehicle _ refl (λ row. by_branch _ _ _ (takes_fresh key row _ state) (by_made _ tt))

  counts : (reference : List ℕ) (rows : List Row) → Fits (take_stock world reference rows)
  counts reference rows =
      by_refuse_unless _ refusal.RefUsed _ refl (by_refuse_unless _ refusal.NoStation _ refl (by_refuse_unless _ refusal.CountTwice _ refl
      (by_refuse_unless _ refusal.OnVehicle _ refl (by_refuse_unless _ refusal.InJob _ refl
      (by_refuse_unless _ refusal.Full _ refl (by_refuse_unless _ refusal.Limit _ refl (by_made _ tt)))))))

  each : (seats at : ℕ) (made : Call) → IsFitFor (answer_of (step seats world at made)) (report_asked made)
  each seats at (call.SetLayout rows) = by_refuse_unless _ refusal.LayoutSet _ refl (lays rows)
  each seats at (call.RegisterVehicle key node capacity) = registers seats key node capacity
  each seats at (call.RegisterLoad load station) =
      by_checked _ _ (registers_load (goal_of world station) (finite.get world.places load)) (by_refuse_unless _ refusal.Limit _ refl (by_made _ tt))
  each seats at (call.CorrectLoad load reference station) =
      by_refuse_unless _ refusal.RefUsed _ refl (by_checked _ _ (corrects_load (goal_of world station) (finite.get world.places load) (is_in_job world load))
      (by_refuse_unless _ refusal.Limit _ refl (by_made _ tt)))
  each seats at (call.LeaveLoad load reference) =
      by_refuse_unless _ refusal.RefUsed _ refl (by_checked _ _ (lets_load_leave (finite.get world.places load) (is_in_job world load))
      (by_refuse_unless _ refusal.Limit _ refl (by_made _ tt)))
  each seats at (call.AddJob job load to) =
      by_checked _ _ (adds_job (goal_of world (Some to)) (is_some (finite.get world.jobs job)) (finite.get world.places load) (is_in_job world load))
      (by_refuse_if_none _ refusal.Elsewhere _ refl (λ origin. by_refuse_unless _ refusal.Limit _ refl (by_made _ tt)))
  each seats at (call.StopJob job) = by_refuse_if_none _ refusal.NoJob _ refl (λ row. by_refuse_unless _ refusal.JobState _ refl (by_made _ tt))
  each seats at (call.StartOrder order key stops edges) = starts (record { at = at; order = order; key = key; stops = stops; edges = edges })
  each seats at (call.StartDrive order key to edges) = drives (record { at = at; order = order; key = key; to = to; edges = edges })
  each seats at (call.Advance key order update edges) = advances at key order update edges
  each seats at (call.Cancel key) = by_refuse_if_none _ refusal.NoVehicle _ refl (λ row. by_refuse_unless _ refusal.NoOrder _ refl (instructs at key row _))
  each seats at (call.Pause key) = by_refuse_if_none _ refusal.NoVehicle _ refl (λ row. instructs at key row _)
  each seats at (call.Resume key) = by_refuse_if_none _ refusal.NoVehicle _ refl (λ row. instructs at key row _)
  each seats at (call.PlaceVehicle key reference node) = places key reference node
  each seats at (call.Resync key) = by_refuse_if_none _ refusal.NoVehicle _ refl (λ row. by_made _ tt)
  each seats at (call.State key state) = takes_state key state
  each seats at (call.GetOrder key) = by_refuse_if_none _ refusal.NoVehicle _ refl (λ row. by_made _ (tells_a_message key row _))
  each seats at (call.GetInstant key) = by_refuse_if_none _ refusal.NoVehicle _ refl (λ row. by_made _ (tells_an_action key row row.pending))
  each seats at (call.Stocktake reference rows) = counts reference rows
  each seats at (call.GetLoad load) = by_refuse_if_none _ refusal.NoLoad _ refl (λ place. by_made _ tt)
  each seats at (call.GetJob job) = by_refuse_if_none _ refusal.NoJob _ refl (λ row. by_made _ tt)
  each seats at (call.GetVehicle key) = by_refuse_if_none _ refusal.NoVehicle _ refl (λ row. by_made _ tt)
  each seats at (call.Report report) = reports report

-- an answer that is no report is served as it is
as_it_is : (world : World) (said : Answer) → IsFit said → served world said ≡ said
as_it_is world (answer.Refused why) fit = refl
as_it_is world answer.Done fit = refl
as_it_is world (answer.Update n) fit = refl
as_it_is world (answer.Instructed n) fit = refl
as_it_is world (answer.Accepted newer) fit = refl
as_it_is world answer.NoMessage fit = refl
as_it_is world (answer.Order header order) fit = refl
as_it_is world (answer.Instant header instant) fit = refl
as_it_is world (answer.Counted moved unknown) fit = refl
as_it_is world (answer.Load load place job) fit = refl
as_it_is world (answer.Job job row carrier) fit = refl
as_it_is world (answer.Vehicle key row order) fit = refl
as_it_is world (answer.Report report text) fit = absurd fit

-- a call that asks for no report is served as it was decided
pub served_so : (seats : ℕ) (world : World) (at : ℕ) (made : Call) → report_asked made ≡ None → served world (answer_of (step seats world at made)) ≡ answer_of (step seats world at made)
served_so seats world at made none = as_it_is world _ (subst (λ asked. IsFitFor (answer_of (step seats world at made)) asked) none (each world seats at made))

-- a call is refused for a refusal of calls
pub refused_so : (seats : ℕ) (world : World) (at : ℕ) (made : Call) (why : Refusal) → answer_of (step seats world at made) ≡ answer.Refused why → IsOfCall why
refused_so seats world at made why is = of_call (number_of why) (subst (λ said. IsFitFor said (report_asked made)) is (each world seats at made))
