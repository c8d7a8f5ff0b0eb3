-- What is decided where a state of a trip is accepted.
use Rattle.std.proofs.Common.{◌≡◌, ℕ, nat_eq, Bool, true, is_none, is_some, List, [], ◌++◌, map, Option, Some, Result, Ok, append_assoc, ap, sym, subst, ◌∙◌}
use Rattle.std.proofs.lemmas.List.{append-nil}
use Rattle.std.specs.Cmp.Lexicographic.{pointwise}
use Rattle.std.specs.List.{zip}
use Rattle.agv_header.specs.declared.key.VehicleKey.{VehicleKey}
use Rattle.agv_header.specs.declared.refusal.Refusal.{Refusal}
use Rattle.agv_header.specs.declared.refusal.Refusal.TheVariants as refusal
use Rattle.agv_message_core.specs.declared.state.StateMessage.{StateMessage}
use Rattle.agv_order.specs.declared.act.Act.{Act}
use Rattle.agv_order.specs.declared.trip.Trip.{Trip}
use Rattle.agv_track.specs.Judgements.{judged}
use Rattle.agv_track.specs.declared.pending.Pending.{Pending}
use Rattle.agv_track.specs.declared.progress.Progress.{Progress}
use Rattle.agv_world_core.specs.VehicleChanges.{vehicle_changes}
use Rattle.agv_world_core.specs.Worlds.{World}
use Rattle.agv_world_core.specs.declared.change.Change.{Change}
use Rattle.agv_world_core.specs.declared.change.Change.TheVariants as row
use Rattle.agv_world_core.specs.declared.row.VehicleRow.{VehicleRow}
use Rattle.agv_desk.specs.ActSteps.{Renewed, act_moves}
use Rattle.agv_desk.specs.Outcomes.{Move, Outcome, branch, decided, refuse_unless}
use Rattle.agv_desk.specs.StateSteps.{driven, fresh_state, idle_state, if_judged, pending_of, trip_state}
use Rattle.agv_desk.specs.declared.answer.Answer.TheVariants as answer
use Rattle.agv_desk.specs.declared.answer.Decision.{Decision}
use Rattle.agv_desk.proofs.row_changes.ActJobs.{job_rows}

-- the rows of the loads that these acts move
abbrev load_rows : VehicleKey → List ℕ → List Renewed → List Change
load_rows key order acts = map (λ (move : Move). row.Load move.load move.place) (act_moves key order acts)

-- one part after the other
in_turn : (one two three : List Change) → (one ++ two) ++ three ≡ one ++ (two ++ (three ++ []))
in_turn one two three = append_assoc one two three ∙ ap (λ rows. one ++ (two ++ rows)) (sym (append-nil three))

-- what is judged decides
if-ok : {X : Type 0} (judgement : Result X Refusal) (x : X) (rest : X → Outcome) (decision : Decision) → judgement ≡ Ok x → decision ≡ decided (rest x) → decision ≡ decided (if_judged judgement rest)
unfolding if_judged
if-ok judgement x rest decision is e = subst (λ r. decision ≡ decided (if_judged r rest)) (sym is) e

module _ (world : World) (key : VehicleKey) (row : VehicleRow) (trip : Trip) (state : StateMessage) (progress : Progress) where
  -- the rows of the vehicle
  abbrev vehicle_rows : List Change
  vehicle_rows = vehicle_changes key (Some (record { row = row; trip = Some trip })) (driven row trip state progress)

  -- all rows, of these acts
  abbrev rows_of : List Act → Bool → List Change
  rows_of acts over = (vehicle_rows ++ load_rows key trip.order (zip acts progress.statuses)) ++ job_rows world over (zip acts progress.statuses)

  pub trip_state_told : (pending : Option Pending) (acts : List Act) (over : Bool) (first all : List Change) (decision : Decision)
      → pending ≡ pending_of row → judged trip pending state ≡ Ok progress → over ≡ is_some progress.«end» → acts ≡ trip.acts
      → first ≡ vehicle_rows ++ load_rows key trip.order (zip acts progress.statuses) → all ≡ first ++ job_rows world over (zip acts progress.statuses)
      → decision.answer ≡ answer.Accepted true → decision.changes ≡ all
      → decision ≡ decided (trip_state world key row trip state)
  unfolding decided
  trip_state_told pending acts over first all decision asked is ends same one two said changes =
      let ended = is_some progress.«end» in
      let steps = zip trip.acts progress.statuses in
      let told : all ≡ rows_of acts over = two ∙ ap (λ rows. rows ++ job_rows world over (zip acts progress.statuses)) one in
      let stand : rows_of acts over ≡ rows_of trip.acts ended = λ i. rows_of (same i) (ends i) in
      let turn = in_turn vehicle_rows (load_rows key trip.order steps) (job_rows world ended steps) in
      let rows = changes ∙ told ∙ stand ∙ turn in
      if-ok (judged trip (pending_of row) state) progress _ decision (ap (λ p. judged trip p state) (sym asked) ∙ is) (λ i. record { answer = said i; changes = rows i })

-- a state of the open trip's order is judged against the trip
pub is_of_trip : (world : World) (key : VehicleKey) (row : VehicleRow) (found : Option Trip) (trip : Trip) (state : StateMessage) → found ≡ Some trip → pointwise nat_eq trip.order state.order_id ≡ true
    → trip_state world key row trip state ≡ fresh_state world key row found state
unfolding branch
is_of_trip world key row found trip state is same =
    sym (ap (λ test. branch test (trip_state world key row trip state) (refuse_unless (is_none trip.confirmed) refusal.OtherOrder (idle_state key row state))) same) ∙ ap (λ trip. fresh_state world key row trip state) (sym is)
