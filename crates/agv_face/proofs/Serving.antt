-- What one request leaves of a desk, and what is answered.
use Rattle.std.proofs.Common.{◌≡◌, ◌≤◌, ◌⊎◌, ℕ, Bool, true, false, List, length, Result, Ok, Err, IfOk, OnErr, OnOk, inl, inr, refl, sym, ap, ◌∙◌, subst, arith}
use Rattle.std.proofs.lemmas.Bool.{both_ways}
use Rattle.sqlite.specs.Effect.{Database}
use Rattle.sqlite.specs.Held.{Held, state}
use Rattle.sqlite.specs.State.{State, Survives}
use Rattle.sqlite_trees.specs.Tree.{Trees}
use Rattle.sqlite_trees.specs.declared.store.Store.{Ghosts}
use Rattle.agv_desk.specs.Outcomes.{after, answer_of}
use Rattle.agv_desk.specs.Reports.{served}
use Rattle.agv_desk.specs.Step.{step}
use Rattle.agv_desk.specs.Unchanged.{ChangesNothing, only_tells}
use Rattle.agv_desk.specs.declared.answer.Answer.{Answer}
use Rattle.agv_desk.specs.declared.answer.Answer.TheVariants as answer
use Rattle.agv_desk.specs.declared.call.Call.{Call}
use Rattle.agv_header.specs.declared.refusal.Refusal.{Refusal}
use Rattle.agv_face_http.specs.answers.Answers.{answer_text}
use Rattle.agv_face_http.specs.bodies.BodyCalls.{call_of_body}
use Rattle.agv_face_http.specs.Output.{call_of_routed, outcome_by}
use Rattle.agv_face_http.specs.request.Requests.{most_body}
use Rattle.agv_face_http.specs.answers.Sizes.{most_answer}
use Rattle.agv_face_http.specs.routing.Table.{route_at}
use Rattle.agv_face_http.specs.declared.request.heard.RequestRef.{RequestRef}
use Rattle.agv_face_http.specs.declared.routing.route.Route.{Route}
use Rattle.agv_store_floor.specs.Floors.{Keyed, Knows, world_at}
use Rattle.agv_store.specs.Serving.{IsServedBy, LeavesAll, LeavesCall}
use Rattle.agv_store_floor.specs.Flags.{EndsAs}
use Rattle.agv_store_schema.specs.Connections.{IsClean}
use Rattle.agv_world_core.specs.Asks.{failed_by}
use Rattle.agv_store_read.specs.WorldAnswers.{HasWorld}
use Rattle.agv_store_schema.proofs.Later.{later_refl, later_trans}
use Rattle.agv_store_read_tables.specs.WorldIn.{world_in}
use Rattle.agv_store_schema.specs.DeskRows.{Placing}
use Rattle.agv_store_schema.specs.SchemaNumbers.{desk_seats}
use Rattle.agv_world_core.specs.Worlds.{World}
use Rattle.agv_face_http.specs.request.Heard.{IsHeard}
use Rattle.agv_face_http.specs.declared.request.heard.Heard.TheVariants as heard
use Rattle.agv_world_core.specs.declared.fault.Fault.{Fault}
use Rattle.agv_world_core.specs.declared.fault.Fault.TheVariants as machine
use Rattle.agv_face.specs.Nexts.{IsNextFault}
use Rattle.agv_face.specs.Replies.{ComesOfCall, IsCallAnswered, IsLaterDesk, IsReached, LeavesRequest, call_of_lent}

-- ---- the laws that are cited

abbrev pub DatabaseTells : Type 0
DatabaseTells = (desk : Placing) (db : Database) (world : World) → HasWorld desk db world → world_in db ≡ world

abbrev pub TellsWithoutChange : Type 0
TellsWithoutChange = (seats : ℕ) (world : World) (at : ℕ) (call : Call) → only_tells call ≡ true → ChangesNothing world (step seats world at call)

-- ---- a world that is known

pub world_known : {S : Type 0} (g : Ghosts S) (held : Held S) (world : World) → DatabaseTells → Knows g held world → world_at g held ≡ world
world_known g held world tells knows = tells knows.at (state g held).now world knows.has

-- ---- a call is served

had_worked : (b : Bool) → (b ≡ true → ⊥) → b ≡ false
had_worked true never = absurd (never refl)
had_worked false never = refl

module _ {S : Type 0} (g : Ghosts S) (old new : Keyed S) (at : ℕ) (call : Call) where
  call_answered : DatabaseTells → (answer : Answer) → IsServedBy g old.held new.held at call answer → IsCallAnswered (world_at g old.held) (world_at g new.held) at (Ok call) answer
  call_answered tells answer served = record { answer_is = served.answer_is; world_is = world_known g new.held _ tells served.knows }

  pub answered : DatabaseTells → (r : Result Answer Fault) → IfOk r (IsServedBy g old.held new.held at call) → IfOk r (IsCallAnswered (world_at g old.held) (world_at g new.held) at (Ok call))
  answered tells (Ok answer) served = call_answered tells answer served
  answered tells (Err why) served = tt

  pub world_left : (r : Result Answer Fault) → OnErr r (LeavesAll g old.held new.held) → OnErr r (world_at g new.held ≡ world_at g old.held)
  world_left (Ok answer) left = tt
  world_left (Err why) left = ap world_in left

  pub failed_so : (r : Result Answer Fault) → EndsAs r new.failed → (old.failed ≡ true → new.failed ≡ true) → new.failed ≡ failed_by r old.failed
  failed_so (Ok answer) ends fails = ends ∙ sym (had_worked old.failed (λ failed. both_ways new.failed ends (fails failed)))
  failed_so (Err machine.Memory) ends fails = ends ∙ sym (had_worked old.failed (λ failed. both_ways new.failed ends (fails failed)))
  failed_so (Err machine.Storage) ends fails = ends

  reached_one : DatabaseTells → (answer : Answer) → Knows g old.held (world_at g old.held) → IsServedBy g old.held new.held at call answer
      → Knows g old.held (world_at g old.held) × Knows g new.held (world_at g new.held)
  reached_one tells answer knew served = (knew, subst (λ (world : World). Knows g new.held world) (sym (world_known g new.held _ tells served.knows)) served.knows)

  pub reached : DatabaseTells → (r : Result Answer Fault) → (IsClean g new.held → OnOk r (Knows g old.held (world_at g old.held))) → (IsClean g new.held → IfOk r (IsServedBy g old.held new.held at call))
      → OnOk r (IsReached g old new (Ok call))
  reached tells (Ok answer) knew served = λ clean. reached_one tells answer (knew clean) (served clean)
  reached tells (Err why) knew served = tt

-- ---- a request that is refused before it is a call

pub refused_so : (world : World) (at : ℕ) (call : Result Call Refusal) (why : Refusal) (told : Answer) → call ≡ Err why → told ≡ answer.Refused why → IsCallAnswered world world at call told
unfolding answer_of after
refused_so world at call why told is refused =
    let So : Result Call Refusal → Type 0 = λ c. IsCallAnswered world world at c told in
    subst So (sym is) (record { answer_is = refused; world_is = refl })

-- ---- after a commit there is memory for the answer

abbrev pub OutcomesFit : Answer → Type 0
OutcomesFit told = (seats : ℕ) (world : World) (at : ℕ) (route : Route) (body : List ℕ) (made : Call) (close : Bool)
    → call_of_body route body ≡ Ok made → length body ≤ most_body → only_tells made ≡ false → told ≡ served world (answer_of (step seats world at made))
    → length (answer_text told close) ≤ most_answer

abbrev pub FitsBuffer : Answer → Type 0
FitsBuffer told = (close : Bool) → length (answer_text told close) ≤ most_answer

module _ (changes_none : TellsWithoutChange) (told : Answer) (fits : OutcomesFit told) (world world_then : World) (at : ℕ) (body : List ℕ) (short : length body ≤ most_body) where
  of_call : (route : Route) (made : Call) → call_of_body route body ≡ Ok made → told ≡ served world (answer_of (step desk_seats world at made)) → world_then ≡ after world (step desk_seats world at made)
      → (b : Bool) → only_tells made ≡ b → (world_then ≡ world) ⊎ FitsBuffer told
  of_call route made is so leads true asks = inl (leads ∙ (changes_none desk_seats world at made asks).0)
  of_call route made is so leads false asks = inr (λ close. fits desk_seats world at route body made close is short asks so)

  of_read : (route : Route) (read : Result Call Refusal) → call_of_body route body ≡ read → told ≡ served world (answer_of (outcome_by desk_seats world at read)) → world_then ≡ after world (outcome_by desk_seats world at read)
      → (world_then ≡ world) ⊎ FitsBuffer told
  unfolding after
  of_read route (Err why) is so leads = inl leads
  of_read route (Ok made) is so leads = of_call route made is so leads (only_tells made) refl

  of_route : (route : Result Route Refusal) → told ≡ served world (answer_of (outcome_by desk_seats world at (call_of_routed body route))) → world_then ≡ after world (outcome_by desk_seats world at (call_of_routed body route))
      → (world_then ≡ world) ⊎ FitsBuffer told
  unfolding after
  of_route (Err why) so leads = inl leads
  of_route (Ok route) so leads = of_read route (call_of_body route body) refl so leads

pub stays_or_fits : TellsWithoutChange → (world world_then : World) (at : ℕ) (request : RequestRef) (told : Answer) → OutcomesFit told → length request.body.now ≤ most_body
    → IsCallAnswered world world_then at (call_of_lent request) told → (world_then ≡ world) ⊎ FitsBuffer told
stays_or_fits changes_none world world_then at request told fits short served =
    of_route changes_none told fits world world_then at request.body.now short (route_at request.method request.target.now) served.answer_is served.world_is

-- ---- moments of a desk

pub later_still : {S : Type 0} (g : Ghosts S) (desk : Keyed S) → IsLaterDesk g desk desk
later_still g desk = record { later = later_refl g desk.held; was_open = λ _ is. is; stopped = λ _. refl }

pub later_then : {S : Type 0} (g : Ghosts S) (desk now then : Keyed S) → IsLaterDesk g desk now → IsLaterDesk g now then → IsLaterDesk g desk then
later_then {S = S} g desk now then first second = record {
  later = later_trans g desk.held now.held then.held first.later second.later;
  was_open = λ clean still. first.was_open (second.later.clean clean) (second.was_open clean still);
  stopped = λ failed. let same = first.stopped failed in second.stopped (ap (λ (d : Keyed S). d.failed) same ∙ failed) ∙ same;
}

-- at one moment
pub survives_still : (now : State) (P : Trees → Type 0) → Survives now now P
survives_still now P = record { clean = omega arith; shield = λ is. is; counts = omega arith; limit = refl; closes = λ _ is. inl is; crash = λ _ db before. inl before }

-- a request that was read as a call
module _ {S : Type 0} (g : Ghosts S) (desk desk_then : Keyed S) (read : Result Call Refusal) (call : Call) (is : read ≡ Ok call) where
  pub reached_by : {A : Type 0} (r : Result A Fault) → OnOk r (IsReached g desk desk_then (Ok call)) → OnOk r (IsReached g desk desk_then read)
  reached_by r reached = let So : Result Call Refusal → Type 0 = λ c. OnOk r (IsReached g desk desk_then c) in subst So (sym is) reached

  pub crash_by : (at : ℕ) → Survives (state g desk.held) (state g desk_then.held) (LeavesCall g desk.held at call)
      → Survives (state g desk.held) (state g desk_then.held) (LeavesRequest g desk.held at read)
  crash_by at survives = let So : Result Call Refusal → Type 0 = λ c. Survives (state g desk.held) (state g desk_then.held) (LeavesRequest g desk.held at c) in subst So (sym is) survives

-- one that is refused leaves the desk as it is
pub reached_none : {S : Type 0} (g : Ghosts S) (desk : Keyed S) (read : Result Call Refusal) (why : Refusal) → read ≡ Err why → IsReached g desk desk read
reached_none g desk read why is = let So : Result Call Refusal → Type 0 = λ c. IsReached g desk desk c in subst So (sym is) refl

-- ---- a fault before there is an answer

pub comes_of_next : (buf : List ℕ) (ended : Bool) (lent : RequestRef) → IsHeard buf ended (heard.Request lent) → (why : Fault) → ComesOfCall (call_of_lent lent) why → IsNextFault buf ended why
comes_of_next buf ended lent told machine.Memory comes = (lent.len, (told.0, told.1, told.2, told.3, tt))
comes_of_next buf ended lent told machine.Storage comes = (lent, told, comes)

-- ---- in general

pub by_either : {A B C : Type 0} → A ⊎ B → (A → C) → (B → C) → C
by_either (inl a) left right = left a
by_either (inr b) left right = right b

pub on_err : {T E P : Type 0} (r : Result T E) → P → OnErr r P
on_err (Ok done) holds = tt
on_err (Err why) holds = holds
