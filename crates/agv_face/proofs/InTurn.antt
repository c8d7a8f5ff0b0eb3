-- One request more: what is written for it, and the world after it.
use Rattle.std.proofs.Common.{◌≡◌, ℕ, Bool, true, false, List, [], ◌∷◌, ◌++◌, Option, Some, None, Result, Ok, Err, IfSome, IsErr, IsOk, refl, sym, ap, ap₂, ◌∙◌, subst, append-nil}
use Rattle.std.specs.Io.KnownBytes.{Consumes, IsAtEnd}
use Rattle.std.specs.List.{cons_option}
use Rattle.agv_desk.specs.Outcomes.{Outcome, after, answer_of}
use Rattle.agv_desk.specs.Reports.{served}
use Rattle.agv_desk.specs.declared.call.Call.{Call}
use Rattle.agv_header.specs.declared.refusal.Refusal.{Refusal}
use Rattle.agv_face_http.specs.answers.Answers.{answer_text}
use Rattle.agv_face_http.specs.request.Cut.{Cut, at_end}
use Rattle.agv_face_http.specs.request.Fronts.{GoesOn}
use Rattle.agv_face_http.specs.request.Heard.{Follows, IsHeard, IsLent}
use Rattle.agv_face_http.specs.Output.{answer_to, answers_to, timed_call, call_of_routed, call_of_request, calls_of, outcome_by, outcome_for, world_after}
use Rattle.agv_face_http.specs.request.Requests.{Request}
use Rattle.agv_face_http.specs.routing.Table.{route_at}
use Rattle.agv_face_http.specs.declared.request.heard.Heard.{Heard}
use Rattle.agv_face_http.specs.declared.request.heard.RequestRef.{RequestRef}
use Rattle.agv_store_schema.specs.SchemaNumbers.{desk_seats}
use Rattle.agv_world_core.specs.Worlds.{World}
use Rattle.agv_face.specs.Replies.{call_of_lent, text_for}

-- ---- the laws that are cited

abbrev pub GoesOnBehind : Type 0
GoesOnBehind = (front buf : List ℕ) (ended : Bool) (requests : List Request) (told : Heard) → Cut front requests at_end → IsHeard buf ended told → GoesOn front buf ended requests told

abbrev pub AnswersInTurn : Type 0
AnswersInTurn = (seats : ℕ) (world : World) (at : ℕ) (requests more : List Request)
    → answers_to seats world at (requests ++ more) ≡ answers_to seats world at requests ++ answers_to seats (world_after seats world at requests) at more

abbrev pub WorldsInTurn : Type 0
WorldsInTurn = (seats : ℕ) (world : World) (at : ℕ) (requests more : List Request)
    → world_after seats world at (requests ++ more) ≡ world_after seats (world_after seats world at requests) at more

abbrev pub CallsInTurn : Type 0
CallsInTurn = (requests more : List Request) (at : ℕ) → calls_of (requests ++ more) at ≡ calls_of requests at ++ calls_of more at

-- ---- a request, by its lent parts

call_is : (request : Request) (lent : RequestRef) → IsLent request lent → call_of_lent lent ≡ call_of_request request
unfolding call_of_request
call_is request lent is =
    ap (λ (body : List ℕ). call_of_routed body (route_at lent.method lent.target.now)) is.body
    ∙ ap (λ (target : List ℕ). call_of_routed request.body (route_at lent.method target)) is.target
    ∙ ap (λ (method : List ℕ). call_of_routed request.body (route_at method request.target)) is.method

pub is_call : (request : Request) (lent : RequestRef) → IsLent request lent → IsOk (call_of_lent lent) → IsOk (call_of_request request)
is_call request lent is made = let Made : Result Call Refusal → Type 0 = λ read. IsOk read in subst Made (call_is request lent is) made

outcome_is : (world : World) (at : ℕ) (request : Request) (lent : RequestRef) → IsLent request lent → outcome_by desk_seats world at (call_of_lent lent) ≡ outcome_for desk_seats world at request
unfolding call_of_request outcome_for
outcome_is world at request lent is =
    ap (λ (body : List ℕ). outcome_by desk_seats world at (call_of_routed body (route_at lent.method lent.target.now))) is.body
    ∙ ap (λ (target : List ℕ). outcome_by desk_seats world at (call_of_routed request.body (route_at lent.method target))) is.target
    ∙ ap (λ (method : List ℕ). outcome_by desk_seats world at (call_of_routed request.body (route_at method request.target))) is.method

text_is : (world : World) (at : ℕ) (request : Request) (lent : RequestRef) → IsLent request lent → text_for world at lent ≡ answer_to desk_seats world at request
text_is world at request lent is =
    ap₂ (λ (o : Outcome) (close : Bool). answer_text (served world (answer_of o)) close) (outcome_is world at request lent is) is.close

-- ---- no request, one, and one behind others

pub no_answer : (world : World) (at : ℕ) → answers_to desk_seats world at [] ≡ []
unfolding answers_to
no_answer world at = refl

pub no_change : (world : World) (at : ℕ) → world_after desk_seats world at [] ≡ world
unfolding world_after
no_change world at = refl

one_answer : (world : World) (at : ℕ) (request : Request) → answers_to desk_seats world at (request ∷ []) ≡ answer_to desk_seats world at request
unfolding answers_to
one_answer world at request = append-nil (answer_to desk_seats world at request)

one_world : (world : World) (at : ℕ) (request : Request) → world_after desk_seats world at (request ∷ []) ≡ after world (outcome_for desk_seats world at request)
unfolding world_after
one_world world at request = refl

pub no_calls : (at : ℕ) → calls_of [] at ≡ []
no_calls at = refl

none_made : (at : ℕ) (read : Result Call Refusal) → IsErr read → cons_option (timed_call at read) [] ≡ []
none_made at (Ok made) is = absurd (let e : false ≡ true = is in cc)
none_made at (Err why) is = refl

-- the calls with one request more
pub calls_more : (at : ℕ) (requests : List Request) (request : Request) (lent : RequestRef) → IsLent request lent → CallsInTurn
    → calls_of (requests ++ request ∷ []) at ≡ calls_of requests at ++ cons_option (timed_call at (call_of_lent lent)) []
calls_more at requests request lent is turn =
    turn requests (request ∷ []) at ∙ ap (λ (read : Result Call Refusal). calls_of requests at ++ cons_option (timed_call at read) []) (sym (call_is request lent is))

-- a request more that is none
pub next_no_call : (at : ℕ) (requests : List Request) (request : Request) (lent : RequestRef) → IsLent request lent → CallsInTurn
    → calls_of requests at ≡ [] → IsErr (call_of_lent lent) → calls_of (requests ++ request ∷ []) at ≡ []
next_no_call at requests request lent is turn none refused =
    let Refused : Result Call Refusal → Type 0 = λ read. IsErr read in
    let last : calls_of (request ∷ []) at ≡ [] = none_made at (call_of_request request) (subst Refused (call_is request lent is) refused) in
    turn requests (request ∷ []) at ∙ ap₂ ◌++◌ none last

module _ (world : World) (at : ℕ) (requests : List Request) (request : Request) (lent : RequestRef) (is : IsLent request lent) where
  abbrev reached : World
  reached = world_after desk_seats world at requests

  pub next_text : text_for reached at lent ≡ answer_to desk_seats reached at request
  next_text = text_is reached at request lent is

  pub next_answers : AnswersInTurn → answers_to desk_seats world at requests ++ text_for reached at lent ≡ answers_to desk_seats world at (requests ++ request ∷ [])
  next_answers turn = sym (turn desk_seats world at requests (request ∷ []) ∙ ap (λ (text : List ℕ). answers_to desk_seats world at requests ++ text) (one_answer reached at request ∙ sym next_text))

  pub next_world : WorldsInTurn → after reached (outcome_by desk_seats reached at (call_of_lent lent)) ≡ world_after desk_seats world at (requests ++ request ∷ [])
  next_world turn = ap (λ (o : Outcome). after reached o) (outcome_is reached at request lent is) ∙ sym (one_world reached at request) ∙ sym (turn desk_seats world at requests (request ∷ []))

-- ---- the whole input: what has come of it, and what comes behind

pub whole : (old now : Option (List ℕ)) (bytes : List ℕ) (ended : Bool) → Consumes old now bytes → (ended ≡ true → IsAtEnd now)
    → (input : List ℕ) × (more : List ℕ) × IfSome old (λ all. all ≡ input) × (input ≡ bytes ++ more) × Follows ended more
whole None now bytes ended came ends = (bytes, [], tt, sym (append-nil bytes), λ _. refl)
whole (Some all) None bytes ended came ends = absurd came
whole (Some all) (Some left) bytes ended came ends = (all, left, refl, came, ends)
