-- The answer to a request fits, where it does not only ask.
use Rattle.std.proofs.Common.{◌≡◌, ℕ, ◌≤◌, nat_lt, Bool, true, false, cond, List, length, codes, Result, Ok, Err, refl, sym, ap, subst, ◌∙◌, arith, lit≤}
use Rattle.std.proofs.lemmas.Bool.Decides.{nat_tests}
use Rattle.agv_header.specs.declared.refusal.Refusal.{Refusal}
use Rattle.agv_header.specs.declared.refusal.Refusal.TheVariants as refusal
use Rattle.agv_world_core.specs.Worlds.{World}
use Rattle.agv_desk.specs.Outcomes.{answer_of}
use Rattle.agv_desk.specs.Reports.{served}
use Rattle.agv_desk.specs.declared.answer.Answer.{Answer}
use Rattle.agv_desk.specs.declared.call.Call.{Call}
use Rattle.agv_face_http.specs.answers.Answers.{answer_text}
use Rattle.agv_face_http.specs.bodies.BodyCalls.{call_of_body}
use Rattle.agv_face_http.specs.request.Lines.{Length, absent, given, wrong, content_length, has_line}
use Rattle.agv_face_http.specs.Output.{call_of_routed, call_of_request, outcome_by, outcome_for}
use Rattle.agv_face_http.specs.request.Requests.{IsRequest, Request, length_needed, lines_of, most_body, sends_body}
use Rattle.agv_face_http.specs.answers.Sizes.{IsOfItsTypes, is_outcome, most_answer, only_asks}
use Rattle.agv_face_http.specs.routing.Table.{route_at}
use Rattle.agv_face_http.specs.declared.routing.route.Route.{Route}
use Rattle.agv_face_http.proofs.answers.Fitting.{FitsBuffer, as_told, fits_buffer, told_outcome}
use Rattle.agv_face_http.proofs.answers.Lengths.{outcome_short}

-- ---- the body of a request

by_method : (sends : Bool) (n : ℕ) → cond sends (Err refusal.NoLength) (Ok 0) ≡ Ok n → n ≤ most_body
by_method true n is = absurd (cc)
by_method false n is = let same : 0 ≡ n = cc in omega arith

by_size : (large : Bool) (k n : ℕ) → nat_lt most_body k ≡ large → cond large (Err refusal.TooLarge) (Ok k) ≡ Ok n → n ≤ most_body
by_size true k n test is = absurd (cc)
by_size false k n test is = let same : k ≡ n = cc in let within : k ≤ most_body = grind (arith, nat_tests) in omega arith

needed_short : (coded : Bool) (method : List ℕ) (said : Length) (n : ℕ) → length_needed coded method said ≡ Ok n → n ≤ most_body
needed_short coded method wrong n is = absurd (cc)
needed_short true method absent n is = absurd (cc)
needed_short false method absent n is = by_method (sends_body method) n is
needed_short true method (given k) n is = absurd (cc)
needed_short false method (given k) n is = by_size (nat_lt most_body k) k n refl is

pub body_short : (bytes : List ℕ) (request : Request) → IsRequest bytes request → length request.body ≤ most_body
body_short bytes request (head, body, begins, needed, same) =
    let short : length body ≤ most_body = needed_short (has_line (codes "transfer-encoding") (lines_of head)) head.method (content_length (lines_of head)) (length body) needed in
    omega (arith, ap (λ (r : Request). length r.body) same)

-- ---- its answer

module _ (seats : ℕ) (world : World) (at : ℕ) where
  abbrev Fits : Answer → Type 0
  Fits a = (is_outcome a ≡ true) × FitsBuffer a

  by_call : (line : Route) (body : List ℕ) → length body ≤ most_body → (read : Result Call Refusal) → call_of_body line body ≡ read → only_asks read ≡ false
      → Fits (answer_of (outcome_by seats world at read))
  unfolding answer_of
  by_call line body short (Err why) is more = (refl, (lit≤ tt, tt))
  by_call line body short (Ok made) is more = (told_outcome seats world at made more, fits_buffer seats world at line body made is short more)

  by_route : (read : Result Route Refusal) (body : List ℕ) → length body ≤ most_body → only_asks (call_of_routed body read) ≡ false
      → Fits (answer_of (outcome_by seats world at (call_of_routed body read)))
  unfolding answer_of
  by_route (Err why) body short more = (refl, (lit≤ tt, tt))
  by_route (Ok line) body short more = by_call line body short (call_of_body line body) refl more

  answer_fits : (bytes : List ℕ) (request : Request) → IsRequest bytes request → only_asks (call_of_request request) ≡ false → Fits (answer_of (outcome_for seats world at request))
  unfolding call_of_request outcome_for
  answer_fits bytes request is more = by_route (route_at request.method request.target) request.body (body_short bytes request is) more

-- what is known of an answer at hand
pub request_within : (a : Answer) → IsOfItsTypes a
    → (seats : ℕ) (world : World) (at : ℕ) (bytes : List ℕ) (request : Request) (close : Bool)
    → IsRequest bytes request → only_asks (call_of_request request) ≡ false → a ≡ served world (answer_of (outcome_for seats world at request))
    → length (answer_text a close) ≤ most_answer
request_within a types seats world at bytes request close is more as_served =
    let same : a ≡ answer_of (outcome_for seats world at request) = as_served ∙ as_told world _ (answer_fits seats world at bytes request is more).0 in
    let fits : (is_outcome a ≡ true) × FitsBuffer a = subst (λ (b : Answer). (is_outcome b ≡ true) × FitsBuffer b) (sym same) (answer_fits seats world at bytes request is more) in
    omega (arith, fits.1.0, outcome_short a fits.0 types fits.1.1 close)
