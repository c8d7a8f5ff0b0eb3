-- The answer to a call that may change something fits in the buffer for it.
use Rattle.std.proofs.Common.{◌≡◌, ℕ, ◌≤◌, ◌+◌, Bool, true, false, List, length, Ok, refl, subst, sym, ◌∙◌, arith, lit≤}
use Rattle.agv_world_core.specs.Worlds.{World}
use Rattle.agv_desk.specs.Outcomes.{answer_of}
use Rattle.agv_desk.specs.Reports.{served}
use Rattle.agv_desk.specs.Step.{step}
use Rattle.agv_desk.specs.Unchanged.{only_tells}
use Rattle.agv_desk.specs.StocktakeSteps.{unknown_in}
use Rattle.agv_desk.specs.declared.answer.Answer.{Answer}
use Rattle.agv_desk.specs.declared.answer.Answer.TheVariants as answer
use Rattle.agv_desk.specs.declared.call.Call.{Call}
use Rattle.agv_desk.specs.declared.call.Call.TheVariants as call
use Rattle.agv_face_http.specs.answers.Answers.{answer_text}
use Rattle.agv_face_http.specs.bodies.BodyCalls.{call_of_body}
use Rattle.agv_face_http.specs.request.Requests.{most_body}
use Rattle.agv_face_http.specs.answers.Sizes.{IsOfItsTypes, is_outcome, most_answer, names_size, outcome_bytes}
use Rattle.agv_face_http.specs.declared.routing.route.Route.{Route}
use Rattle.agv_face_http.proofs.bodies.CountNames.{unknown_named}
use Rattle.agv_face_http.proofs.bodies.CountSizes.{unknown_within}
use Rattle.agv_face_http.proofs.answers.Lengths.{AreFewNames, outcome_short}
use Rattle.agv_face_http.proofs.answers.Outcomes.{IsOfCount, outcome_of}
use Rattle.agv_face_http.proofs.bodies.SaidCounts.{CountsWithin, counts_within}

abbrev IsTold : Answer → Type 0
IsTold a = is_outcome a ≡ true

told_count : (world : World) (made : Call) → IsOfCount IsTold world made
told_count world (call.SetLayout rows) = tt
told_count world (call.RegisterVehicle key node capacity) = tt
told_count world (call.RegisterLoad load station) = tt
told_count world (call.CorrectLoad load reference station) = tt
told_count world (call.LeaveLoad load reference) = tt
told_count world (call.AddJob job load to) = tt
told_count world (call.StopJob job) = tt
told_count world (call.StartOrder order key stops edges) = tt
told_count world (call.StartDrive order key to edges) = tt
told_count world (call.Advance key order update edges) = tt
told_count world (call.Cancel key) = tt
told_count world (call.Pause key) = tt
told_count world (call.Resume key) = tt
told_count world (call.PlaceVehicle key reference node) = tt
told_count world (call.Resync key) = tt
told_count world (call.State key state) = tt
told_count world (call.GetOrder key) = tt
told_count world (call.GetInstant key) = tt
told_count world (call.Stocktake reference rows) = refl
told_count world (call.GetLoad load) = tt
told_count world (call.GetJob job) = tt
told_count world (call.GetVehicle key) = tt
told_count world (call.Report report) = tt

pub told_outcome : (seats : ℕ) (world : World) (at : ℕ) (made : Call) → only_tells made ≡ false → is_outcome (answer_of (step seats world at made)) ≡ true
told_outcome seats world at made more =
    outcome_of IsTold (record { refused = λ why. refl; done = refl; update = λ n. refl; instructed = λ n. refl; accepted = λ newer. refl }) world seats at made more (told_count world made)

-- it fits in the buffer
abbrev pub FitsBuffer : Answer → Type 0
FitsBuffer a = (outcome_bytes a ≤ most_answer) × AreFewNames a

counted_fits : (world : World) (made : Call) (n : ℕ) → n ≤ most_body + 1 → CountsWithin n made → IsOfCount FitsBuffer world made
counted_fits world (call.SetLayout rows) n less h = tt
counted_fits world (call.RegisterVehicle key node capacity) n less h = tt
counted_fits world (call.RegisterLoad load station) n less h = tt
counted_fits world (call.CorrectLoad load reference station) n less h = tt
counted_fits world (call.LeaveLoad load reference) n less h = tt
counted_fits world (call.AddJob job load to) n less h = tt
counted_fits world (call.StopJob job) n less h = tt
counted_fits world (call.StartOrder order key stops edges) n less h = tt
counted_fits world (call.StartDrive order key to edges) n less h = tt
counted_fits world (call.Advance key order update edges) n less h = tt
counted_fits world (call.Cancel key) n less h = tt
counted_fits world (call.Pause key) n less h = tt
counted_fits world (call.Resume key) n less h = tt
counted_fits world (call.PlaceVehicle key reference node) n less h = tt
counted_fits world (call.Resync key) n less h = tt
counted_fits world (call.State key state) n less h = tt
counted_fits world (call.GetOrder key) n less h = tt
counted_fits world (call.GetInstant key) n less h = tt
counted_fits world (call.Stocktake reference rows) n less h =
    let few : names_size (unknown_in world rows) ≤ n = omega (arith, unknown_within world rows, h.0) in
    (omega arith, (omega arith, unknown_named world rows h.1))
counted_fits world (call.GetLoad load) n less h = tt
counted_fits world (call.GetJob job) n less h = tt
counted_fits world (call.GetVehicle key) n less h = tt
counted_fits world (call.Report report) n less h = tt

pub fits_buffer : (seats : ℕ) (world : World) (at : ℕ) (line : Route) (body : List ℕ) (made : Call) → call_of_body line body ≡ Ok made → length body ≤ most_body → only_tells made ≡ false
    → FitsBuffer (answer_of (step seats world at made))
fits_buffer seats world at line body made is short more =
    outcome_of FitsBuffer
    (record { refused = λ why. (lit≤ tt, tt); done = (lit≤ tt, tt); update = λ n. (lit≤ tt, tt); instructed = λ n. (lit≤ tt, tt); accepted = λ newer. (lit≤ tt, tt) })
    world seats at made more (counted_fits world made (length body + 1) (omega arith) (counts_within line body made is))

pub outcome_fits : (seats : ℕ) (world : World) (at : ℕ) (line : Route) (body : List ℕ) (made : Call) → call_of_body line body ≡ Ok made → length body ≤ most_body → only_tells made ≡ false
    → outcome_bytes (answer_of (step seats world at made)) ≤ most_answer
outcome_fits seats world at line body made is short more = (fits_buffer seats world at line body made is short more).0

-- an answer that tells what was done, or why not, is served as it is
pub as_told : (world : World) (said : Answer) → is_outcome said ≡ true → served world said ≡ said
as_told world (answer.Refused why) is = refl
as_told world answer.Done is = refl
as_told world (answer.Update n) is = refl
as_told world (answer.Instructed n) is = refl
as_told world (answer.Accepted newer) is = refl
as_told world answer.NoMessage is = refl
as_told world (answer.Order header order) is = refl
as_told world (answer.Instant header instant) is = refl
as_told world (answer.Counted moved unknown) is = refl
as_told world (answer.Load load place job) is = refl
as_told world (answer.Job job row carrier) is = refl
as_told world (answer.Vehicle key row order) is = refl
as_told world (answer.Report report text) is = absurd (let e : false ≡ true = is in cc)

-- what is known of an answer at hand
pub text_within : (a : Answer) → IsOfItsTypes a
    → (seats : ℕ) (world : World) (at : ℕ) (line : Route) (body : List ℕ) (made : Call) (close : Bool)
    → call_of_body line body ≡ Ok made → length body ≤ most_body → only_tells made ≡ false → a ≡ served world (answer_of (step seats world at made))
    → length (answer_text a close) ≤ most_answer
text_within a types seats world at line body made close is fits more as_served =
    let same : a ≡ answer_of (step seats world at made) = as_served ∙ as_told world _ (told_outcome seats world at made more) in
    let told : is_outcome a ≡ true = subst (λ (b : Answer). is_outcome b ≡ true) (sym same) (told_outcome seats world at made more) in
    let buffer : FitsBuffer a = subst FitsBuffer (sym same) (fits_buffer seats world at line body made is fits more) in
    omega (arith, buffer.0, outcome_short a told types buffer.1 close)
