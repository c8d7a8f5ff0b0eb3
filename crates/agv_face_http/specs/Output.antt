-- What is written for a whole input: its requests are served in order, each in the world that the earlier ones left, and their answers are written in the same order.
use Rattle.std.specs.Prelude.{◌≡◌, ℕ, true, List, [], ◌∷◌, ◌++◌, Option, Some, None, Result, Ok, Err, filter_map}
use Rattle.agv_header.specs.declared.refusal.Refusal.{Refusal}
use Rattle.agv_world_core.specs.Worlds.{World}
use Rattle.agv_desk.specs.Outcomes.{Outcome, Refused, after, answer_of}
use Rattle.agv_desk.specs.Reports.{served}
use Rattle.agv_desk.specs.Step.{step}
use Rattle.agv_desk.specs.declared.answer.Answer.TheVariants as answer
use Rattle.agv_desk.specs.declared.call.Call.{Call}
use Rattle.agv_face_http.specs.answers.Answers.{answer_text}
use Rattle.agv_face_http.specs.bodies.BodyCalls.{call_of_body}
use Rattle.agv_face_http.specs.request.Cut.{Cut, Ending, at_end, closed, faulty}
use Rattle.agv_face_http.specs.request.Requests.{Request, is_last}
use Rattle.agv_face_http.specs.routing.Table.{route_at}
use Rattle.agv_face_http.specs.declared.routing.route.Route.{Route}

-- ---- one request

-- the call of a route with the request's body, or why there is none
abbrev pub call_of_routed : List ℕ → Result Route Refusal → Result Call Refusal
call_of_routed body (Err why) = Err why
call_of_routed body (Ok route) = call_of_body route body

-- the call that a request makes, or why it is refused before it is a call
unfoldable pub call_of_request : Request → Result Call Refusal
call_of_request request = call_of_routed request.body (route_at request.method request.target)

-- the outcome of a call, or of a request refused before it is a call
abbrev pub outcome_by : ℕ → World → ℕ → Result Call Refusal → Outcome
outcome_by seats world at (Err why) = Refused why
outcome_by seats world at (Ok call) = step seats world at call

-- the outcome of a request in a world at a moment
unfoldable pub outcome_for : ℕ → World → ℕ → Request → Outcome
outcome_for seats world at request = outcome_by seats world at (call_of_request request)

-- the call with its moment, if the request makes one
abbrev pub timed_call : ℕ → Result Call Refusal → Option (ℕ × Call)
timed_call at (Err why) = None
timed_call at (Ok call) = Some (at, call)

-- ---- all requests

-- the bytes of the answer to a request
abbrev pub answer_to : ℕ → World → ℕ → Request → List ℕ
answer_to seats world at request = answer_text (served world (answer_of (outcome_for seats world at request))) (is_last request)

-- the answers to a list of requests, concatenated
unfoldable pub answers_to : ℕ → World → ℕ → List Request → List ℕ
answers_to seats world at [] = []
answers_to seats world at (request ∷ requests) =
    answer_to seats world at request ++ answers_to seats (after world (outcome_for seats world at request)) at requests

-- the world after a list of requests
unfoldable pub world_after : ℕ → World → ℕ → List Request → World
world_after seats world at [] = world
world_after seats world at (request ∷ requests) = world_after seats (after world (outcome_for seats world at request)) at requests

-- the calls that the requests make, each at this moment, without the requests that are refused before they are calls
abbrev pub calls_of : List Request → ℕ → List (ℕ × Call)
calls_of requests at = filter_map (λ (request : Request). timed_call at (call_of_request request)) requests

-- the bytes of a refusal after which the stream ends
abbrev pub refusal_text : Refusal → List ℕ
refusal_text why = answer_text (answer.Refused why) true

-- what is written at the end: at a fault, its refusal with `Connection: close`; otherwise nothing
abbrev pub last_text : Ending → List ℕ
last_text at_end = []
last_text closed = []
last_text (faulty why) = refusal_text why

-- `out` is what is written for the input in a world at a moment, and `left` is the world afterwards
pub record IsOutput (seats : ℕ) (world : World) (at : ℕ) (input out : List ℕ) (left : World) : Type 0 where
  pub requests : List Request
  pub ending : Ending
  pub cut : Cut input requests ending
  pub written : out ≡ answers_to seats world at requests ++ last_text ending
  pub world_is : left ≡ world_after seats world at requests
