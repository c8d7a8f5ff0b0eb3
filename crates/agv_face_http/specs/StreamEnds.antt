-- How a stream of requests ends: what is written, the world afterwards, and how many answers are written whole. At each end, requests are served in order, each in the world that the earlier ones left.
use Rattle.std.specs.Prelude.{◌≡◌, ◌<◌, ◌+◌, ◌⊎◌, ℕ, List, [], ◌∷◌, ◌++◌, length, IsOk}
use Rattle.agv_header.specs.declared.refusal.Refusal.{Refusal}
use Rattle.agv_header.specs.declared.refusal.Refusal.TheVariants as refusal
use Rattle.agv_world_core.specs.Worlds.{World}
use Rattle.agv_face_http.specs.request.Cut.{Ending, at_end, closed, faulty}
use Rattle.agv_face_http.specs.request.Fronts.{Begins, HasFaultNext, HasNext, IsSoFar}
use Rattle.agv_face_http.specs.Output.{IsOutput, answer_to, answers_to, call_of_request, refusal_text, world_after}
use Rattle.agv_face_http.specs.request.Requests.{Request}

-- a fault of the machine: out of memory, or the store has failed
abbrev pub IsOfMachine : Refusal → Type 0
IsOfMachine why = (why ≡ refusal.Memory) ⊎ (why ≡ refusal.Storage)

-- the next request after these makes a call
abbrev pub HasCallNext : List ℕ → List Request → Type 0
HasCallNext input requests = (request : Request) × HasNext input requests request × IsOk (call_of_request request)

-- there is another request after these
abbrev pub HasRequestNext : List ℕ → List Request → Type 0
HasRequestNext input requests = (request : Request) × HasNext input requests request

-- a fault of the machine after these requests: `Storage` comes only from a call, and `Memory` only where there is another request, or before the first request, where memory for the stream itself was refused
pub record HasMachineFault (input : List ℕ) (requests : List Request) (why : Refusal) : Type 0 where
  pub begins : Begins input requests
  pub of_machine : IsOfMachine why
  pub of_call : why ≡ refusal.Storage → HasCallNext input requests
  pub of_request : why ≡ refusal.Memory → (requests ≡ []) ⊎ HasRequestNext input requests

-- how many answers are written after those to the requests, at this end of the input: one for the refusal of a fault
abbrev pub last_answers : Ending → ℕ
last_answers at_end = 0
last_answers closed = 0
last_answers (faulty why) = 1

module _ (seats : ℕ) (world : World) (at : ℕ) where
  -- these requests are answered, then the bytes `more` are written, and the world is the one after the requests
  pub record AreServed (requests : List Request) (more out : List ℕ) (left : World) : Type 0 where
    pub written : out ≡ answers_to seats world at requests ++ more
    pub world_is : left ≡ world_after seats world at requests

  -- the input is served up to this end: no byte is left, a request was the last of its stream, or a fault is refused
  pub record IsServedToEnd (input : List ℕ) (ending : Ending) (out : List ℕ) (left : World) (answers : ℕ) : Type 0 where
    pub output : IsOutput seats world at input out left
    pub ending_is : output.ending ≡ ending
    pub counted : answers ≡ length output.requests + last_answers ending

  -- after the answers to some requests, possibly none, the stream ends with the refusal of a fault of the machine
  pub record IsRefusedByMachine (input : List ℕ) (why : Refusal) (out : List ℕ) (left : World) (answers : ℕ) : Type 0 where
    pub requests : List Request
    pub cause : HasMachineFault input requests why
    pub served : AreServed requests (refusal_text why) out left
    pub counted : answers ≡ length requests + 1

  -- the reader failed after these bytes: all requests that have arrived whole are answered, and nothing else is written
  pub record IsReadFault (bytes out : List ℕ) (left : World) (answers : ℕ) : Type 0 where
    pub requests : List Request
    pub so_far : IsSoFar bytes requests
    pub served : AreServed requests [] out left
    pub counted : answers ≡ length requests

  -- the text to write after the answers to some requests is the answer to the next one, which has been served
  pub record IsNextAnswer (input : List ℕ) (requests : List Request) (text : List ℕ) (left : World) : Type 0 where
    pub request : Request
    pub next : HasNext input requests request
    pub text_is : text ≡ answer_to seats (world_after seats world at requests) at request
    pub world_is : left ≡ world_after seats world at (requests ++ request ∷ [])

  -- the text to write after the answers to some requests is the refusal of a fault, of the input or of the machine
  pub record IsLastRefusal (input : List ℕ) (requests : List Request) (text : List ℕ) (left : World) : Type 0 where
    pub why : Refusal
    pub cause : HasFaultNext input requests why ⊎ HasMachineFault input requests why
    pub text_is : text ≡ refusal_text why
    pub world_is : left ≡ world_after seats world at requests

  -- the writer failed after the answers to some requests: a proper prefix of the next answer is written
  pub record IsWriteFault (input out : List ℕ) (left : World) (answers : ℕ) : Type 0 where
    pub requests : List Request
    pub text : List ℕ
    pub is_next : IsNextAnswer input requests text left ⊎ IsLastRefusal input requests text left
    pub front : List ℕ
    pub lacking : List ℕ
    pub parts : text ≡ front ++ lacking
    pub some_lacks : 0 < length lacking
    pub written : out ≡ answers_to seats world at requests ++ front
    pub counted : answers ≡ length requests

-- ---- which part of the whole output is written

-- `front` is a prefix of these bytes
abbrev pub IsFrontOf : List ℕ → List ℕ → Type 0
IsFrontOf front bytes = (rest : List ℕ) × (bytes ≡ front ++ rest)

-- the bytes are a prefix of the whole output, followed by a prefix of the refusal of a fault of the machine
pub record EndsInMachineFault (out whole : List ℕ) : Type 0 where
  pub sent : List ℕ
  pub last : List ℕ
  pub why : Refusal
  pub of_machine : IsOfMachine why
  pub sent_is : IsFrontOf sent whole
  pub last_is : IsFrontOf last (refusal_text why)
  pub out_is : out ≡ sent ++ last
