-- What an input begins with.
use Rattle.std.specs.Prelude.{◌≡◌, ℕ, List, [], ◌++◌, take}
use Rattle.agv_header.specs.declared.refusal.Refusal.{Refusal}
use Rattle.agv_face_http.specs.request.Requests.{Request, IsRequest, IsFault}
use Rattle.agv_face_http.specs.request.Heard.{IsLent}
use Rattle.agv_face_http.specs.declared.request.heard.Heard.{Heard}
use Rattle.agv_face_http.specs.declared.request.heard.Heard.TheVariants as heard

-- the start of an input: a request with its bytes, a fault, or nothing where there is no byte
pub data Start : Type 0 where
  a_request : List ℕ → Request → Start
  a_fault : Refusal → Start
  nothing : Start

-- the input starts so
abbrev pub StartsWith : List ℕ → Start → Type 0
StartsWith input (a_request part request) = (rest : List ℕ) × (input ≡ part ++ rest) × IsRequest part request
StartsWith input (a_fault fault) = IsFault input fault
StartsWith input nothing = input ≡ []

-- what is heard in a buffer says that its input starts so
abbrev pub Tells : List ℕ → Heard → Start → Type 0
Tells buf heard.Need start = ⊥
Tells buf heard.End start = start ≡ nothing
Tells buf (heard.Fault fault) start = start ≡ a_fault fault
Tells buf (heard.Request lent) start = (request : Request) × (start ≡ a_request (take lent.len buf) request) × IsLent request lent
