-- How far an input has been served: a prefix of whole requests, and what follows it.
use Rattle.std.specs.Prelude.{◌≡◌, Bool, true, false, ℕ, List, [], ◌∷◌, ◌++◌, take}
use Rattle.agv_header.specs.declared.refusal.Refusal.{Refusal}
use Rattle.agv_face_http.specs.request.Cut.{Cut, at_end, closed, faulty}
use Rattle.agv_face_http.specs.request.Heard.{Follows, IsLent}
use Rattle.agv_face_http.specs.request.Requests.{Request, IsFault, IsRequest, NeedsMore}
use Rattle.agv_face_http.specs.declared.request.heard.Heard.{Heard}
use Rattle.agv_face_http.specs.declared.request.heard.Heard.TheVariants as heard
use Rattle.agv_face_http.specs.declared.request.heard.RequestRef.{RequestRef}

-- the input is these requests, each whole and none the last of its stream, and a rest with this property
pub record HasFront (input : List ℕ) (requests : List Request) (IsSo : List ℕ → Type 0) : Type 0 where
  pub front : List ℕ
  pub rest : List ℕ
  pub parts : input ≡ front ++ rest
  pub cut : Cut front requests at_end
  pub rest_is : IsSo rest

-- the input begins with these requests
abbrev pub Begins : List ℕ → List Request → Type 0
Begins input requests = HasFront input requests (λ rest. Unit {0})

-- the bytes that have arrived are these requests, and a rest that needs more bytes
abbrev pub IsSoFar : List ℕ → List Request → Type 0
IsSoFar bytes requests = HasFront bytes requests NeedsMore

-- the bytes begin with this request, which may be the last of its stream
abbrev pub StartsWithRequest : Request → List ℕ → Type 0
StartsWithRequest request bytes = (part : List ℕ) × (more : List ℕ) × (bytes ≡ part ++ more) × IsRequest part request

-- the next request after these is this one
abbrev pub HasNext : List ℕ → List Request → Request → Type 0
HasNext input requests request = HasFront input requests (StartsWithRequest request)

-- the next thing after these requests is this fault
abbrev pub HasFaultNext : List ℕ → List Request → Refusal → Type 0
HasFaultNext input requests why = HasFront input requests (λ rest. IsFault rest why)

-- ---- what is heard after a prefix of requests

-- the input goes on after `front` with this request, and then with the bytes after it, unless the request is the last of its stream
pub record GoesOnBy (front buf : List ℕ) (requests : List Request) (lent : RequestRef) (request : Request) : Type 0 where
  pub is_lent : IsLent request lent
  pub stays_open : lent.close ≡ false → Cut (front ++ take lent.len buf) (requests ++ request ∷ []) at_end
  pub closes : lent.close ≡ true → (more : List ℕ) → Cut (front ++ (buf ++ more)) (requests ++ request ∷ []) closed
  pub next : (more : List ℕ) → HasNext (front ++ (buf ++ more)) requests request

-- `front`, which is these requests, has arrived, then `buf`, of which this is heard: how the input goes on or ends
abbrev pub GoesOn : List ℕ → List ℕ → Bool → List Request → Heard → Type 0
GoesOn front buf ended requests heard.Need = IsSoFar (front ++ buf) requests
GoesOn front buf ended requests heard.End = Cut (front ++ buf) requests at_end
GoesOn front buf ended requests (heard.Fault why) = (more : List ℕ) → Follows ended more → Cut (front ++ (buf ++ more)) requests (faulty why)
GoesOn front buf ended requests (heard.Request lent) = (request : Request) × GoesOnBy front buf requests lent request
