-- What a buffer shows of the input that it begins.
use Rattle.std.specs.Prelude.{◌≡◌, ℕ, ◌+◌, ◌<◌, ◌≤◌, Bool, true, false, List, [], ◌++◌, length, take}
use Rattle.agv_header.specs.declared.refusal.Refusal.{Refusal}
use Rattle.agv_face_http.specs.request.Requests.{Request, IsRequest, IsFault, NeedsMore, is_last, most_head, most_body}
use Rattle.agv_face_http.specs.declared.request.heard.Heard.{Heard}
use Rattle.agv_face_http.specs.declared.request.heard.Heard.TheVariants as heard
use Rattle.agv_face_http.specs.declared.request.heard.RequestRef.{RequestRef}

-- what may follow the buffer: nothing if the input has ended
abbrev pub Follows : Bool → List ℕ → Type 0
Follows ended more = ended ≡ true → more ≡ []

-- the borrowed parts are those of the request
pub record IsLent (request : Request) (lent : RequestRef) : Type 0 where
  pub method : lent.method ≡ request.method
  pub target : lent.target.now ≡ request.target
  pub body : lent.body.now ≡ request.body
  pub close : lent.close ≡ is_last request

-- more bytes are needed, and may come
abbrev pub IsWaiting : List ℕ → Bool → Type 0
IsWaiting buf ended = (ended ≡ false) × (length buf < most_head + most_body) × NeedsMore buf

-- the input has ended and no byte is left
abbrev pub IsOver : List ℕ → Bool → Type 0
IsOver buf ended = (ended ≡ true) × (buf ≡ [])

-- the buffer begins with this fault, whatever follows it
abbrev pub HasFault : List ℕ → Bool → Refusal → Type 0
HasFault buf ended fault = (more : List ℕ) → Follows ended more → IsFault (buf ++ more) fault

-- the first `len` bytes of the buffer are a request with this property
abbrev pub HasRequest : List ℕ → ℕ → (Request → Type 0) → Type 0
HasRequest buf len IsSo = (0 < len) × (len ≤ length buf) × (request : Request) × IsRequest (take len buf) request × IsSo request

-- what is heard of the next request in the bytes that have arrived; once the input has ended, no more come
abbrev pub IsHeard : List ℕ → Bool → Heard → Type 0
IsHeard buf ended heard.Need = IsWaiting buf ended
IsHeard buf ended heard.End = IsOver buf ended
IsHeard buf ended (heard.Fault fault) = HasFault buf ended fault
IsHeard buf ended (heard.Request lent) = HasRequest buf lent.len (λ request. IsLent request lent)

-- the buffer begins with a request whose method is longer than the 15 bytes that `http` keeps without allocating
abbrev pub HasLongMethod : List ℕ → Type 0
HasLongMethod buf = (len : ℕ) × HasRequest buf len (λ request. 15 < length request.method)
