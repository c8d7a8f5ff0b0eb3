-- What comes next in a buffer, where the method of a request is borrowed too. No public clause cites this.
use Rattle.std.specs.Prelude.{◌≡◌, ℕ, Bool, List}
use Rattle.agv_face_http.specs.request.Requests.{Request, is_last}
use Rattle.agv_face_http.specs.request.Heard.{IsWaiting, IsOver, HasFault, HasRequest}
use Rattle.agv_face_http.specs.declared.request.next.Next.{Next}
use Rattle.agv_face_http.specs.declared.request.next.Next.TheVariants as next
use Rattle.agv_face_http.specs.declared.request.next.RawRequest.{RawRequest}

-- the borrowed parts are those of the request
pub record IsLentOf (request : Request) (lent : RawRequest) : Type 0 where
  pub method : lent.method.now ≡ request.method
  pub target : lent.target.now ≡ request.target
  pub body : lent.body.now ≡ request.body
  pub close : lent.close ≡ is_last request

-- what comes next in the bytes that have arrived
abbrev pub IsNext : List ℕ → Bool → Next → Type 0
IsNext buf ended next.Need = IsWaiting buf ended
IsNext buf ended next.End = IsOver buf ended
IsNext buf ended (next.Fault fault) = HasFault buf ended fault
IsNext buf ended (next.Request lent) = HasRequest buf lent.len (λ request. IsLentOf request lent)
