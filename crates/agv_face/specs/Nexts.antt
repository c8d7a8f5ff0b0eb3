-- The next request of a buffer, and what serving it does. No public clause cites this.
use Rattle.std.specs.Prelude.{◌≡◌, ℕ, Bool, true, List, IsErr}
use Rattle.sqlite_trees.specs.declared.store.Store.{Ghosts}
use Rattle.agv_face_http.specs.request.Heard.{HasRequest, IsHeard}
use Rattle.agv_face_http.specs.Output.{refusal_text}
use Rattle.agv_face_http.specs.declared.request.heard.Heard.TheVariants as heard
use Rattle.agv_face_http.specs.declared.request.heard.RequestRef.{RequestRef}
use Rattle.agv_store_floor.specs.Floors.{Keyed, world_at}
use Rattle.agv_store_schema.specs.Connections.{IsClean}
use Rattle.agv_world_core.specs.declared.fault.Fault.{Fault}
use Rattle.agv_world_core.specs.declared.fault.Fault.TheVariants as machine
use Rattle.sqlite_trees.specs.Tree.{Trees}
use Rattle.sqlite.specs.Held.{Held}
use Rattle.agv_face.specs.Replies.{ComesOfCall, IsAnswered, IsReached, LeavesRequest, call_of_lent}
use Rattle.agv_face.specs.declared.next.Next.{Next}
use Rattle.agv_face.specs.declared.next.Next.TheVariants as next

module _ {S : Type 0} (g : Ghosts S) (at : ℕ) (desk desk_then : Keyed S) (buf : List ℕ) (ended : Bool) (out : List ℕ) where
  -- a request of the buffer was served, and its answer is in the output
  pub record IsRequestServed (len : ℕ) (close : Bool) : Type 0 where
    pub request : RequestRef
    pub heard_is : IsHeard buf ended (heard.Request request)
    pub len_is : len ≡ request.len
    pub close_is : close ≡ request.close
    -- where the store had failed before, the request is no call
    pub no_call : desk.failed ≡ true → IsErr (call_of_lent request)
    pub answered : IsClean g desk_then.held → IsAnswered (world_at g desk.held) (world_at g desk_then.held) at request out
    pub reached : IsReached g desk desk_then (call_of_lent request)

  abbrev pub IsNext : Next → Type 0
  IsNext next.Need = IsHeard buf ended heard.Need × (desk_then ≡ desk)
  IsNext next.End = IsHeard buf ended heard.End × (desk_then ≡ desk)
  IsNext (next.Fault why) = IsHeard buf ended (heard.Fault why) × (out ≡ refusal_text why) × (desk_then ≡ desk)
  IsNext (next.Request len close) = IsRequestServed len close

-- the trees that a crash may leave while the next request of the buffer is served
abbrev pub LeavesNext : {S : Type 0} → Ghosts S → Held S → ℕ → List ℕ → Bool → Trees → Type 0
LeavesNext g held at buf ended trees = (request : RequestRef) × IsHeard buf ended (heard.Request request) × LeavesRequest g held at (call_of_lent request) trees

-- a fault of the machine before the next request is answered: the buffer begins with a request, and with one that makes a call if the fault is `Storage`
abbrev pub IsNextFault : List ℕ → Bool → Fault → Type 0
IsNextFault buf ended machine.Memory = (len : ℕ) × HasRequest buf len (λ request. Unit {0})
IsNextFault buf ended machine.Storage = (request : RequestRef) × IsHeard buf ended (heard.Request request) × ComesOfCall (call_of_lent request) machine.Storage
