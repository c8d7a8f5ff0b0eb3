-- What a desk does with one request, and what is written for it.
use Rattle.std.specs.Prelude.{◌≡◌, ℕ, true, List, Result, Ok, Err, IsOk}
use Rattle.sqlite_trees.specs.declared.store.Store.{Ghosts}
use Rattle.agv_header.specs.declared.refusal.Refusal.{Refusal}
use Rattle.sqlite_trees.specs.Tree.{Trees}
use Rattle.sqlite.specs.Held.{Held}
use Rattle.agv_store_floor.specs.Floors.{Keyed, Knows, world_at}
use Rattle.agv_store.specs.Serving.{LeavesCall}
use Rattle.agv_store_schema.specs.SchemaNumbers.{desk_seats}
use Rattle.agv_store_schema.specs.Connections.{IsClean, IsLater, IsOpen}
use Rattle.agv_world_core.specs.Worlds.{World}
use Rattle.agv_world_core.specs.declared.fault.Fault.{Fault}
use Rattle.agv_world_core.specs.declared.fault.Fault.TheVariants as machine
use Rattle.agv_desk.specs.Outcomes.{after, answer_of}
use Rattle.agv_desk.specs.Reports.{served}
use Rattle.agv_desk.specs.declared.answer.Answer.{Answer}
use Rattle.agv_desk.specs.declared.call.Call.{Call}
use Rattle.agv_face_http.specs.answers.Answers.{answer_text}
use Rattle.agv_face_http.specs.Output.{call_of_routed, outcome_by}
use Rattle.agv_face_http.specs.routing.Table.{route_at}
use Rattle.agv_face_http.specs.declared.request.heard.RequestRef.{RequestRef}

-- the call that a borrowed request makes, or why it is refused before it is a call
abbrev pub call_of_lent : RequestRef → Result Call Refusal
call_of_lent request = call_of_routed request.body.now (route_at request.method request.target.now)

-- the answer is that of the table of calls (a report's text is that of the world before the call), and `world_then` is the world after the call
pub record IsCallAnswered (world world_then : World) (at : ℕ) (call : Result Call Refusal) (answer : Answer) : Type 0 where
  pub answer_is : answer ≡ served world (answer_of (outcome_by desk_seats world at call))
  pub world_is : world_then ≡ after world (outcome_by desk_seats world at call)

-- the bytes of the answer to a request in this world
abbrev pub text_for : World → ℕ → RequestRef → List ℕ
text_for world at request = answer_text (served world (answer_of (outcome_by desk_seats world at (call_of_lent request)))) request.close

-- the text to write for the request, and the world after it
pub record IsAnswered (world world_then : World) (at : ℕ) (request : RequestRef) (text : List ℕ) : Type 0 where
  pub text_is : text ≡ text_for world at request
  pub world_is : world_then ≡ after world (outcome_by desk_seats world at (call_of_lent request))

-- a later state of a desk: only a disk fault closed its store, a store that is open was open before, and a desk whose store had failed before is unchanged
pub record IsLaterDesk {S : Type 0} (g : Ghosts S) (desk desk_then : Keyed S) : Type 0 where
  pub later : IsLater g desk.held desk_then.held
  pub was_open : IsClean g desk_then.held → IsOpen g desk_then.held → IsOpen g desk.held
  pub stopped : desk.failed ≡ true → desk_then ≡ desk

-- a call is answered only by a desk that knew a world, and that knows one afterwards; a request that makes no call leaves the desk unchanged
abbrev pub IsReached : {S : Type 0} → Ghosts S → Keyed S → Keyed S → Result Call Refusal → Type 0
IsReached g desk desk_then (Ok call) = IsClean g desk_then.held → Knows g desk.held (world_at g desk.held) × Knows g desk_then.held (world_at g desk_then.held)
IsReached g desk desk_then (Err why) = desk_then ≡ desk

-- the trees that a crash may leave during a call
abbrev pub LeavesRequest : {S : Type 0} → Ghosts S → Held S → ℕ → Result Call Refusal → Trees → Type 0
LeavesRequest g held at (Ok call) trees = LeavesCall g held at call trees
LeavesRequest g held at (Err why) trees = ⊥

-- a `Storage` fault comes only from a call
abbrev pub ComesOfCall : Result Call Refusal → Fault → Type 0
ComesOfCall call machine.Memory = Unit {0}
ComesOfCall call machine.Storage = IsOk call
