-- What a desk does with a list of calls.
use Rattle.std.specs.Prelude.{◌≡◌, ◌<◌, ◌≤◌, ◌+◌, ◌⊎◌, ℕ, Bool, true, false, List, [], ◌∷◌, length, take, Option, None, Some}
use Rattle.sqlite_trees.specs.Tree.{Trees}
use Rattle.sqlite_trees.specs.declared.store.Store.{Ghosts}
use Rattle.sqlite.specs.Effect.{Database, IsDatabase}
use Rattle.sqlite.specs.Held.{Held, state}
use Rattle.agv_world_core.specs.Worlds.{World}
use Rattle.agv_world_core.specs.declared.fault.Fault.{Fault}
use Rattle.agv_world_core.specs.declared.fault.Fault.TheVariants as machine
use Rattle.agv_desk.specs.Step.{answers, steps}
use Rattle.agv_desk.specs.declared.answer.Answer.{Answer}
use Rattle.agv_desk.specs.declared.call.Call.{Call}
use Rattle.agv_store_schema.specs.DeskRows.{IsDesk, KeepsOthers, Placing}
use Rattle.agv_store_schema.specs.SchemaNumbers.{desk_seats}
use Rattle.agv_store_schema.specs.Connections.{IsLater, IsOpen}
use Rattle.agv_store_floor.specs.Floors.{Keyed, Knows, world_at}
use Rattle.agv_store.specs.Serving.{FoundIn}

-- the world after the first n calls of the list
abbrev pub world_till : World → List (ℕ × Call) → ℕ → World
world_till world calls n = steps desk_seats world (take n calls)

-- without a fault each call has its answer; with a fault there are fewer answers than calls
abbrev pub HasAnswered : List (ℕ × Call) → List Answer → Option Fault → Type 0
HasAnswered calls given None = length given ≡ length calls
HasAnswered calls given (Some why) = length given < length calls

-- a list of calls ends with a `Storage` fault exactly where the store has failed at its end
abbrev pub RunEndsAs : Option Fault → Bool → Type 0
RunEndsAs None failed = failed ≡ false
RunEndsAs (Some machine.Memory) failed = failed ≡ false
RunEndsAs (Some machine.Storage) failed = failed ≡ true

-- the answers' vector has capacity for all calls; otherwise no call was served, the fault is `Memory`, and the desk is unchanged
abbrev pub HasReserved : {S : Type 0} → Keyed S → Keyed S → List (ℕ × Call) → ℕ → List Answer → Option Fault → Type 0
HasReserved desk desk_then calls capacity given ended =
    (length calls ≤ capacity) ⊎ ((desk_then ≡ desk) × (given ≡ []) × (ended ≡ Some machine.Memory))

-- the fault of a list of calls on a desk that had failed: `Storage` if there is a call
abbrev pub stopped_end : List (ℕ × Call) → Option Fault
stopped_end [] = None
stopped_end (made ∷ calls) = Some machine.Storage

-- a list of calls on a desk that had failed: the desk is unchanged, there are no answers, and with capacity for the answers the fault is `stopped_end`
pub record IsStopped {S : Type 0} (desk desk_then : Keyed S) (calls : List (ℕ × Call)) (capacity : ℕ) (given : List Answer) (ended : Option Fault) : Type 0 where
  pub unchanged : desk_then ≡ desk
  pub none : given ≡ []
  pub ends : length calls ≤ capacity → ended ≡ stopped_end calls

-- the trees are those of a database with this property
pub record HasDatabase (IsSo : Database → Type 0) (trees : Trees) : Type 0 where
  pub found : Database
  pub listed : IsDatabase found
  pub trees_are : found.trees ≡ trees
  pub is_so : IsSo found

-- an opening after a crash finds the world's rows after the calls that were answered; where there was a fault, it may find those after one more call
abbrev pub FoundAfter : Database → World → List (ℕ × Call) → ℕ → Option Fault → Type 0
FoundAfter found world calls n None = FoundIn found (world_till world calls n)
FoundAfter found world calls n (Some why) = FoundIn found (world_till world calls n) ⊎ FoundIn found (world_till world calls (n + 1))

module _ {S : Type 0} (g : Ghosts S) where
  -- the answers are those of the table of calls, in order, up to the first fault
  pub record IsRun (old new : Held S) (calls : List (ℕ × Call)) (given : List Answer) (ended : Option Fault) : Type 0 where
    pub answers_are : given ≡ answers desk_seats (world_at g old) (take (length given) calls)
    -- an answer comes only from a desk that knew a world
    pub knew : 0 < length given → Knows g old (world_at g old)
    pub was_open : IsOpen g new → IsOpen g old
    -- no fault is forgotten, and only a disk fault closes the store, so the desk goes on where there was none
    pub later : IsLater g old new
    -- a store that has answered without a fault is open
    pub is_open : 0 < length given → ended ≡ None → IsOpen g new
    -- while the store is open, the desk's tables have the rows of the world after the calls that were answered
    pub knows : IsOpen g new → Knows g new (world_till (world_at g old) calls (length given))
    -- tables of other names keep their rows
    pub others : IsOpen g new → (desk : Placing) → IsDesk desk → (state g old).now.schema ≡ desk.schema → KeepsOthers desk (state g old).now (state g new).now

  -- after a run with n answers that ended so, all trees that a crash may leave are of a database in which an opening finds `FoundAfter`
  abbrev pub LeavesLast : Held S → Held S → List (ℕ × Call) → ℕ → Option Fault → Type 0
  LeavesLast old new calls n ended = (trees : Trees) → (state g new).may_leave trees → HasDatabase (λ found. FoundAfter found (world_at g old) calls n ended) trees
