-- What a desk does with a call.
use Rattle.std.specs.Prelude.{◌≡◌, ℕ}
use Rattle.sqlite_trees.specs.declared.store.Store.{Ghosts}
use Rattle.sqlite_trees.specs.Tree.{Trees}
use Rattle.sqlite.specs.Effect.{Database, IsDatabase}
use Rattle.sqlite.specs.Held.{Held, state}
use Rattle.agv_world_core.specs.Changes.{changed}
use Rattle.agv_world_core.specs.Lawful.{IsLawful}
use Rattle.agv_world_core.specs.Maps.{maps_of}
use Rattle.agv_world_core.specs.Worlds.{World}
use Rattle.agv_desk.specs.Outcomes.{Outcome, after, answer_of, decided}
use Rattle.agv_desk.specs.Reports.{served}
use Rattle.agv_desk.specs.Step.{step}
use Rattle.agv_desk.specs.declared.answer.Answer.{Answer}
use Rattle.agv_desk.specs.declared.answer.Decision.{Decision}
use Rattle.agv_desk.specs.declared.call.Call.{Call}
use Rattle.agv_store_read.specs.WorldAnswers.{HasWorld}
use Rattle.agv_store_schema.specs.DeskRows.{IsDesk, KeepsOthers, Placing}
use Rattle.agv_store_schema.specs.SchemaNumbers.{desk_seats}
use Rattle.agv_store_floor.specs.Floors.{Knows, world_at}

-- the outcome of a call at a moment in this world, by the table of calls
abbrev pub outcome_in : World → ℕ → Call → Outcome
outcome_in world at call = step desk_seats world at call

-- the world after the call
abbrev pub world_after : World → ℕ → Call → World
world_after world at call = after world (outcome_in world at call)

-- the answer to the call in this world; a report's answer includes its text
abbrev pub answer_in : World → ℕ → Call → Answer
answer_in world at call = served world (answer_of (outcome_in world at call))

-- the decision is the call's in this world: its answer is the one given, and its changes lead to the world after the call, which is lawful
pub record Decides (world : World) (at : ℕ) (call : Call) (decision : Decision) : Type 0 where
  pub decided_is : decision ≡ decided (outcome_in world at call)
  pub answer_is : decision.answer ≡ answer_in world at call
  pub changes : changed decision.changes (maps_of world) ≡ maps_of (world_after world at call)
  pub lawful : IsLawful desk_seats (world_after world at call)

-- an opening finds the rows of this world in the database
abbrev pub FoundIn : Database → World → Type 0
FoundIn db world = (desk : Placing) × HasWorld desk db world

module _ {S : Type 0} (g : Ghosts S) where
  -- the call was answered by the table of calls (a report by its text in the world before the call), and the desk's tables have the rows of the world after it
  pub record IsServedBy (old new : Held S) (at : ℕ) (call : Call) (answer : Answer) : Type 0 where
    pub answer_is : answer ≡ answer_in (world_at g old) at call
    pub knows : Knows g new (world_after (world_at g old) at call)
    -- tables of other names keep their rows
    pub others : (desk : Placing) → IsDesk desk → (state g old).now.schema ≡ desk.schema → KeepsOthers desk (state g old).now (state g new).now

  -- the database's contents are unchanged
  abbrev pub LeavesAll : Held S → Held S → Type 0
  LeavesAll old new = (state g new).now ≡ (state g old).now

  -- the trees are of a database that has the rows of the world after the call, and whose other tables keep their rows
  pub record LeavesCall (held : Held S) (at : ℕ) (call : Call) (trees : Trees) : Type 0 where
    pub knew : Knows g held (world_at g held)
    pub found : Database
    pub listed : IsDatabase found
    pub trees_are : found.trees ≡ trees
    pub has : FoundIn found (world_after (world_at g held) at call)
    pub others : (desk : Placing) → IsDesk desk → (state g held).now.schema ≡ desk.schema → KeepsOthers desk (state g held).now found
