-- The effect of a list of changes on the desk's tables in a database.
use Rattle.std.specs.Prelude.{◌≡◌, ◌⊎◌, List}
use Rattle.sqlite_trees.specs.Tree.{Trees}
use Rattle.sqlite_value.specs.Order.{Row}
use Rattle.sqlite.specs.Effect.{Database, IsDatabase}
use Rattle.agv_world_core.specs.Changes.{changed}
use Rattle.agv_world_core.specs.Maps.{Maps}
use Rattle.agv_world_core.specs.declared.change.Change.{Change}
use Rattle.agv_store_schema.specs.DeskRows.{Placing, Holds, IsDesk, KeepsOthers}
use Rattle.agv_store_rows.specs.Rows.{listed_all, row_lists}

-- the changes have been made to the desk's tables
pub record MakesChanges (changes : List Change) (old new : Database) : Type 0 where
  -- whatever rows the desk's tables had, they now have those after all changes
  pub rows : (desk : Placing) → IsDesk desk → (lists : List (List Row)) → Holds desk old lists → Holds desk new (listed_all changes lists)
  -- nothing else has changed
  pub others : (desk : Placing) → IsDesk desk → old.schema ≡ desk.schema → KeepsOthers desk old new
  -- the trees still list the schema, so opening them gives it
  pub listed : (desk : Placing) → IsDesk desk → old.schema ≡ desk.schema → IsDatabase old → IsDatabase new

-- tables that had the rows of a world now have those of the world after all changes
abbrev pub ChangesWorlds : List Change → Database → Database → Type 0
ChangesWorlds changes old new = (desk : Placing) → IsDesk desk → (maps : Maps) → Holds desk old (row_lists maps) → Holds desk new (row_lists (changed changes maps))

-- the trees that a crash may leave of the changes: those with all of them
abbrev pub LeavesChanges : List Change → Database → Trees → Type 0
LeavesChanges changes old trees = (new : Database) × MakesChanges changes old new × (trees ≡ new.trees)

-- a database that may be found when it is opened after that crash: its trees are those from before the changes or those with all of them, and it has the schema that they list
abbrev pub MayFind : List Change → Database → Database → Type 0
MayFind changes old found = IsDatabase found × ((found.trees ≡ old.trees) ⊎ LeavesChanges changes old found.trees)
