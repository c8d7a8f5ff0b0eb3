-- What migrating a database from the first schema to the second does.
use Rattle.std.specs.Prelude.{◌≡◌, ◌⊎◌, Result, IfErr, IfOk}
use Rattle.sqlite_trees.specs.Tree.{Trees}
use Rattle.sqlite_trees.specs.declared.store.Store.{Ghosts}
use Rattle.sqlite.specs.Effect.{Database}
use Rattle.sqlite.specs.Held.{Held, state}
use Rattle.agv_world_core.specs.Kept.{Keeps}
use Rattle.agv_world_core.specs.Worlds.{World}
use Rattle.agv_world_core.specs.declared.world.World.{World as Tables}
use Rattle.agv_store_migrate.specs.FirstRows.{HasFirstWorld, HasNoFirstWorld}
use Rattle.agv_store_migrate.specs.MoveStatements.{RefusesMove}
use Rattle.agv_store_migrate.specs.Moved.{CanBeAdded, MovesWorld}
use Rattle.agv_store_schema.specs.DeskRows.{Placing}
use Rattle.agv_store_schema.specs.Connections.{HasStorageCause, IsClean, IsOpen}
use Rattle.agv_store_known.specs.Known.{IsKnownIn}
use Rattle.agv_store_known.specs.declared.known.Known.{Known}
use Rattle.agv_store_floor.specs.Floors.{IsAsked, Keyed, Knows}
use Rattle.agv_store_read.specs.declared.open_fault.OpenFault.{OpenFault}
use Rattle.agv_store_read.specs.declared.open_fault.OpenFault.TheVariants as fault

-- the database can't be migrated: it has the first schema's rows of no lawful world, or the second schema's additional tables can't be made in it
abbrev pub CannotBeMigrated : Database → Type 0
CannotBeMigrated db = HasNoFirstWorld db ⊎ (¬ CanBeAdded db.schema)

-- the database has the first schema's rows of a world
pub record FirstFound (db : Database) : Type 0 where
  pub first : Placing
  pub world : World
  pub has : HasFirstWorld first db world

-- what a crash may leave: the trees of a database with that world's rows in the second schema
pub record LeavesMigrated (old : Database) (trees : Trees) : Type 0 where
  pub had : FirstFound old
  pub found : Database
  pub moves : MovesWorld had.first had.world old found
  pub trees_are : trees ≡ found.trees

-- the database can be migrated: it has the first schema's rows of a lawful world, and the three new tables can be made in it
pub record CanBeMigrated (db : Database) : Type 0 where
  pub had : FirstFound db
  pub possible : CanBeAdded db.schema

-- the database can be migrated, but SQL refuses one of the statements of the move, after those before it ran
pub record RefusesMigration (db : Database) : Type 0 where
  pub can : CanBeMigrated db
  -- the world's tables, whose rows are moved
  pub tables : Tables
  pub keeps : Keeps tables can.had.world
  pub refuses : RefusesMove tables db

module _ {S : Type 0} (g : Ghosts S) where
  -- the database had the first schema's rows of a lawful world, it has the second schema's rows of the same world, and the desk knows that world
  pub record Migrates (old : Held S) (desk : Keyed S) : Type 0 where
    pub was_open : IsOpen g old
    pub had : FirstFound (state g old).now
    pub moves : MovesWorld had.first had.world (state g old).now (state g desk.held).now
    pub knows : Knows g desk.held had.world

  -- the outcomes of looking for the first schema's world in a database: its tables and what is known of it, or a fault, `Damaged` only where the database has no such world
  pub record FindsFirstDesk (old new : Held S) (result : Result (Tables × Known) OpenFault) : Type 0 where
    pub found : IsClean g new
        → IfOk result (λ desk. IsOpen g old × IsOpen g new × ((at : FirstFound (state g old).now) × Keeps desk.0 at.world × IsKnownIn desk.1 at.world))
    pub damaged : IsClean g new → IfErr result (λ why. why ≡ fault.Damaged → HasNoFirstWorld (state g old).now)
    pub caused : IsClean g new → IfErr result (λ why. why ≡ fault.Storage → HasStorageCause g old new)
    pub asked : IsAsked g old new
