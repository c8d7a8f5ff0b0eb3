-- The result of a query of the desk's tables: the lawful world's answer, if the tables have its rows; and the state that it leaves, whatever the database has.
use Rattle.std.specs.Prelude.{◌≡◌, ◌⊎◌, false, Option, None, Some, Result, IfOk, IfErr, OnOk, OnErr, IsTrue}
use Rattle.sqlite_trees.specs.declared.store.Store.{Ghosts}
use Rattle.sqlite.specs.Effect.{Database}
use Rattle.sqlite.specs.Held.{Held, state}
use Rattle.sqlite.specs.State.{HasCleanDisk, IsUnchanged, IsRolledBack, Survives}
use Rattle.agv_layout.specs.Layout.{Layout}
use Rattle.agv_world_core.specs.Lawful.{IsLawful}
use Rattle.agv_world_core.specs.Worlds.{World}
use Rattle.agv_store_schema.specs.DeskRows.{Placing, IsDesk}
use Rattle.agv_store_schema.specs.Connections.{HasStorageCause}
use Rattle.agv_store_rows.specs.Rows.{HoldsWorld}
use Rattle.agv_store_schema.specs.SchemaNumbers.{desk_seats}
use Rattle.agv_store_read.specs.declared.open_fault.OpenFault.{OpenFault}
use Rattle.agv_store_read.specs.declared.open_fault.OpenFault.TheVariants as fault

-- the desk's tables in the database have the rows of this lawful world
pub record HasWorld (desk : Placing) (db : Database) (world : World) : Type 0 where
  pub stands : IsDesk desk
  pub lawful : IsLawful desk_seats world
  pub rows : HoldsWorld desk db world

-- the database has the rows of no lawful world
abbrev pub HasNoWorld : Database → Type 0
HasNoWorld db = (desk : Placing) (world : World) → ¬ HasWorld desk db world

-- the layout, if there is one, is the world's
abbrev pub AgreesWith : Option Layout → World → Type 0
AgreesWith None world = Unit {0}
AgreesWith (Some layout) world = layout ≡ world.layout

module _ {S A : Type 0} (g : Ghosts S) (old new : Held S) (result : Result A OpenFault) (says : World → A → Type 0) where
  -- a query of the tables gives the answer for the world, or fails
  pub record AnswersQuery : Type 0 where
    -- the answer is true of the world whose rows the tables have
    pub told : HasCleanDisk (state g new) → IfOk result (λ answer. (desk : Placing) (world : World) → HasWorld desk (state g old).now world → says world answer)
    -- an answer changes nothing, whatever the database has
    pub kept : HasCleanDisk (state g new) → OnOk result (IsUnchanged (state g old) (state g new))
    -- an answer comes only from an open store
    pub answering : HasCleanDisk (state g new) → OnOk result (IsTrue (state g old).is_open × IsTrue (state g new).is_open)
    -- `Damaged` occurs only if the tables have the rows of no lawful world
    pub damaged : HasCleanDisk (state g new) → IfErr result (λ why. why ≡ fault.Damaged → HasNoWorld (state g old).now)
    -- a failure that leaves the store open changes nothing, except that it may end the transaction and so undo it, whatever the database has
    pub failed : HasCleanDisk (state g new) → OnErr result (IsUnchanged (state g old) (state g new) ⊎ IsRolledBack (state g old) (state g new))
    -- `Storage` occurs only if the store failed, had been closed, or limits the steps of a query
    pub caused : HasCleanDisk (state g new) → IfErr result (λ why. why ≡ fault.Storage → (desk : Placing) (world : World) → HasWorld desk (state g old).now world → HasStorageCause g old new)
    -- outside a transaction it leaves none open, whatever the store did
    pub idle : old.in_transaction ≡ false → new.in_transaction ≡ false
    -- nothing is committed: a crash leaves what it could have left before
    pub survives : Survives (state g old) (state g new) (λ _. ⊥)
