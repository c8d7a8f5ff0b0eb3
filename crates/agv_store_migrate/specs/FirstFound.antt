-- The results of reading the first schema's tables of a database, and the state in which that leaves the database.
use Rattle.std.specs.Prelude.{◌≡◌, ◌⊎◌, false, List, [], ◌∷◌, Result, Ok, Err, IfOk, IfErr, OnOk, OnErr}
use Rattle.std.specs.List.{AllZip}
use Rattle.std.specs.declared.vec.Vec.{Vec}
use Rattle.sqlite_value.specs.Order.{Row}
use Rattle.sqlite_schema.specs.declared.schema.Schema.{Schema}
use Rattle.sqlite_trees.specs.declared.store.Store.{Ghosts}
use Rattle.sqlite.specs.Held.{Held, state}
use Rattle.sqlite.specs.State.{HasCleanDisk, IsRolledBack, IsUnchanged, Survives}
use Rattle.agv_world_core.specs.Kept.{Keeps}
use Rattle.agv_world_core.specs.Worlds.{World}
use Rattle.agv_world_core.specs.declared.world.World.{World as Tables}
use Rattle.agv_store_schema.specs.DeskRows.{Placing, StandApart, TableHas}
use Rattle.agv_store_read.specs.Rowids.{AreTablesKeyed}
use Rattle.agv_store_schema.specs.Connections.{HasStorageCause}
use Rattle.agv_store_read.specs.declared.open_fault.OpenFault.{OpenFault}
use Rattle.agv_store_read.specs.declared.open_fault.OpenFault.TheVariants as fault
use Rattle.agv_store_schema.specs.declared.table_name.TableName.{TableName}
use Rattle.agv_store_migrate.specs.FirstRows.{HasFirstWorld, HasNoFirstWorld, IsFirstDesk}
use Rattle.agv_store_migrate.specs.FirstTold.{rows_listed}

-- the schema has the eleven tables, in some trees
abbrev pub FirstTablesStand : Schema → Type 0
FirstTablesStand schema = (at : Placing) × IsFirstDesk at × (schema ≡ at.schema)

-- ---- the rows of some tables

-- the rows of one table, as a list of lists
abbrev pub one_list : {A : Type 0} → Result (Vec Row A) OpenFault → Result (List (List Row)) OpenFault
one_list (Ok rows) = Ok (rows.items ∷ [])
one_list (Err why) = Err why

-- the rows of several tables, as a list of lists
abbrev pub all_lists : {A B : Type 0} → Result (Vec (Vec Row A) B) OpenFault → Result (List (List Row)) OpenFault
all_lists (Ok lists) = Ok (rows_listed lists.items)
all_lists (Err why) = Err why

-- reading no table leaves the connection as it is; reading any leaves the database unchanged
abbrev pub StaysBy : {S : Type 0} → Ghosts S → List TableName → Held S → Held S → Type 0
StaysBy g [] old new = new ≡ old
StaysBy g (name ∷ names) old new = IsUnchanged (state g old) (state g new)

module _ {S : Type 0} (g : Ghosts S) (old new : Held S) (names : List TableName) (result : Result (List (List Row)) OpenFault) where
  -- the result of reading all rows of these tables
  pub record ReadsLists : Type 0 where
    -- the lists are their rows, in any schema that has these tables
    pub told : HasCleanDisk (state g new) → IfOk result (λ lists. (desk : Placing) → StandApart desk names → (state g old).now.schema ≡ desk.schema
        → AllZip (TableHas desk (state g old).now.trees) names lists)
    -- `Damaged` occurs only if two rows of a table have the same rowid, or the rowid of a row is no integer
    pub damaged : HasCleanDisk (state g new) → IfErr result (λ why. why ≡ fault.Damaged → (desk : Placing) → StandApart desk names → (state g old).now.schema ≡ desk.schema
        → ¬ AreTablesKeyed desk (state g old).now names)
    -- `Storage` occurs only if the store failed, had been closed, or limits the steps of a query
    pub caused : HasCleanDisk (state g new) → IfErr result (λ why. why ≡ fault.Storage → (desk : Placing) → StandApart desk names → (state g old).now.schema ≡ desk.schema → HasStorageCause g old new)
    pub kept : HasCleanDisk (state g new) → OnOk result (StaysBy g names old new)
    pub failed : HasCleanDisk (state g new) → OnErr result (IsUnchanged (state g old) (state g new) ⊎ IsRolledBack (state g old) (state g new))
    pub idle : old.in_transaction ≡ false → new.in_transaction ≡ false
    pub survives : Survives (state g old) (state g new) (λ _. ⊥)

-- ---- the world

module _ {S : Type 0} (g : Ghosts S) (old new : Held S) (result : Result Tables OpenFault) where
  -- the result of finding the world of a database of the first schema
  pub record FindsFirst : Type 0 where
    -- the result is the tables of the lawful world, with capacity 1 for each vehicle, whose rows the database has
    pub told : HasCleanDisk (state g new) → IfOk result (λ tables. (at : Placing) × (world : World) × HasFirstWorld at (state g old).now world × Keeps tables world)
    -- `Damaged` occurs only if the database has the rows of no such world
    pub damaged : HasCleanDisk (state g new) → IfErr result (λ why. why ≡ fault.Damaged → HasNoFirstWorld (state g old).now)
    -- `Storage` occurs only if the store failed, had been closed, or limits the steps of a query
    pub caused : HasCleanDisk (state g new) → IfErr result (λ why. why ≡ fault.Storage → HasStorageCause g old new)
    -- a world is found only in an open store, and finding it changes nothing
    pub kept : HasCleanDisk (state g new) → OnOk result (IsUnchanged (state g old) (state g new))
    -- a failure that leaves the store open changes nothing, except that it may end the transaction and so undo it
    pub failed : HasCleanDisk (state g new) → OnErr result ((new ≡ old) ⊎ (IsUnchanged (state g old) (state g new) ⊎ IsRolledBack (state g old) (state g new)))
    -- outside a transaction it leaves none open, whatever the store did
    pub idle : old.in_transaction ≡ false → new.in_transaction ≡ false
    -- nothing is committed: a crash leaves what it could have left before
    pub survives : Survives (state g old) (state g new) (λ _. ⊥)
