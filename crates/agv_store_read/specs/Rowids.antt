-- Whether each row of the desk's tables has a rowid of its own, and the SQL texts that select the rowids.
use Rattle.std.specs.Prelude.{◌≡◌, ◌⊎◌, ◌↔◌, ℕ, false, Bool, List, [], ◌∷◌, map, codes, Result, Err, IfOk, IfErr, OnOk, OnErr, IsPermutation, IsTrue}
use Rattle.std.specs.List.{AllByRecursion}
use Rattle.sqlite_value.specs.Order.{Row}
use Rattle.sqlite_trees.specs.declared.store.Store.{Ghosts}
use Rattle.sqlite_trees.specs.Tree.{rowid}
use Rattle.sqlite.specs.Effect.{Database}
use Rattle.sqlite.specs.Held.{Held, state}
use Rattle.sqlite.specs.State.{HasCleanDisk, IsUnchanged, IsRolledBack, Survives}
use Rattle.agv_store_schema.specs.DeskRows.{Placing, IsDesk, StandApart, AreKeyed}
use Rattle.agv_store_schema.specs.Connections.{HasStorageCause}
use Rattle.agv_store_read.specs.declared.open_fault.OpenFault.{OpenFault}
use Rattle.agv_store_read.specs.declared.open_fault.OpenFault.TheVariants as fault
use Rattle.agv_store_schema.specs.declared.table_name.TableName.{TableName}
use Rattle.agv_store_schema.specs.declared.table_name.TableName.TheVariants as the

-- the SELECT of the rowids of a table
abbrev pub rowids_text : TableName → List ℕ
rowids_text the.Meta = codes "SELECT rowid FROM meta"
rowids_text the.Node = codes "SELECT rowid FROM node"
rowids_text the.Edge = codes "SELECT rowid FROM edge"
rowids_text the.Station = codes "SELECT rowid FROM station"
rowids_text the.Vehicle = codes "SELECT rowid FROM vehicle"
rowids_text the.Trip = codes "SELECT rowid FROM trip"
rowids_text the.Leg = codes "SELECT rowid FROM leg"
rowids_text the.Load = codes "SELECT rowid FROM load"
rowids_text the.Job = codes "SELECT rowid FROM job"
rowids_text the.Hold = codes "SELECT rowid FROM hold"
rowids_text the.Used = codes "SELECT rowid FROM used"
rowids_text the.Capacity = codes "SELECT rowid FROM capacity"
rowids_text the.Journey = codes "SELECT rowid FROM journey"
rowids_text the.Act = codes "SELECT rowid FROM act"

-- the rows are the rowids of the entries of the table, one in each row, in some order
abbrev pub ShowRowids : TableName → Database → List Row → Type 0
ShowRowids name db rows = (desk : Placing) → StandApart desk (name ∷ []) → db.schema ≡ desk.schema → IsPermutation (map (λ e. rowid e ∷ []) (db.trees (desk.tree name))) rows

-- each entry of these tables has an integer of its own as its rowid
abbrev pub AreTablesKeyed : Placing → Database → List TableName → Type 0
AreTablesKeyed desk db = AllByRecursion (λ name. AreKeyed (db.trees (desk.tree name)))

module _ {S : Type 0} (g : Ghosts S) (old new : Held S) (Stand : Placing → Type 0) (names : List TableName) (result : Result Bool OpenFault) where
  -- the result of a query whether these tables are keyed, in schemas with this property
  pub record TellsKeyedWhere : Type 0 where
    -- the answer is exact in every such schema
    pub told : HasCleanDisk (state g new) → IfOk result (λ keyed. (desk : Placing) → Stand desk → (state g old).now.schema ≡ desk.schema → IsTrue keyed ↔ AreTablesKeyed desk (state g old).now names)
    -- an answer changes nothing, whatever the database has
    pub kept : HasCleanDisk (state g new) → OnOk result (IsUnchanged (state g old) (state g new))
    -- a failure that leaves the store open changes nothing, except that it may end the transaction and so undo it
    pub failed : HasCleanDisk (state g new) → OnErr result (IsUnchanged (state g old) (state g new) ⊎ IsRolledBack (state g old) (state g new))
    -- `Storage` occurs only if the store failed, had been closed, or limits the steps of a query
    pub caused : HasCleanDisk (state g new) → IfErr result (λ why. why ≡ fault.Storage → (desk : Placing) → Stand desk → (state g old).now.schema ≡ desk.schema → HasStorageCause g old new)
    -- `Damaged` never occurs
    pub sound : ¬ (result ≡ Err fault.Damaged)
    -- outside a transaction it leaves none open, whatever the store did
    pub idle : old.in_transaction ≡ false → new.in_transaction ≡ false
    -- nothing is committed: a crash leaves what it could have left before
    pub survives : Survives (state g old) (state g new) (λ _. ⊥)

module _ {S : Type 0} (g : Ghosts S) (old new : Held S) (names : List TableName) (result : Result Bool OpenFault) where
  -- the result if the fourteen tables are there
  abbrev pub TellsKeyed : Type 0
  TellsKeyed = TellsKeyedWhere g old new IsDesk names result

  -- the result if these tables are there, even without the others
  abbrev pub TellsKeyedAlone : Type 0
  TellsKeyedAlone = TellsKeyedWhere g old new (λ desk. StandApart desk names) names result
