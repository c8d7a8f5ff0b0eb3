-- A desk that is opened in a database with no table.
use Rattle.std.proofs.Common.{◌≡◌, ◌⊎◌, [], Result, Ok, Err, inl, inr, refl, sym, subst}
use Rattle.std.specs.Prelude.{IfOk}
use Rattle.sqlite_schema.specs.declared.schema.Schema.{Schema}
use Rattle.sqlite_trees.specs.declared.store.Store.{Ghosts}
use Rattle.sqlite.specs.Effect.{Database}
use Rattle.sqlite.specs.Held.{Held, state}
use Rattle.sqlite.specs.Steps.{IsEmpty}
use Rattle.sqlite.specs.declared.error.Error.{Error}
use Rattle.agv_world_core.specs.Worlds.{World, empty_world}
use Rattle.agv_store_read.specs.WorldAnswers.{HasNoWorld, HasWorld}
use Rattle.agv_store_read_tables.specs.WorldIn.{world_in}
use Rattle.agv_store_schema.specs.Connections.{IsClean}
use Rattle.agv_store_schema.specs.DeskRows.{Placing}
use Rattle.agv_store_floor.specs.Floors.{Keyed}
use Rattle.agv_store.specs.Opening.{Adopts, CanBeMade, IsDamaged, Makes}
use Rattle.agv_store_read.specs.declared.open_fault.OpenFault.{OpenFault}
use Rattle.agv_store_read.specs.declared.open_fault.OpenFault.TheVariants as opening
use Rattle.agv_app_run.specs.Runs.{IsNewDatabase, KnowsNothing, opening_fault}
use Rattle.agv_app_run.specs.declared.outcome.RunFault.TheVariants as fault

-- where there is no table the desk's can be made
can_be_made : (schema : Schema) → schema ≡ record { tables = []; indexes = []; views = [] } → CanBeMade schema
can_be_made schema none = subst CanBeMade (sym none) (refl, record { unreferred = λ name. refl; apart = tt })

-- the fault of an opening that is not of a damaged database
told_as : {S : Type 0} (left : Held S) (why : OpenFault) → ¬ IsDamaged {S = S} (Err (left, why)) → (opening_fault why ≡ fault.Memory) ⊎ (opening_fault why ≡ fault.Storage)
told_as left opening.Damaged sound = absurd (sound tt)
told_as left opening.Memory sound = inl refl
told_as left opening.Storage sound = inr refl

module _ {S : Type 0} (g : Ghosts S) (opened : Result (Held S) Error) (conn : Held S) (is : opened ≡ Ok conn) where
  possible : IsNewDatabase g opened → CanBeMade (state g conn).now.schema
  possible new =
      let empty = subst (λ opened. IfOk opened (λ conn. IsEmpty (state g conn))) is new.1 in
      can_be_made _ empty.2

  -- the desk that is opened in a new database is a new one
  pub new_desk : (desk : Keyed S)
      → (IsClean g desk.held → (CanBeMade (state g conn).now.schema × Makes g conn desk) ⊎ ((¬ CanBeMade (state g conn).now.schema) × Adopts g conn desk))
      → ((at : Placing) (db : Database) (world : World) → HasWorld at db world → world_in db ≡ world)
      → IsNewDatabase g opened → KnowsNothing g desk
  new_desk desk came told new = go (came (new.0 desk.held))
    where
      go : (CanBeMade (state g conn).now.schema × Makes g conn desk) ⊎ ((¬ CanBeMade (state g conn).now.schema) × Adopts g conn desk) → KnowsNothing g desk
      go (inl made) = told made.1.knows.at (state g desk.held).now empty_world made.1.knows.has
      go (inr adopted) = absurd (adopted.0 (possible new))

  -- and where there is none, that is not for damage
  pub new_fault : (left : Held S) (why : OpenFault)
      → (IsClean g left → IsDamaged {S = S} (Err (left, why)) → (¬ CanBeMade (state g conn).now.schema) × HasNoWorld (state g conn).now)
      → IsNewDatabase g opened → (opening_fault why ≡ fault.Memory) ⊎ (opening_fault why ≡ fault.Storage)
  new_fault left why damaged new = told_as left why (λ is_damaged. (damaged (new.0 left) is_damaged).0 (possible new))
