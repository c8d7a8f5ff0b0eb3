-- What a write inside a transaction leaves, whether it succeeds or fails.
use Rattle.std.specs.Prelude.{◌≡◌, List, Result, OnOk}
use Rattle.sqlite_value.specs.Order.{Row}
use Rattle.sqlite_trees.specs.declared.store.Store.{Ghosts}
use Rattle.sqlite.specs.Held.{state}
use Rattle.sqlite.specs.State.{HasCleanDisk, KeepsCommit, State, Survives}
use Rattle.sqlite.specs.declared.error.Error.{Error}
use Rattle.sqlite.specs.declared.transaction.Transaction.{Transaction}
use Rattle.agv_store_schema.specs.DeskRows.{Makes}

module _ {S : Type 0} (g : Ghosts S) (old new : Transaction S) where
  pub record WritesInside (says : State → State → Type 0) : Type 0 where
    -- it is a transaction of the same connection
    pub same_reference : new.conn.ghost_name ≡ old.conn.ghost_name
    -- nothing is committed: a crash leaves what it could have left before
    pub survives : Survives (state g old.conn.now) (state g new.conn.now) (λ _. ⊥)
    pub kept : HasCleanDisk (state g new.conn.now) → KeepsCommit (state g old.conn.now) (state g new.conn.now)
    -- the effect on the rows
    pub made : HasCleanDisk (state g new.conn.now) → says (state g old.conn.now) (state g new.conn.now)

  -- if it succeeds, the change is made
  abbrev pub MakesInside : {A : Type 0} → Result A Error → (List (List Row) → List (List Row)) → Type 0
  MakesInside result change = WritesInside (λ before after. OnOk result (Makes change before after))
