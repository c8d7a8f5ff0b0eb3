-- Writes inside a transaction: none, one after the other, and one in other words.
use Rattle.std.proofs.Common.{◌≡◌, ◌∙◌, refl, rules, arith}
use Rattle.sqlite_trees.specs.declared.store.Store.{Ghosts}
use Rattle.sqlite.specs.Held.{state}
use Rattle.sqlite.specs.State.{HasCleanDisk, KeepsCommit, State, Survives}
use Rattle.sqlite.specs.declared.transaction.Transaction.{Transaction}
use Rattle.sqlite.proofs.StateLemmas.{survives_then}
use Rattle.agv_store_schema.proofs.StatesKept.{keeps_itself, keeps_then}
use Rattle.agv_store_sql.specs.WritesInside.{WritesInside}

module _ {S : Type 0} (g : Ghosts S) where
  abbrev at : Transaction S → State
  at tx = state g tx.conn.now

  pub writes_none : (a : Transaction S) {P : State → State → Type 0} → P (at a) (at a) → WritesInside g a a P
  writes_none a said = record { same_reference = refl; survives = search rules; kept = λ clean. keeps_itself (at a); made = λ clean. said }

  pub retold : {a b : Transaction S} {P Q : State → State → Type 0} → WritesInside g a b P → (HasCleanDisk (at b) → P (at a) (at b) → Q (at a) (at b)) → WritesInside g a b Q
  retold one says = record { same_reference = one.same_reference; survives = one.survives; kept = one.kept; made = λ clean. says clean (one.made clean) }

  -- after what commits nothing
  pub then_writes : {a b c : Transaction S} {Q R : State → State → Type 0} → b.conn.ghost_name ≡ a.conn.ghost_name → Survives (at a) (at b) (λ _. ⊥) → (HasCleanDisk (at b) → KeepsCommit (at a) (at b))
      → WritesInside g b c Q → (HasCleanDisk (at b) → Q (at b) (at c) → R (at a) (at c)) → WritesInside g a c R
  then_writes {a} {b} {c} same survives kept two says =
      let early : HasCleanDisk (at c) → HasCleanDisk (at b) = λ clean. omega (arith, two.survives.clean, clean) in
      record {
        same_reference = two.same_reference ∙ same;
        survives = survives_then (at a) (at b) (at c) _ _ (λ _. ⊥) (λ _ db none. none) (λ _ db none. none) survives two.survives;
        kept = λ clean. keeps_then (at a) (at b) (at c) (kept (early clean)) (two.kept clean);
        made = λ clean. says (early clean) (two.made clean);
      }

  pub writes_then : {a b c : Transaction S} {P Q R : State → State → Type 0} → WritesInside g a b P → WritesInside g b c Q → (HasCleanDisk (at b) → P (at a) (at b) → Q (at b) (at c) → R (at a) (at c)) → WritesInside g a c R
  writes_then one two says = then_writes one.same_reference one.survives one.kept two (λ early. says early (one.made early))
