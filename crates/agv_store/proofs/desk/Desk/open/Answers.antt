use Rattle.std.proofs.Common.{◌≡◌, ◌⊎◌, ◌↔◌, Bool, false, IsTrue, Ok, Err, IfOk, inr, subst, sym}
use Rattle.sqlite_schema.specs.declared.schema.Schema.{Schema}
use Rattle.sqlite_trees.specs.declared.store.Store.{Ghosts}
use Rattle.sqlite.specs.Held.{Held}
use Rattle.agv_store_schema.specs.Connections.{IsClean}
use Rattle.agv_store.specs.Opening.{Adopts, CanBeMade, Makes, Opening}
use Rattle.agv_store.proofs.desk.Desk.open.Goals as goal

adopted_as_well : {S : Type 0} (g : Ghosts S) (old : Held S) (r : Opening S) (s : Schema) → (CanBeMade s → ⊥) → IfOk r (λ desk. IsClean g desk.held → Adopts g old desk)
    → IfOk r (λ desk. IsClean g desk.held → (CanBeMade s × Makes g old desk) ⊎ ((CanBeMade s → ⊥) × Adopts g old desk))
adopted_as_well g old (Ok desk) s cannot adopted = λ clean. inr (cannot, adopted clean)
adopted_as_well g old (Err why) s cannot adopted = tt

cannot_be_made : (s given : Schema) (can : Bool) → given ≡ s → IsTrue can ↔ CanBeMade given → can ≡ false → CanBeMade s → ⊥
cannot_be_made s given can same tells is_false made = absurd (let it : IsTrue can = tells.1 (subst CanBeMade (sym same) made) in cc)

pub returns-else-can_be_made-clause-opened : goal.returns-else-can_be_made-clause-opened
returns-else-can_be_made-clause-opened g c =
    adopted_as_well g.S.Store c.args.conn c.adopt.result c.args.conn.schema
    (cannot_be_made c.args.conn.schema c.schema.result.now c.can_be_made.result c.schema.ensures.value c.can_be_made.ensures c.if-can_be_made.false) c.adopt.ensures.adopted

pub returns-else-can_be_made-clause-damaged : goal.returns-else-can_be_made-clause-damaged
returns-else-can_be_made-clause-damaged g c clean damaged = (
  cannot_be_made c.args.conn.schema c.schema.result.now c.can_be_made.result c.schema.ensures.value c.can_be_made.ensures c.if-can_be_made.false,
  c.adopt.ensures.damaged clean damaged,
)
