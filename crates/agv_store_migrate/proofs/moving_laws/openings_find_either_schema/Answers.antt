use Rattle.std.proofs.Common.{inl, inr, sym, subst}
use Rattle.agv_store_migrate.specs.Moved.{MovesWorld}
use Rattle.agv_store_changes.proofs.ChangesFound.{same_database}
use Rattle.agv_store_migrate.proofs.moving_laws.openings_find_either_schema.Goals as goal

pub returns : goal.returns
returns c tables old found first world was keeps listed finds may = elim may [
  | inl before ↦ inl (same_database old found listed finds before)
  | inr left ↦
      let moved = left.1 first world was keeps in
      inr (subst (MovesWorld first world old) (sym (same_database left.0 found moved.listed finds left.2)) moved)
]
