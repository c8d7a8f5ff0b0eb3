use Rattle.std.proofs.Common.{◌≡◌, Bool, true, false, not, Option, Some, None, is_some, refl, sym, ap, ◌∙◌}
use Rattle.std.specs.FinMap as map
use Rattle.std.specs.Option.{is_none}
use Rattle.agv_world_core.proofs.lists.Orders.{names_total, names_apart}
use Rattle.agv_world_core.proofs.lists.Shown.{get-shown, insert-shown}
use Rattle.agv_world_core.proofs.tables.by_name.ByName.insert_new.Goals as goal

-- there was none where it isn't so that there was one
none_told : {A : Type 0} (o : Option A) (told : Bool) → is_some o ≡ not told → told ≡ is_none o
none_told None true e = refl
none_told None false e = absurd (cc e)
none_told (Some x) true e = absurd (cc e)
none_told (Some x) false e = refl

pub returns-clause-ok : goal.returns-clause-ok
returns-clause-ok g c = (
  none_told c.in_ok-before.before c.is_none.result c.is_none.ensures ∙ ap is_none (c.in_ok-before.ensures.old ∙ sym (get-shown names_total _ _) ∙ ap (λ m. map.get m c.args.key) c.self.view_is),
  insert-shown names_total names_apart _ _ _ _ c.in_ok-before.ensures.updates.0 ∙ ap (λ m. map.insert m c.args.key c.args.row) c.self.view_is,
)
