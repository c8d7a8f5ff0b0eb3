use Rattle.std.proofs.Common.{◌≡◌, Bool, true, false, not, Option, Some, None, is_some, refl, sym, ap, ◌∙◌}
use Rattle.std.specs.FinMap as map
use Rattle.std.specs.Option.{is_none}
use Rattle.agv_track_holds.specs.Holds.{Holds}
use Rattle.agv_track_holds.proofs.Tables.{get-shown, insert-shown}
use Rattle.agv_track_holds.proofs.holds.HoldTable.give.Goals as goal

-- there was none where it isn't so that there was one
none_told : {A : Type 0} (o : Option A) (told : Bool) → is_some o ≡ not told → told ≡ is_none o
none_told None true e = refl
none_told None false e = absurd (cc e)
none_told (Some x) true e = absurd (cc e)
none_told (Some x) false e = refl

pub returns-clause-ok : goal.returns-clause-ok
returns-clause-ok c = (
  none_told c.in_ok-before.before c.is_none.result c.is_none.ensures ∙ ap is_none (c.in_ok-before.ensures.old ∙ sym (get-shown _ _) ∙ ap (λ (table : Holds). map.get table c.args.thing) c.self.view_is),
  insert-shown _ _ _ _ c.in_ok-before.ensures.updates.0 ∙ ap (λ (table : Holds). map.insert table c.args.thing c.args.key) c.self.view_is,
)
