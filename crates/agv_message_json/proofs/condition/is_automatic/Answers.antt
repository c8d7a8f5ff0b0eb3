use Rattle.std.proofs.Common.{◌≡◌, Bool, false, ◌||◌, sym, ap, ◌∙◌}
use Rattle.agv_message_json.proofs.condition.is_automatic.Goals as goal

not_first : (a b first second : Bool) → a ≡ first → a ≡ false → b ≡ second → b ≡ first || second
not_first a b first second is none e = e ∙ ap (λ x. x || second) (sym none ∙ is)

pub returns-else-eq : goal.returns-else-eq
returns-else-eq c = not_first _ _ _ _ c.eq.ensures c.if-eq.false c.eq-else-eq.ensures
