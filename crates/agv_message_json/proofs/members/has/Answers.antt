use Rattle.std.proofs.Common.{◌≡◌, Option, Some, None, option_map, is_some, refl, sym, ap, ◌∙◌}
use Rattle.agv_message_json.proofs.members.has.Goals as goal

is_some-option_map : {X Y : Type 0} (f : X → Y) (o : Option X) → is_some (option_map f o) ≡ is_some o
is_some-option_map f None = refl
is_some-option_map f (Some x) = refl

pub returns : goal.returns
returns c = c.is_some.ensures ∙ sym (is_some-option_map _ c.member.result) ∙ ap is_some c.member.ensures
