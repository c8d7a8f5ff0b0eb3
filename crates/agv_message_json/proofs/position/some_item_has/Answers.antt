use Rattle.std.proofs.Common.{List, [], Option, unwrap_or, sym, ap, ◌∙◌}
use Rattle.std.specs.List.{list_any}
use Rattle.serde_json.specs.Data.{Data}
use Rattle.serde_json.specs.View.{view}
use Rattle.agv_message_json.specs.Members.{has}
use Rattle.agv_message_json.proofs.Arrays.{list_any-map}
use Rattle.agv_message_json.proofs.position.some_item_has.Goals as goal

pub returns-in-Some : goal.returns-in-Some
returns-in-Some c =
    c.any_has.ensures ∙ sym (list_any-map (has c.args.name.now) view c.in-Some.items.now)
    ∙ ap (λ (o : Option (List Data)). list_any (has c.args.name.now) (unwrap_or o [])) c.in-Some.ensures
