use Rattle.std.proofs.Common.{rules}
use Rattle.agv_message_json.specs.Members.{member_at, items_at}
use Rattle.agv_message_json.specs.Position.{has_position}
use Rattle.agv_message_json.proofs.position.has_position.Goals as goal

pub returns-then-some_item_has : goal.returns-then-some_item_has
unfolding has_position member_at items_at
returns-then-some_item_has c = search rules

pub returns-else-some_item_has : goal.returns-else-some_item_has
unfolding has_position member_at items_at
returns-else-some_item_has c = search rules
