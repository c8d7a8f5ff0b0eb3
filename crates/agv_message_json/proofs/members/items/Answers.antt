use Rattle.agv_message_json.specs.Members.{items_at}
use Rattle.agv_message_json.proofs.Arrays.{items_found}
use Rattle.agv_message_json.proofs.members.items.Goals as goal

pub returns : goal.returns
unfolding items_at
returns c = rw c.as_slice.ensures.value (items_found _ _ _ c.in_ok-member.ensures c.in_ok-as_array.ensures)
