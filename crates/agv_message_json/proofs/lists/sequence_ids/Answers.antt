use Rattle.std.proofs.Common.{Some, sym, ap, ◌∙◌, codes}
use Rattle.agv_message_json.specs.Members.{whole_at}
use Rattle.agv_message_json.proofs.Arrays.{after-all, after-none, after-read, after-unread}
use Rattle.agv_message_json.proofs.lists.sequence_ids.Goals as goal

pub loop-node-preserved : goal.loop-node-preserved
loop-node-preserved c =
    after-read (whole_at (codes "sequenceId")) _ _ _ _ _ _ _ c.loop-node-test.true c.node-item.is (sym c.in-Some.is ∙ c.whole.ensures) c.in_ok-push.ensures.items c.loop-node.invariant

pub returns-in_default : goal.returns-in_default
returns-in_default c =
    sym (after-unread (whole_at (codes "sequenceId")) _ _ _ _ _ c.loop-node-test.true c.node-item.is (sym c.in_default.is ∙ c.whole.ensures) c.loop-node.invariant)

pub loop-node-init : goal.loop-node-init
loop-node-init c = after-none _ _ c.new-ids.ensures.items

pub returns : goal.returns
returns c = ap Some c.into.ensures ∙ after-all (whole_at (codes "sequenceId")) _ _ _ _ c.loop-node-test.false c.loop-node.invariant
