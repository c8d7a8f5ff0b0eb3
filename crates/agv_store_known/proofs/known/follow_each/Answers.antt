use Rattle.agv_store_known.proofs.Knowing.{all_changed, none_changed, one_changed_more}
use Rattle.agv_store_known.proofs.known.follow_each.Goals as goal

pub loop-change-init : goal.loop-change-init
loop-change-init c = none_changed c.args.changes.now c.args.known.now

pub loop-change-preserved : goal.loop-change-preserved
loop-change-preserved c =
    one_changed_more c.args.changes.now c.args.known.now c.changes_in_turn.ensures c.loop-change.change-index c.change-item.result c.loop-change.known c.follow_one.new.known c.loop-change-test.true c.change-item.is c.loop-change.invariant c.follow_one.ensures

pub returns : goal.returns
returns c = all_changed c.args.changes.now c.args.known.now c.loop-change.change-index c.loop-change.known c.loop-change-test.false c.loop-change.invariant
