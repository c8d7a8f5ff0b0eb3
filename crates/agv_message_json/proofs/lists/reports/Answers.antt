use Rattle.std.proofs.Common.{Some, sym, ap, ◌∙◌}
use Rattle.agv_message_json.specs.State.{action_at}
use Rattle.agv_message_json.proofs.Arrays.{after-all, after-none, after-read, after-unread}
use Rattle.agv_message_json.proofs.lists.reports.Goals as goal

pub loop-entry-preserved : goal.loop-entry-preserved
loop-entry-preserved c =
    after-read action_at _ _ _ _ _ _ _ c.loop-entry-test.true c.entry-item.is (sym c.in-Some.is ∙ c.in_ok-report.ensures) c.in_ok-push.ensures.items c.loop-entry.invariant

pub returns-in_default : goal.returns-in_default
returns-in_default c =
    sym (after-unread action_at _ _ _ _ _ c.loop-entry-test.true c.entry-item.is (sym c.in_default.is ∙ c.in_ok-report.ensures) c.loop-entry.invariant)

pub loop-entry-init : goal.loop-entry-init
loop-entry-init c = after-none _ _ c.new-reports.ensures.items

pub returns : goal.returns
returns c = ap Some c.into.ensures ∙ after-all action_at _ _ _ _ c.loop-entry-test.false c.loop-entry.invariant
