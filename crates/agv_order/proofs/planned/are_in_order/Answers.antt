use Rattle.std.proofs.Common.{sym, ◌∙◌}
use Rattle.agv_order.proofs.PlanTests.{none_in_order, some_in_order}
use Rattle.agv_order.proofs.planned.are_in_order.Goals as goal

pub returns-then-is_empty : goal.returns-then-is_empty
returns-then-is_empty c = c.if-is_empty.true ∙ sym (none_in_order c.args.acts.now c.args.end (sym c.is_empty.ensures ∙ c.if-is_empty.true))

pub returns-else-is_empty : goal.returns-else-is_empty
returns-else-is_empty c = c.is_rising.ensures ∙ some_in_order c.args.acts.now c.args.end (sym c.is_empty.ensures ∙ c.if-is_empty.false)
