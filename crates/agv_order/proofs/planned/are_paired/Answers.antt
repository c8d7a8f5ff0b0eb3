use Rattle.std.proofs.Common.{◌∙◌}
use Rattle.agv_order.proofs.PlanTests.{acts_paired}
use Rattle.agv_order.proofs.planned.are_paired.Goals as goal

pub returns : goal.returns
returns c = c.are_all_carried.ensures ∙ acts_paired c.args.acts.now
