use Rattle.agv_header.specs.ThingOrder.{thing_cmp-total, thing_cmp-IsAntisymmetric}
use Rattle.agv_header.proofs.key.Thing.order_law.Goals as goal

pub returns-clause-total : goal.returns-clause-total
returns-clause-total c = thing_cmp-total

pub returns-clause-apart : goal.returns-clause-apart
returns-clause-apart c = thing_cmp-IsAntisymmetric
