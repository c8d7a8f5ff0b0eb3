use Rattle.agv_header.specs.KeyOrder.{key_cmp-total, key_cmp-IsAntisymmetric}
use Rattle.agv_header.proofs.key.VehicleKey.order_law.Goals as goal

pub returns-clause-total : goal.returns-clause-total
returns-clause-total c = key_cmp-total

pub returns-clause-apart : goal.returns-clause-apart
returns-clause-apart c = key_cmp-IsAntisymmetric
