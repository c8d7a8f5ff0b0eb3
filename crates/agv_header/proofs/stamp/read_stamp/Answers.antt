use Rattle.std.proofs.Common.{arith}
use Rattle.agv_header.specs.Stamp.{moment_said}
use Rattle.agv_header.proofs.stamp.read_stamp.Goals as goal

pub returns-in_default : goal.returns-in_default
unfolding moment_said
returns-in_default c = grind arith
