use Rattle.std.proofs.Common.{rules}
use Rattle.agv_header.proofs.stamp.moment_of.Goals as goal

pub returns : goal.returns
returns c = search rules
