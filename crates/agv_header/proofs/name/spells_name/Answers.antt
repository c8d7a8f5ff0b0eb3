use Rattle.std.proofs.Common.{rules}
use Rattle.agv_header.proofs.name.spells_name.Goals as goal

pub returns-then-bytes-le-LONGEST : goal.returns-then-bytes-le-LONGEST
returns-then-bytes-le-LONGEST c = search rules
