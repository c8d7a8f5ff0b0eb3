use Rattle.std.proofs.Common.{rules}
use Rattle.agv_header.proofs.name.is_allowed.Goals as goal

pub returns-else-is_ascii_alphanumeric : goal.returns-else-is_ascii_alphanumeric
returns-else-is_ascii_alphanumeric c = search rules
