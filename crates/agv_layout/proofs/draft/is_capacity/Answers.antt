use Rattle.std.proofs.Common.{rules}
use Rattle.agv_layout.proofs.draft.is_capacity.Goals as goal

pub returns : goal.returns
returns c = search rules
