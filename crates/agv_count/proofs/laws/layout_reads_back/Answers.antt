use Rattle.agv_count.proofs.LayoutReadBack.{read_back}
use Rattle.agv_count.proofs.laws.layout_reads_back.Goals as goal

pub returns : goal.returns
returns c = read_back
