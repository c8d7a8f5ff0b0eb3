use Rattle.agv_count.proofs.FieldLemmas.{edge_read}
use Rattle.agv_count.proofs.layout_file.edge.Goals as goal

pub returns : goal.returns
returns c = edge_read _ _ _ _ _ _ c.in_ok-of_bytes.ensures c.in_ok-of_bytes-2.ensures c.in_ok-of_bytes-3.ensures
