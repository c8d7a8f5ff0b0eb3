use Rattle.agv_count.proofs.layout_file.is_node.Goals as goal

pub returns : goal.returns
returns c = rw c.as_slice.ensures at c.eq.ensures
