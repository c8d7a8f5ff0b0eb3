use Rattle.agv_world_core.proofs.row_changes.Written.{layout_written}
use Rattle.agv_world_core.proofs.change_laws.sets_the_layout.Goals as goal

pub returns : goal.returns
returns c world layout none = layout_written world layout (c.lists_its_nodes.ensures layout) none
