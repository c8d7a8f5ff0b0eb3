use Rattle.std.proofs.Common.{ap, ◌∙◌, sym}
use Rattle.std.specs.FinSet as set
use Rattle.agv_world_core.proofs.lists.InOrder.{set_len-shown}
use Rattle.agv_world_core.proofs.lists.Orders.{names_total}
use Rattle.agv_world_core.proofs.tables.names.Names.len.Goals as goal

pub returns : goal.returns
returns c = c.len.ensures.len ∙ sym (set_len-shown names_total _ c.len.ensures.ordered) ∙ ap set.len c.self.view_is
