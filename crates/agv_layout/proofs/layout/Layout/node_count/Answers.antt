use Rattle.std.proofs.Common.{sym, ap, ◌∙◌}
use Rattle.std.specs.FinSet as set
use Rattle.agv_layout.specs.Layout.{Layout as Plan}
use Rattle.agv_layout.proofs.InOrder.{set_len-shown}
use Rattle.agv_layout.proofs.layout.Layout.node_count.Goals as goal

pub returns : goal.returns
returns c = c.len.ensures.len ∙ sym (set_len-shown _ c.len.ensures.ordered) ∙ ap (λ (layout : Plan). set.len layout.nodes) c.self.view_is
