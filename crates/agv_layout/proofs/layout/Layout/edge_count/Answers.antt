use Rattle.std.proofs.Common.{sym, ap, ◌∙◌}
use Rattle.std.specs.FinMap as map
use Rattle.agv_layout.specs.Layout.{Layout as Plan}
use Rattle.agv_layout.proofs.InOrder.{len-shown}
use Rattle.agv_layout.proofs.layout.Layout.edge_count.Goals as goal

pub returns : goal.returns
returns c = c.len.ensures.len ∙ sym (len-shown _ c.len.ensures.ordered) ∙ ap (λ (layout : Plan). map.len layout.edges) c.self.view_is
