use Rattle.std.proofs.Common.{sym, ap, ◌∙◌}
use Rattle.std.specs.FinMap as map
use Rattle.agv_layout.specs.Layout.{Layout as Plan}
use Rattle.agv_layout.proofs.InOrder.{entries-shown}
use Rattle.agv_layout.proofs.layout.Layout.edges.Goals as goal

pub returns : goal.returns
returns c = record {
  edges = c.iter.ensures.rest ∙ sym (entries-shown _ c.iter.ensures.ordered) ∙ ap (λ (layout : Plan). map.entries layout.edges) c.self.view_is;
}
