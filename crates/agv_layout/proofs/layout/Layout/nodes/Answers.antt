use Rattle.std.proofs.Common.{ap}
use Rattle.agv_layout.specs.Layout.{Layout as Plan}
use Rattle.agv_layout.proofs.layout.Layout.nodes.Goals as goal

pub returns : goal.returns
returns c = rw c.iter.ensures.rest record {
  nodes = record { ordered = c.iter.ensures.ordered; all = ap (λ (layout : Plan). layout.nodes) c.self.view_is };
}
