use Rattle.std.proofs.Common.{sym, ap, ◌∙◌}
use Rattle.std.specs.FinSet as set
use Rattle.agv_layout.specs.Layout.{Layout as Plan}
use Rattle.agv_layout.proofs.Maps.{contains-shown}
use Rattle.agv_layout.proofs.layout.Layout.node.Goals as goal

pub returns : goal.returns
returns c =
    c.contains.ensures ∙ sym (contains-shown _ _) ∙ ap (λ (layout : Plan). set.contains layout.nodes c.args.id) c.self.view_is
