use Rattle.std.proofs.Common.{sym, ap, option_map, ◌∙◌}
use Rattle.std.specs.FinMap as map
use Rattle.agv_layout.specs.Layout.{Layout as Plan, edge_of}
use Rattle.agv_layout.proofs.Maps.{get-shown}
use Rattle.agv_layout.proofs.layout.Layout.edge.Goals as goal

pub returns-in_err-ends : goal.returns-in_err-ends
returns-in_err-ends c =
    let here = sym (get-shown _ _) ∙ ap (λ (layout : Plan). map.get layout.edges c.args.id) c.self.view_is in
    c.from_residual.ensures ∙ ap (option_map (edge_of c.args.id)) (c.in_err-ends.ensures.value ∙ here)

pub returns : goal.returns
returns c =
    let here = sym (get-shown _ _) ∙ ap (λ (layout : Plan). map.get layout.edges c.args.id) c.self.view_is in
    ap (option_map (edge_of c.args.id)) (c.in_ok-ends.ensures.value ∙ here)
