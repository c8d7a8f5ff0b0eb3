use Rattle.std.proofs.Common.{◌∷◌, ◌++◌, [], take, ap, sym, ◌∙◌}
use Rattle.std.proofs.lemmas.List.{take_more}
use Rattle.std.proofs.lemmas.List.Elements.{filter_map-append}
use Rattle.std.specs.Option.{option_map}
use Rattle.std.specs.FinMap as finite
use Rattle.agv_layout.specs.Layout.{edge_of}
use Rattle.agv_order.specs.Plans.{edges_named}
use Rattle.agv_order.proofs.stop_route.edges_named.Goals as goal

pub loop-id-preserved : goal.loop-id-preserved
loop-id-preserved c =
    let layout = c.args.layout.now in
    let ids = c.args.ids.now in
    let i = c.loop-id.id-index in
    let id = c.id-item.result in
    c.in_ok-add_edge.ensures
    ∙ ap (λ edges. edges ++ edges_named layout (id ∷ [])) c.loop-id.invariant
    ∙ sym (filter_map-append (λ name. option_map (edge_of name) (finite.get layout.edges name)) (take i ids) (id ∷ []))
    ∙ ap (λ name. edges_named layout (take i ids ++ name ∷ [])) c.id-item.is
    ∙ ap (edges_named layout) (sym (take_more ids i id c.loop-id-test.true))
