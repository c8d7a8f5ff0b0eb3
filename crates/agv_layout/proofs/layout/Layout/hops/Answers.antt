use Rattle.std.proofs.Common.{None, ◌∙◌, sym, subst}
use Rattle.agv_layout.specs.Layout.{Layout}
use Rattle.agv_layout.specs.Walk.{IsHops, IsCutOff}
use Rattle.agv_layout.proofs.RouteFound.{exact_hops}
use Rattle.agv_layout.proofs.Maps.{contains-shown, get-shown}
use Rattle.agv_layout.proofs.Routes.{cut_off, IsHops-distances}
use Rattle.agv_layout.proofs.layout.Layout.hops.Goals as goal

pub returns-then-not-contains : goal.returns-then-not-contains
returns-then-not-contains c =
    let is =
    subst (λ (l : Layout). IsCutOff l c.args.from c.args.to) c.self.view_is (cut_off c.self.inside c.args.to (contains-shown c.self.inside.nodes.keys c.args.to ∙ sym c.if-not-contains.ensures) c.args.from)
    in
    record { hops = is; exact = exact_hops _ c.args.from c.args.to None is }

pub distances_to-requires-clause-goal : goal.distances_to-requires-clause-goal
distances_to-requires-clause-goal c = sym c.if-not-contains.ensures

pub distances_to-requires-clause-few : goal.distances_to-requires-clause-few
distances_to-requires-clause-few c = c.self.invariant.few_nodes

pub distances_to-requires-clause-starts : goal.distances_to-requires-clause-starts
distances_to-requires-clause-starts c = λ id ends e. sym (contains-shown c.self.inside.nodes.keys ends.start) ∙ (c.self.invariant.leads id ends (get-shown c.self.inside.edges.entries id ∙ e)).0

pub returns : goal.returns
returns c =
    let is =
    subst (λ (l : Layout). IsHops l c.args.from c.args.to c.hops_from.result) c.self.view_is
    (subst (IsHops _ c.args.from c.args.to) (sym c.hops_from.ensures)
    (IsHops-distances c.self.inside c.args.to (contains-shown c.self.inside.nodes.keys c.args.to ∙ sym c.if-not-contains.ensures) c.in_ok-distances.distances c.in_ok-distances.ensures c.args.from))
    in
    record { hops = is; exact = exact_hops _ c.args.from c.args.to c.hops_from.result is }
