use Rattle.std.proofs.Common.{◌≡◌, ◌∙◌, sym, subst, None, Some}
use Rattle.std.specs.BTreeMap.{get}
use Rattle.agv_header.specs.Name.{name_cmp}
use Rattle.agv_layout.specs.Layout.{Layout}
use Rattle.agv_layout.specs.Walk.{IsHops, IsCutOff, IsRoute}
use Rattle.agv_layout.proofs.RouteFound.{exact_way}
use Rattle.agv_layout.proofs.Maps.{contains-shown, get-shown}
use Rattle.agv_layout.proofs.Routes.{cut_off, IsHops-distances, IsRoute-followed}
use Rattle.agv_layout.proofs.layout.Layout.route.Goals as goal

pub returns-then-not-contains : goal.returns-then-not-contains
returns-then-not-contains c =
    let is =
    subst (λ (l : Layout). IsCutOff l c.args.from c.args.to) c.self.view_is (cut_off c.self.inside c.args.to (contains-shown c.self.inside.nodes.keys c.args.to ∙ sym c.if-not-contains.ensures) c.args.from)
    in
    record { route = is; exact = exact_way _ c.args.from c.args.to None is }

pub distances_to-requires-clause-goal : goal.distances_to-requires-clause-goal
distances_to-requires-clause-goal c = sym c.if-not-contains.ensures

pub distances_to-requires-clause-few : goal.distances_to-requires-clause-few
distances_to-requires-clause-few c = c.self.invariant.few_nodes

pub distances_to-requires-clause-starts : goal.distances_to-requires-clause-starts
distances_to-requires-clause-starts c = λ id ends e. sym (contains-shown c.self.inside.nodes.keys ends.start) ∙ (c.self.invariant.leads id ends (get-shown c.self.inside.edges.entries id ∙ e)).0

pub returns-in_default : goal.returns-in_default
returns-in_default c =
    let known = contains-shown c.self.inside.nodes.keys c.args.to ∙ sym c.if-not-contains.ensures in
    let none : get name_cmp c.in_ok-distances.distances c.args.from ≡ None = sym c.hops_from.ensures ∙ c.in_default.is in
    let is =
    subst (λ (l : Layout). IsCutOff l c.args.from c.args.to) c.self.view_is
    (subst (IsHops _ c.args.from c.args.to) none (IsHops-distances c.self.inside c.args.to known c.in_ok-distances.distances c.in_ok-distances.ensures c.args.from))
    in
    record { route = is; exact = exact_way _ c.args.from c.args.to None is }

pub returns : goal.returns
returns c =
    let known = contains-shown c.self.inside.nodes.keys c.args.to ∙ sym c.if-not-contains.ensures in
    let far : get name_cmp c.in_ok-distances.distances c.args.from ≡ Some c.in-Some.hops = sym c.hops_from.ensures ∙ c.in-Some.is in
    let is =
    subst (λ (l : Layout). IsRoute l c.args.from c.args.to c.in_ok-follow.field-0.items) c.self.view_is
    (subst (IsRoute _ c.args.from c.args.to) (sym c.in_ok-follow.ensures)
    (IsRoute-followed c.self.inside c.args.to known c.in_ok-distances.distances c.in_ok-distances.ensures c.in_ok-ways.ways c.in_ok-ways.ensures.ordered c.in_ok-ways.ensures.first c.in-Some.hops c.args.from far))
    in
    record { route = is; exact = exact_way _ c.args.from c.args.to (Some c.in_ok-follow.field-0.items) is }
