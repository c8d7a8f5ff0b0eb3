use Rattle.std.proofs.Common.{ap, ◌∙◌}
use Rattle.agv_world_core.specs.Changes.{changed}
use Rattle.agv_world_core.specs.Maps.{maps_of}
use Rattle.agv_world_core.proofs.lists.Asking.{asked_as}
use Rattle.agv_desk.specs.declared.answer.Decision.{Decision}
use Rattle.agv_desk.proofs.outcomes.Deciding.{of_size}
use Rattle.agv_desk.proofs.outcomes.DecisionEnds.{ends_failed, leaves_seats, leaves_world}
use Rattle.agv_desk.proofs.decide_call.decide.Goals as goal

pub returns-clause-changes : goal.returns-clause-changes
returns-clause-changes g c =
    let world = g.F.Floor.facts.world c.args.floor.now in
    let seats = g.F.Floor.facts.seats c.args.floor.now in
    asked_as g.F.Floor.facts c.args.floor.now c.decide_each.new.floor c.decide_each.result _ _
    (λ decision says in_order.
    ap (λ (d : Decision). changed d.changes (maps_of world)) (says (of_size world in_order c.args.call.now))
    ∙ c.leads_to_the_maps.ensures seats world c.args.at c.args.call.now in_order)
    c.decide_each.ensures

pub returns-clause-failed : goal.returns-clause-failed
returns-clause-failed g c = ends_failed g.F.Floor.facts c.args.floor.now c.decide_each.new.floor _ c.decide_each.result c.decide_each.ensures

pub returns-clause-seats : goal.returns-clause-seats
returns-clause-seats g c = leaves_seats g.F.Floor.facts c.args.floor.now c.decide_each.new.floor _ c.decide_each.result c.decide_each.ensures

pub returns-clause-world : goal.returns-clause-world
returns-clause-world g c = leaves_world g.F.Floor.facts c.args.floor.now c.decide_each.new.floor _ c.decide_each.result c.decide_each.ensures
