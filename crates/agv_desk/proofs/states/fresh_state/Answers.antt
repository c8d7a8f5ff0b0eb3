use Rattle.std.proofs.Common.{rules, ◌≡◌, nat_eq, true, subst}
use Rattle.std.specs.Cmp.Lexicographic.{pointwise}
use Rattle.agv_world_core.proofs.lists.Asking.{asked_as}
use Rattle.agv_desk.specs.Outcomes.{Outcome, decided}
use Rattle.agv_desk.proofs.row_changes.TripStates.{is_of_trip}
use Rattle.agv_desk.proofs.states.fresh_state.Goals as goal

pub returns-then-eq : goal.returns-then-eq
returns-then-eq g c =
    let world = g.F.Floor.facts.world c.args.floor.now in
    let same : pointwise nat_eq c.in-Some.trip.order c.args.state.now.order_id ≡ true = search rules in
    let steps = is_of_trip world c.args.key.now c.args.row.now c.args.trip c.in-Some.trip c.args.state.now c.in-Some.is same in
    asked_as g.F.Floor.facts c.args.floor.now c.trip_state.new.floor c.trip_state.result _ _ (λ decision told. subst (λ (outcome : Outcome). decision ≡ decided outcome) steps told) c.trip_state.ensures
