use Rattle.std.proofs.Common.{◌≤◌, ◌∙◌, ℕ, List, length, rules}
use Rattle.std.specs.FinMap as finite
use Rattle.std.specs.Map.Iter.{deref_pair}
use Rattle.std.proofs.lemmas.Map.Iter.{rest_more, rest_all}
use Rattle.agv_world_core.specs.declared.row.TripRow.{TripRow}
use Rattle.agv_store_sql.proofs.Refusing.{ends_as}
use Rattle.agv_store_sql.proofs.WritesThen.{retold, writes_none, writes_then}
use Rattle.agv_store_migrate.specs.MoveStatements.{trip_inserted}
use Rattle.agv_store_migrate.specs.Moved.{with_journey}
use Rattle.agv_store_migrate.proofs.MovingEach.{leads_all, leads_first, leads_next}
use Rattle.agv_store_migrate.proofs.MovingRun.{fails_next, has, runs_first, runs_last, runs_next}
use Rattle.std.specs.List.{flat_map}
use Rattle.agv_store_migrate.proofs.row_moving.add_trips.Goals as goal

-- the acts of the trip can be numbered
abbrev few_acts : List ℕ × TripRow → Type 0
few_acts entry = length entry.1.acts ≤ 4294967296

pub loop-order-init : goal.loop-order-init
loop-order-init g c =
    let all = c.into_iter-order-iterator.ensures.into_iter_gives ∙ c.iter-order-items.ensures in (
      writes_none g.S.Store c.args.tx.now (leads_first with_journey (finite.entries c.args.trips.now) c.into_iter-order-iterator.result _ all),
      λ few. runs_first g.S.Store trip_inserted (finite.entries c.args.trips.now) c.args.tx.now c.into_iter-order-iterator.result all,
    )

pub returns-in_err-add_trip-clause-made : goal.returns-in_err-add_trip-clause-made
returns-in_err-add_trip-clause-made g c = writes_then g.S.Store c.loop-order.invariant.0 c.add_trip.ensures.made (λ _ _ _ _. search rules)

pub returns-in_err-add_trip-clause-ends : goal.returns-in_err-add_trip-clause-ends
returns-in_err-add_trip-clause-ends g c few =
    let rest = rest_more deref_pair _ _ _ _ c.in-Some.is c.next.ensures.steps in
    let all = finite.entries c.args.trips.now in
    let one : List ℕ × TripRow = (c.in-Some.order.now, c.in-Some.trip.now) in
    let so_far = c.loop-order.invariant.1 few in
    let e = c.in_err-add_trip.field-0.0 in
    let numbered = has g.S.Store trip_inserted all c.args.tx.now c.loop-order.tx c.add_trip.new.tx one c.loop-order.order-iterator c.next.new.self rest so_far few_acts few in
    ends_as g.S.Store c.args.tx.now c.add_trip.new.tx (flat_map trip_inserted all) e c.from_residual.result c.from_residual.ensures.1
    (fails_next g.S.Store trip_inserted all c.args.tx.now c.loop-order.tx c.add_trip.new.tx one c.loop-order.order-iterator c.next.new.self rest so_far c.loop-order.invariant.0.survives c.add_trip.ensures.made.survives e
    (c.in_err-add_trip.ensures.ends numbered))

pub loop-order-preserved : goal.loop-order-preserved
loop-order-preserved g c =
    let rest = rest_more deref_pair _ _ _ _ c.in-Some.is c.next.ensures.steps in
    let all = finite.entries c.args.trips.now in
    let one : List ℕ × TripRow = (c.in-Some.order.now, c.in-Some.trip.now) in (
      writes_then g.S.Store c.loop-order.invariant.0 c.in_ok-add_trip.ensures.made
          (λ _ before adds inside. leads_next with_journey all _ one c.loop-order.order-iterator c.next.new.self _ _ rest (before inside) adds),
      λ few.
          let so_far = c.loop-order.invariant.1 few in
          let numbered = has g.S.Store trip_inserted all c.args.tx.now c.loop-order.tx c.add_trip.new.tx one c.loop-order.order-iterator c.next.new.self rest so_far few_acts few in
          runs_next g.S.Store trip_inserted all c.args.tx.now c.loop-order.tx c.add_trip.new.tx one c.loop-order.order-iterator c.next.new.self rest so_far c.loop-order.invariant.0.survives c.add_trip.ensures.made.survives
          (c.in_ok-add_trip.ensures.ends numbered),
    )

pub returns-clause-made : goal.returns-clause-made
returns-clause-made g c =
    retold g.S.Store c.loop-order.invariant.0
    (λ _ leads inside. leads_all with_journey (finite.entries c.args.trips.now) _ c.loop-order.order-iterator _ (rest_all deref_pair _ _ _ c.in-None.is c.next.ensures.steps) (leads inside))

pub returns-clause-ends : goal.returns-clause-ends
returns-clause-ends g c few =
    runs_last g.S.Store trip_inserted (finite.entries c.args.trips.now) c.args.tx.now c.loop-order.tx c.loop-order.order-iterator (rest_all deref_pair _ _ _ c.in-None.is c.next.ensures.steps) (c.loop-order.invariant.1 few)
