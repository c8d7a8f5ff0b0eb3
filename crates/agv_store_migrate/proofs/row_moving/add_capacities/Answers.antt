use Rattle.std.proofs.Common.{◌∙◌, rules}
use Rattle.std.specs.FinMap as finite
use Rattle.std.specs.Map.Iter.{deref_pair}
use Rattle.std.proofs.lemmas.Map.Iter.{rest_more, rest_all}
use Rattle.agv_header.specs.declared.key.VehicleKey.{VehicleKey}
use Rattle.agv_world_core.specs.declared.row.VehicleRow.{VehicleRow}
use Rattle.agv_store_sql.proofs.Refusing.{ends_as}
use Rattle.agv_store_sql.proofs.WritesThen.{retold, writes_none, writes_then}
use Rattle.agv_store_migrate.specs.MoveStatements.{capacity_inserted}
use Rattle.agv_store_migrate.specs.Moved.{with_vehicle_capacity}
use Rattle.agv_store_migrate.proofs.MovingEach.{leads_all, leads_first, leads_next}
use Rattle.agv_store_migrate.proofs.MovingRun.{fails_next, runs_first, runs_last, runs_next}
use Rattle.std.specs.List.{flat_map}
use Rattle.agv_store_migrate.proofs.row_moving.add_capacities.Goals as goal

pub loop-key-init : goal.loop-key-init
loop-key-init g c =
    let all = c.into_iter-key-iterator.ensures.into_iter_gives ∙ c.iter-key-items.ensures in (
      writes_none g.S.Store c.args.tx.now (leads_first with_vehicle_capacity (finite.entries c.args.vehicles.now) c.into_iter-key-iterator.result _ all),
      runs_first g.S.Store capacity_inserted (finite.entries c.args.vehicles.now) c.args.tx.now c.into_iter-key-iterator.result all,
    )

pub returns-in_err-add_capacity-clause-made : goal.returns-in_err-add_capacity-clause-made
returns-in_err-add_capacity-clause-made g c = writes_then g.S.Store c.loop-key.invariant.0 c.add_capacity.ensures.made (λ _ _ _ _. search rules)

pub returns-in_err-add_capacity-clause-ends : goal.returns-in_err-add_capacity-clause-ends
returns-in_err-add_capacity-clause-ends g c =
    let rest = rest_more deref_pair _ _ _ _ c.in-Some.is c.next.ensures.steps in
    let e = c.in_err-add_capacity.field-0.0 in
    let so_far = c.loop-key.invariant in
    ends_as g.S.Store c.args.tx.now c.add_capacity.new.tx (flat_map capacity_inserted (finite.entries c.args.vehicles.now)) e c.from_residual.result c.from_residual.ensures.1
    (fails_next g.S.Store capacity_inserted (finite.entries c.args.vehicles.now) c.args.tx.now c.loop-key.tx c.add_capacity.new.tx (c.in-Some.key.now, c.in-Some.vehicle.now) c.loop-key.key-iterator c.next.new.self rest so_far.1
    so_far.0.survives c.add_capacity.ensures.made.survives e c.in_err-add_capacity.ensures.ends)

pub loop-key-preserved : goal.loop-key-preserved
loop-key-preserved g c =
    let rest = rest_more deref_pair _ _ _ _ c.in-Some.is c.next.ensures.steps in
    let all = finite.entries c.args.vehicles.now in
    let one : VehicleKey × VehicleRow = (c.in-Some.key.now, c.in-Some.vehicle.now) in
    let so_far = c.loop-key.invariant in (
      writes_then g.S.Store so_far.0 c.in_ok-add_capacity.ensures.made
          (λ _ before adds inside. leads_next with_vehicle_capacity all _ one c.loop-key.key-iterator c.next.new.self _ _ rest (before inside) adds),
      runs_next g.S.Store capacity_inserted all c.args.tx.now c.loop-key.tx c.add_capacity.new.tx one c.loop-key.key-iterator c.next.new.self rest so_far.1 so_far.0.survives c.add_capacity.ensures.made.survives
          c.in_ok-add_capacity.ensures.ends,
    )

pub returns-clause-made : goal.returns-clause-made
returns-clause-made g c =
    retold g.S.Store c.loop-key.invariant.0
    (λ _ leads inside. leads_all with_vehicle_capacity (finite.entries c.args.vehicles.now) _ c.loop-key.key-iterator _ (rest_all deref_pair _ _ _ c.in-None.is c.next.ensures.steps) (leads inside))

pub returns-clause-ends : goal.returns-clause-ends
returns-clause-ends g c =
    runs_last g.S.Store capacity_inserted (finite.entries c.args.vehicles.now) c.args.tx.now c.loop-key.tx c.loop-key.key-iterator (rest_all deref_pair _ _ _ c.in-None.is c.next.ensures.steps) c.loop-key.invariant.1
