use Rattle.std.proofs.Common.{sym, subst, ◌∙◌}
use Rattle.std.specs.List.{AllByRecursion}
use Rattle.agv_header.specs.declared.key.VehicleKey.{VehicleKey}
use Rattle.agv_world_core.specs.Lawful.{IsKey}
use Rattle.agv_header.specs.KeyOrder.{key_cmp-IsAntisymmetric}
use Rattle.agv_world_core.proofs.lists.EachEntry.{entry-has}
use Rattle.agv_world_core.proofs.tables.by_vehicle.ByVehicle.keys_law.Goals as goal

pub loop-key-init : goal.loop-key-init
loop-key-init g c each = entry-has key_cmp-IsAntisymmetric (λ (e : VehicleKey × g.row.V.Denot). IsKey e.0) c.args.self.now (subst (AllByRecursion (λ (e : VehicleKey × g.row.V.Denot). IsKey e.0)) (c.into_iter-key-iterator.ensures.into_iter_gives ∙ c.iter-key-items.ensures) each)

pub loop-key-preserved : goal.loop-key-preserved
loop-key-preserved g c more = c.loop-key.invariant (subst (AllByRecursion (λ (e : VehicleKey × g.row.V.Denot). IsKey e.0)) (sym c.in-Some.ensures.steps) ((c.as_bytes-manufacturer.ensures.name, c.as_bytes-serial.ensures.name), more))

pub returns : goal.returns
returns g c = c.loop-key.invariant (subst (AllByRecursion (λ (e : VehicleKey × g.row.V.Denot). IsKey e.0)) (sym c.in-None.ensures.steps.0) tt)
