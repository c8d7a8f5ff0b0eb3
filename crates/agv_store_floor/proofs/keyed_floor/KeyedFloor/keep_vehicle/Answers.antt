use Rattle.std.proofs.Common.{◌≡◌, Some, subst, sym, ◌∙◌}
use Rattle.agv_world_core.specs.Questions.{row_of}
use Rattle.agv_world_core.specs.Maps.{maps_of}
use Rattle.agv_store_schema.specs.Connections.{IsClean, IsOpen}
use Rattle.agv_store_known.proofs.KeptVehicles.{row_kept_or_not}
use Rattle.agv_store_known.proofs.Knowing.{with_vehicles}
use Rattle.agv_store_floor.specs.Floors.{Keyed, world_at}
use Rattle.agv_store_floor.proofs.Asked.{known_so}
use Rattle.agv_store_floor.proofs.keyed_floor.KeyedFloor.keep_vehicle.Goals as goal

pub invariant_of-self : goal.invariant_of-self
invariant_of-self g c =
    let there = subst (λ (desk : Keyed g.row.S.Denot). IsClean g.S.Store desk.held → IsOpen g.S.Store desk.held → Some c.args.vehicle.now ≡ row_of (world_at g.S.Store desk.held) c.args.key.now) (sym c.self.view_is) c.requires in
    known_so g.S.Store c.self.inside.conn c.self.inside.known _ c.self.inside.failed c.self.inside.in_doubt c.self.invariant
    (λ clean still is.
    let world = world_at g.S.Store c.self.inside.conn in
    with_vehicles (row_kept_or_not c.self.inside.known.vehicles c.insert.new.self (maps_of world) c.args.key.now c.args.vehicle.now c.insert.result c.insert.ensures.ok c.insert.ensures.err
    (c.rows_have_vehicles.ensures world c.args.key.now ∙ sym (there clean still)) is.vehicles_are) is)
