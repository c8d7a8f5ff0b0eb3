use Rattle.std.proofs.Common.{◌≡◌, None, subst, sym}
use Rattle.agv_world_core.specs.Questions.{trip_of}
use Rattle.agv_world_core.specs.Maps.{maps_of}
use Rattle.agv_store_schema.specs.Connections.{IsClean, IsOpen}
use Rattle.agv_store_known.proofs.KeptTrips.{no_row}
use Rattle.agv_store_known.proofs.Knowing.{with_trips}
use Rattle.agv_store_floor.specs.Floors.{Keyed, world_at}
use Rattle.agv_store_floor.proofs.Asked.{known_so}
use Rattle.agv_store_floor.proofs.keyed_floor.KeyedFloor.keep_no_trip.Goals as goal

pub invariant_of-self : goal.invariant_of-self
invariant_of-self g c =
    let there = subst (λ (desk : Keyed g.row.S.Denot). IsClean g.S.Store desk.held → IsOpen g.S.Store desk.held → trip_of (world_at g.S.Store desk.held) c.args.key.now ≡ None) (sym c.self.view_is) c.requires in
    known_so g.S.Store c.self.inside.conn c.self.inside.known _ c.self.inside.failed c.self.inside.in_doubt c.self.invariant
    (λ clean still is.
    let world = world_at g.S.Store c.self.inside.conn in
    with_trips (c.put_no_trip.ensures (maps_of world)
    (no_row (maps_of world) c.args.key.now (trip_of world c.args.key.now) (λ trip. (c.rows_have_trips.ensures world (c.self.invariant.knows clean still).has.lawful c.args.key.now trip).1) (there clean still))
    is.trips_are) is)
