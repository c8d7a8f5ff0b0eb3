use Rattle.std.proofs.Common.{sym, ◌∙◌}
use Rattle.agv_world_core.specs.Questions.{trip_of}
use Rattle.agv_world_core.specs.Maps.{maps_of}
use Rattle.agv_store_known.proofs.KeptTrips.{no_trip}
use Rattle.agv_store_floor.specs.Floors.{world_at}
use Rattle.agv_store_floor.proofs.Asked.{known_seen}
use Rattle.agv_store_floor.proofs.keyed_floor.KeyedFloor.is_known_without_trip.Goals as goal

pub returns : goal.returns
returns g c known clean still =
    let world = world_at g.S.Store c.args.self.now.held in
    let are = (known_seen g.S.Store c.self.inside.conn c.self.inside.known c.self.inside.failed c.self.inside.in_doubt c.self.invariant c.args.self.now c.self.view_is clean still).trips_are in
    no_trip (maps_of world) c.args.key.now (trip_of world c.args.key.now) (λ trip is. (c.rows_have_trips.ensures world (c.knows.ensures clean still).has.lawful c.args.key.now trip).0 is) (are.1 c.args.key.now (sym c.contains.ensures ∙ known))
