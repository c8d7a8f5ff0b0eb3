use Rattle.agv_world_core.specs.Maps.{maps_of}
use Rattle.agv_store_known.proofs.KeptRooms.{one_fits}
use Rattle.agv_store_floor.specs.Floors.{world_at}
use Rattle.agv_store_floor.proofs.Asked.{known_seen}
use Rattle.agv_store_floor.proofs.keyed_floor.KeyedFloor.keeps_room.Goals as goal

pub returns : goal.returns
returns g c has clean still =
    let world = world_at g.S.Store c.args.self.now.held in
    one_fits world c.args.station (c.is_some_left.ensures has (maps_of world)
    (known_seen g.S.Store c.self.inside.conn c.self.inside.known c.self.inside.failed c.self.inside.in_doubt c.self.invariant c.args.self.now c.self.view_is clean still).fits)
