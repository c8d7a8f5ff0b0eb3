use Rattle.std.proofs.lemmas.Option.{IfSome_then}
use Rattle.agv_store_floor.specs.Floors.{world_at}
use Rattle.agv_store_floor.proofs.Asked.{known_seen}
use Rattle.agv_store_floor.proofs.Kept.{agrees_with}
use Rattle.agv_store_floor.proofs.keyed_floor.KeyedFloor.kept_station.Goals as goal

pub returns : goal.returns
returns g c =
    IfSome_then c.known_station.result c.known_station.ensures.agrees (λ site so clean still. so (world_at g.S.Store c.args.self.now.held)
    (agrees_with c.self.inside.known.layout (world_at g.S.Store c.args.self.now.held) (known_seen g.S.Store c.self.inside.conn c.self.inside.known c.self.inside.failed c.self.inside.in_doubt c.self.invariant c.args.self.now c.self.view_is clean still).agrees))
