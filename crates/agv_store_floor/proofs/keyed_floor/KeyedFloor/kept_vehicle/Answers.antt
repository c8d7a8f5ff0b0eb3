use Rattle.std.proofs.Common.{sym, ◌∙◌}
use Rattle.agv_store_floor.specs.Floors.{world_at}
use Rattle.agv_store_floor.proofs.Asked.{known_seen}
use Rattle.agv_store_floor.proofs.Kept.{if_there}
use Rattle.agv_store_floor.proofs.keyed_floor.KeyedFloor.kept_vehicle.Goals as goal

pub returns : goal.returns
returns g c =
    if_there _ c.kept_row.result (λ vehicle is clean still.
    sym ((known_seen g.S.Store c.self.inside.conn c.self.inside.known c.self.inside.failed c.self.inside.in_doubt c.self.invariant c.args.self.now c.self.view_is clean still).vehicles_are
    c.args.key.now vehicle (sym c.kept_row.ensures ∙ is))
    ∙ c.rows_have_vehicles.ensures (world_at g.S.Store c.args.self.now.held) c.args.key.now)
