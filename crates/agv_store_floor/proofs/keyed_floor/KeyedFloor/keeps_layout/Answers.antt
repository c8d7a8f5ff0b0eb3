use Rattle.std.proofs.Common.{ap, is_some, sym}
use Rattle.agv_store_known.proofs.KeptLayout.{agreed_layout, is_set}
use Rattle.agv_store_floor.specs.Floors.{world_at}
use Rattle.agv_store_floor.proofs.Asked.{known_seen}
use Rattle.agv_store_floor.proofs.keyed_floor.KeyedFloor.keeps_layout.Goals as goal

pub returns-in-Some : goal.returns-in-Some
returns-in-Some g c known clean still =
    let world = world_at g.S.Store c.args.self.now.held in
    let agrees = (known_seen g.S.Store c.self.inside.conn c.self.inside.known c.self.inside.failed c.self.inside.in_doubt c.self.invariant c.args.self.now c.self.view_is clean still).agrees in
    ap is_some (sym (is_set c.gives_itself.ensures world c.in-Some.layout c.layout_law.ensures (agreed_layout c.self.inside.known.layout world c.in-Some.layout c.in-Some.is agrees)))
