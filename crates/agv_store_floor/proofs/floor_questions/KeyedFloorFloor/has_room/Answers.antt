use Rattle.std.proofs.Common.{sym}
use Rattle.agv_store_floor.proofs.Asked.{answered_open}
use Rattle.agv_store_floor.proofs.floor_questions.KeyedFloorFloor.has_room.Goals as goal

pub returns-then-keeps_room : goal.returns-then-keeps_room
returns-then-keeps_room g c =
    answered_open g.S.Store c.args.self.now c.settle.new.self c.in_ok-settle.ensures.asks c.in_ok-settle.ensures.knows (λ clean still. sym (c.keeps_room.ensures c.if-keeps_room.true clean still))
