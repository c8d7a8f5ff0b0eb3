use Rattle.std.proofs.Common.{sym}
use Rattle.agv_store_floor.proofs.Asked.{answered_open}
use Rattle.agv_store_floor.proofs.floor_questions.KeyedFloorFloor.has_layout.Goals as goal

pub returns-then-keeps_layout : goal.returns-then-keeps_layout
returns-then-keeps_layout g c =
    answered_open g.S.Store c.args.self.now c.settle.new.self c.in_ok-settle.ensures.asks c.in_ok-settle.ensures.knows (λ clean still. sym (c.keeps_layout.ensures c.if-keeps_layout.true clean still))
