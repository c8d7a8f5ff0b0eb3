use Rattle.std.proofs.Common.{ap, is_some, sym}
use Rattle.agv_store_floor.proofs.Asked.{answered_open}
use Rattle.agv_store_floor.proofs.floor_questions.KeyedFloorFloor.has_trip.Goals as goal

pub returns-then-is_known_without_trip : goal.returns-then-is_known_without_trip
returns-then-is_known_without_trip g c =
    answered_open g.S.Store c.args.self.now c.settle.new.self c.in_ok-settle.ensures.asks c.in_ok-settle.ensures.knows (λ clean still. ap is_some (sym (c.is_known_without_trip.ensures c.if-is_known_without_trip.true clean still)))
