use Rattle.std.proofs.Common.{◌≡◌, Some, sym}
use Rattle.agv_order.specs.declared.trip.Trip.{Trip}
use Rattle.agv_world_core.specs.Questions.{trip_of}
use Rattle.agv_store_schema.specs.Connections.{IsClean, IsOpen}
use Rattle.agv_store_floor.specs.Floors.{world_at}
use Rattle.agv_store_floor.proofs.Asked.{answered_open}
use Rattle.agv_store_floor.proofs.Kept.{if_some}
use Rattle.agv_store_floor.proofs.floor_questions.KeyedFloorFloor.trip.Goals as goal

pub returns-in-Some : goal.returns-in-Some
returns-in-Some g c =
    answered_open g.S.Store c.args.self.now c.settle.new.self c.in_ok-settle.ensures.asks c.in_ok-settle.ensures.knows
    (if_some (λ (trip : Trip). IsClean g.S.Store c.args.self.now.held → IsOpen g.S.Store c.args.self.now.held → Some trip ≡ trip_of (world_at g.S.Store c.args.self.now.held) c.args.key)
    c.in_ok-kept.kept c.in-Some.kept c.in-Some.is c.in_ok-kept.ensures)

pub returns-then-is_known_without_trip : goal.returns-then-is_known_without_trip
returns-then-is_known_without_trip g c =
    answered_open g.S.Store c.args.self.now c.settle-then-is_known_without_trip.new.self c.in_ok-settle-2.ensures.asks c.in_ok-settle-2.ensures.knows (λ clean still. sym (c.is_known_without_trip.ensures c.if-is_known_without_trip.true clean still))
