use Rattle.agv_store_floor.proofs.Asked.{answered_open}
use Rattle.agv_store_floor.proofs.floor_questions.KeyedFloorFloor.vehicle.Goals as goal

pub returns-in-Some : goal.returns-in-Some
returns-in-Some g c = answered_open g.S.Store c.args.self.now c.settle.new.self c.in_ok-settle.ensures.asks c.in_ok-settle.ensures.knows c.in-Some.ensures
