use Rattle.std.proofs.Common.{sym}
use Rattle.agv_store_floor.proofs.Asked.{answered_open, asked_asks, asked_consistent}
use Rattle.agv_store_floor.proofs.floor_questions.KeyedFloorFloor.station.Goals as goal

pub returns-in-Some : goal.returns-in-Some
returns-in-Some g c = answered_open g.S.Store c.args.self.now c.settle.new.self c.in_ok-settle.ensures.asks c.in_ok-settle.ensures.knows (λ clean still. sym (c.in-Some.ensures clean still))

pub invariant_of-self : goal.invariant_of-self
invariant_of-self g c = asked_consistent g.S.Store c.self.inside.conn c.query_station-asked.new.conn c.self.inside.known c.self.inside.failed c.self.inside.in_doubt c.self.invariant c.query_station-asked.result _ c.query_station-asked.ensures c.note.new.failed c.note.new.in_doubt c.note.ensures.failed c.note.ensures.in_doubt

pub returns : goal.returns
returns g c = asked_asks g.S.Store c.self.inside.conn c.query_station-asked.new.conn c.self.inside.known c.self.inside.failed c.self.inside.in_doubt c.self.invariant c.query_station-asked.result _ c.query_station-asked.ensures c.note.new.failed c.args.self.now c.self.view_is c.note.result c.note.ensures.is c.note.ensures.failed
