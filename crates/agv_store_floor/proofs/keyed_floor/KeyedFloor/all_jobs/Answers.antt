use Rattle.agv_store_floor.proofs.Asked.{asked_asks, asked_consistent}
use Rattle.agv_store_floor.proofs.keyed_floor.KeyedFloor.all_jobs.Goals as goal

pub invariant_of-self : goal.invariant_of-self
invariant_of-self g c = asked_consistent g.S.Store c.self.inside.conn c.query_jobs-asked.new.conn c.self.inside.known c.self.inside.failed c.self.inside.in_doubt c.self.invariant c.query_jobs-asked.result _ c.query_jobs-asked.ensures.tells c.note.new.failed c.note.new.in_doubt c.note.ensures.failed c.note.ensures.in_doubt

pub returns : goal.returns
returns g c = asked_asks g.S.Store c.self.inside.conn c.query_jobs-asked.new.conn c.self.inside.known c.self.inside.failed c.self.inside.in_doubt c.self.invariant c.query_jobs-asked.result _ c.query_jobs-asked.ensures.tells c.note.new.failed c.args.self.now c.self.view_is c.note.result c.note.ensures.is c.note.ensures.failed
