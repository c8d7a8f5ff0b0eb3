use Rattle.agv_store_schema.proofs.Later.{later_by}
use Rattle.agv_face.proofs.Serving.{answered, failed_so, reached, world_left}
use Rattle.agv_face.proofs.reply.serve_call.Goals as goal

pub returns-clause-serves : goal.returns-clause-serves
returns-clause-serves g c clean = answered g.S.Store c.args.desk.now c.serve.new.self c.args.at c.args.call.now c.a_database_tells_its_world.ensures c.serve.result (c.serve.ensures.serves clean)

pub returns-clause-unchanged_on_err : goal.returns-clause-unchanged_on_err
returns-clause-unchanged_on_err g c clean still = world_left g.S.Store c.args.desk.now c.serve.new.self c.args.at c.args.call.now c.serve.result (c.serve.ensures.unchanged_on_err clean still)

pub returns-clause-failed : goal.returns-clause-failed
returns-clause-failed g c = failed_so g.S.Store c.args.desk.now c.serve.new.self c.args.at c.args.call.now c.serve.result c.serve.ensures.ends c.serve.ensures.fails

pub returns-clause-reached : goal.returns-clause-reached
returns-clause-reached g c = reached g.S.Store c.args.desk.now c.serve.new.self c.args.at c.args.call.now c.a_database_tells_its_world.ensures c.serve.result c.serve.ensures.knew c.serve.ensures.serves

pub returns-clause-later : goal.returns-clause-later
returns-clause-later g c = record { later = later_by g.S.Store c.args.desk.now.held c.serve.new.self.held c.serve.ensures.crash; was_open = c.serve.ensures.was_open; stopped = λ failed. (c.serve.ensures.stopped failed).1 }
