use Rattle.std.proofs.Common.{ap}
use Rattle.sqlite.specs.Held.{state}
use Rattle.agv_desk.specs.declared.answer.Answer.TheVariants as answer
use Rattle.agv_store_floor.specs.Floors.{world_at}
use Rattle.agv_face.proofs.Serving.{crash_by, reached_by, reached_none, refused_so, survives_still}
use Rattle.agv_face.proofs.reply.answer_to.Goals as goal

-- the request is refused before it is a call
pub returns-in-Err-Refused-clause-serves : goal.returns-in-Err-Refused-clause-serves
returns-in-Err-Refused-clause-serves g c clean = refused_so (world_at g.S.Store c.args.desk.now.held) c.args.at _ c.in-Err-Refused.why _ (rw c.in-Err-Refused.field-0-is at c.in-Err-Refused.ensures.err) (ap answer.Refused c.in-Err-Refused.why-is)

pub returns-in-Err-Refused-clause-reached : goal.returns-in-Err-Refused-clause-reached
returns-in-Err-Refused-clause-reached g c = reached_none g.S.Store c.args.desk.now _ c.in-Err-Refused.why (rw c.in-Err-Refused.field-0-is at c.in-Err-Refused.ensures.err)

pub returns-in-Err-Refused-clause-crash : goal.returns-in-Err-Refused-clause-crash
returns-in-Err-Refused-clause-crash g c = survives_still (state g.S.Store c.args.desk.now.held) _

pub returns-in-Err-Memory-clause-crash : goal.returns-in-Err-Memory-clause-crash
returns-in-Err-Memory-clause-crash g c = survives_still (state g.S.Store c.args.desk.now.held) _

-- the request is a call
pub returns-in-Ok-clause-reached : goal.returns-in-Ok-clause-reached
returns-in-Ok-clause-reached g c = reached_by g.S.Store c.args.desk.now c.serve_call.new.desk _ c.in-Ok.call c.in-Ok.ensures.ok c.serve_call.result c.serve_call.ensures.reached

pub returns-in-Ok-clause-crash : goal.returns-in-Ok-clause-crash
returns-in-Ok-clause-crash g c = crash_by g.S.Store c.args.desk.now c.serve_call.new.desk _ c.in-Ok.call c.in-Ok.ensures.ok c.args.at c.serve_call.ensures.crash
