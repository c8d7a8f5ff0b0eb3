use Rattle.std.proofs.Common.{arith}
use Rattle.agv_face.proofs.Exits.{no_memory_reserved, no_memory_counted}
use Rattle.agv_face.proofs.Serving.{later_still}
use Rattle.agv_face.proofs.stream.serve_stream_within.Goals as goal

-- no memory could be reserved
pub returns-in-Err-clause-ends : goal.returns-in-Err-clause-ends
returns-in-Err-clause-ends g c =
    no_memory_reserved g.S.Store g.R.Read.remaining g.W.Write.contents c.args.at c.args.max_reads c.args.desk.now c.args.reader.now c.args.writer.now c.refuse.new.writer c.hears_how_it_goes_on.ensures c.knows.ensures c.refuse.result c.refuse.ensures c.crashes_leave_before_or_after.ensures.known c.answers_in_turn.ensures.world

pub returns-in-Err-clause-reads : goal.returns-in-Err-clause-reads
returns-in-Err-clause-reads g c = omega (arith, c.calls-calls.ensures, c.calls-calls.type_inv)

pub returns-in-Err-clause-counts : goal.returns-in-Err-clause-counts
returns-in-Err-clause-counts g c =
    no_memory_counted g.S.Store g.R.Read.remaining g.W.Write.contents c.args.at c.args.max_reads c.args.desk.now c.args.reader.now c.args.writer.now c.refuse.new.writer c.hears_how_it_goes_on.ensures c.knows.ensures c.refuse.result c.refuse.ensures c.crashes_leave_before_or_after.ensures.known c.answers_in_turn.ensures.world

pub returns-in-Err-clause-later : goal.returns-in-Err-clause-later
returns-in-Err-clause-later g c = later_still g.S.Store c.args.desk.now
