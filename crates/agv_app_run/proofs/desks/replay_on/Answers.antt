use Rattle.std.proofs.Common.{arith, subst}
use Rattle.agv_face.specs.StreamEnd.{IsStreamEnd}
use Rattle.agv_app_run.specs.Runs.{stream_reads}
use Rattle.agv_app_run.proofs.desks.replay_on.Goals as goal

pub returns : goal.returns
returns g c =
    let moment = c.in_ok-at.ensures.moment in
    let stream = subst (λ ms. IsStreamEnd g.S.Store g.R.Read.remaining g.W.Write.contents ms stream_reads c.args.desk.now c.serve_stream.new.desk c.args.reader.now c.serve_stream.new.reader c.args.writer.now c.serve_stream.new.writer c.serve_stream.result)
    moment.0 c.serve_stream.ensures.ends in (
      λ early. record { desk_then = c.serve_stream.new.desk; ended = c.serve_stream.result; stream = stream; end_is = c.end_of.ensures },
      λ late. absurd (omega (arith, late, moment.1)),
    )
