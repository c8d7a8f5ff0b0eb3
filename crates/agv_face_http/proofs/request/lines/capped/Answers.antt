use Rattle.agv_face_http.proofs.request.Digits.{capped_step}
use Rattle.agv_face_http.proofs.request.lines.capped.Goals as goal

pub loop-digit-preserved : goal.loop-digit-preserved
loop-digit-preserved c = capped_step c.args.digits.now c.loop-digit.digit-index c.loop-digit.n _ c.requires c.loop-digit-test.true c.loop-digit.invariant (c.min-n.ensures)
