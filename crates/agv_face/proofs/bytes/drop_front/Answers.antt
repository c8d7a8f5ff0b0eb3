use Rattle.std.proofs.Common.{◌≡◌, ◌-◌, ◌∙◌, ap₂, arith, length, take, drop}
use Rattle.std.proofs.Math.ListN.{length-drop}
use Rattle.std.proofs.Math.Seq.{take-append_seam}
use Rattle.agv_face.proofs.bytes.drop_front.Goals as goal

-- what stands behind the first bytes stays
pub returns-clause-items : goal.returns-clause-items
returns-clause-items c =
    let all = c.args.buf.now.items in
    let left : c.len.result - c.args.n ≡ length (drop c.args.n all) = omega (arith, c.len.ensures, c.rotate_left.ensures.len, c.args.buf.now.ok.0, length-drop c.args.n all) in
    c.truncate.ensures.items ∙ ap₂ take left c.rotate_left.ensures.items ∙ take-append_seam (drop c.args.n all) (take c.args.n all)
