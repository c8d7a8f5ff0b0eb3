use Rattle.std.proofs.Common.{ℕ, ◌==◌, ◌&&◌, ◌∙◌, not, length, sym, ap}
use Rattle.agv_face.proofs.counting_io.took_none.Goals as goal

pub returns-then-n-eq0 : goal.returns-then-n-eq0
returns-then-n-eq0 c = ap not c.is_empty.ensures ∙ sym (ap (λ (n : ℕ). n == 0 && not (length c.args.bytes.now == 0)) c.if-n-eq0.true)
