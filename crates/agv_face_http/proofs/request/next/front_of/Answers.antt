use Rattle.std.proofs.Common.{◌≡◌, ℕ, take, min, length, ap, ◌∙◌, arith}
use Rattle.std.proofs.lemmas.List.{take_min}
use Rattle.agv_face_http.proofs.request.next.front_of.Goals as goal

pub returns-clause-front : goal.returns-clause-front
returns-clause-front c =
    let n : c.min.result ≡ min 8192 (length c.args.buf.now) = omega arith in
    ap (λ (k : ℕ). take k c.args.buf.now) n ∙ take_min 8192 c.args.buf.now
