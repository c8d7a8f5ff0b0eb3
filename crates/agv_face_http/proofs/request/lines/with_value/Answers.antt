use Rattle.std.proofs.Common.{◌≡◌, ◌≤◌, ◌++◌, ◌∷◌, [], ap, arith, length, length-append}
use Rattle.agv_face_http.proofs.request.lines.with_value.Goals as goal

-- one value and one more are several
pub returns-in-One : goal.returns-in-One
returns-in-One c found are =
    let one : found ≡ c.in-One.field-0.now ∷ [] = rw c.in-One.is at are in
    let several : 2 ≤ length (found ++ c.args.value.now ∷ []) = omega (arith, ap length one, length-append found (c.args.value.now ∷ [])) in
    several
