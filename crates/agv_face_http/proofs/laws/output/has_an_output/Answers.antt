use Rattle.std.proofs.Common.{refl}
use Rattle.agv_face_http.proofs.laws.output.has_an_output.Goals as goal

-- src/output_laws.rt:17:1
pub returns : goal.returns
returns c = λ seats world at. let cut = c.has_a_cut.ensures in
    (_, _, record { requests = cut.0; ending = cut.1; cut = cut.2; written = refl; world_is = refl })
