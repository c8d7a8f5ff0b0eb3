use Rattle.std.proofs.Common.{refl}
use Rattle.agv_face.proofs.counting_io.CountingIo.calls.Goals as goal

pub returns : goal.returns
returns g c = refl
