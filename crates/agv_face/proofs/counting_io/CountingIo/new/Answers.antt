use Rattle.std.proofs.Common.{refl}
use Rattle.agv_face.proofs.counting_io.CountingIo.new.Goals as goal

pub returns-clause-calls : goal.returns-clause-calls
returns-clause-calls g c = refl
