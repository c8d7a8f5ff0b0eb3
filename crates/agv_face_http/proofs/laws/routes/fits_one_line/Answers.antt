use Rattle.agv_face_http.specs.routing.Table.{table}
use Rattle.agv_face_http.proofs.routing.Apart.{names-clash, apart-pairs}
use Rattle.agv_face_http.proofs.routing.RouterLines.{table-apart}
use Rattle.agv_face_http.proofs.laws.routes.fits_one_line.Goals as goal

pub returns : goal.returns
returns c = λ segments i j d k l f g. apart-pairs table i j d table-apart k l (names-clash _ _ segments f g)
