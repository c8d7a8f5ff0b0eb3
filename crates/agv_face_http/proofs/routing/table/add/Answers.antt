use Rattle.agv_face_http.specs.routing.Table.{entry}
use Rattle.agv_face_http.proofs.routing.Inserting.{lacks_memory, puts-in}
use Rattle.agv_face_http.proofs.routing.table.add.Goals as goal

pub lack_of-requires : goal.lack_of-requires
lack_of-requires c = lacks_memory (entry c.args.method c.args.path.now c.args.kind) _ _ _ c.requires c.in-Err.ensures

pub returns-in-Ok : goal.returns-in-Ok
returns-in-Ok c = puts-in (entry c.args.method c.args.path.now c.args.kind) _ _ _ c.in-Ok.ensures
