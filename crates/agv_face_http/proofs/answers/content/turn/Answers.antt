use Rattle.agv_face_http.proofs.answers.Turning.{turned_slice}
use Rattle.agv_face_http.proofs.answers.content.turn.Goals as goal

pub returns-clause-items : goal.returns-clause-items
returns-clause-items c = turned_slice c.args.out.now _ _ _ _ c.deref_mut.ensures.value c.requires c.rotate_left.ensures.after
