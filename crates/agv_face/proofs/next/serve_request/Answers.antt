use Rattle.agv_face.proofs.Serving.{later_still}
use Rattle.agv_face.proofs.next.serve_request.Goals as goal

pub returns-in_err-read_request-clause-later : goal.returns-in_err-read_request-clause-later
returns-in_err-read_request-clause-later g c = later_still g.S.Store c.args.desk.now

pub returns-in-Need-clause-later : goal.returns-in-Need-clause-later
returns-in-Need-clause-later g c = later_still g.S.Store c.args.desk.now

pub returns-in-End-clause-later : goal.returns-in-End-clause-later
returns-in-End-clause-later g c = later_still g.S.Store c.args.desk.now

pub returns-in-Fault-clause-later : goal.returns-in-Fault-clause-later
returns-in-Fault-clause-later g c = later_still g.S.Store c.args.desk.now
