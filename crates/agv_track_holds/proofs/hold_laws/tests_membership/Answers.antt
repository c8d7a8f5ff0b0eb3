use Rattle.agv_track_holds.proofs.Members.{is_member}
use Rattle.agv_track_holds.proofs.hold_laws.tests_membership.Goals as goal

pub returns : goal.returns
returns c = is_member
