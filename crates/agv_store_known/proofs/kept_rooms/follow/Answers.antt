use Rattle.std.proofs.Common.{sym, ◌∙◌}
use Rattle.agv_store_known.proofs.KeptRooms.{lowered_left, still_left}
use Rattle.agv_store_known.proofs.kept_rooms.follow.Goals as goal

pub returns-in-Some : goal.returns-in-Some
returns-in-Some c = lowered_left c.args.rooms.now c.lower_at.new.rooms c.args.one.now c.in-Some.station (sym c.takes_room_at.ensures ∙ c.in-Some.is) c.lower_at.ensures

pub returns-in_default : goal.returns-in_default
returns-in_default c = still_left c.args.rooms.now c.args.one.now (sym c.is_of_layout.ensures ∙ c.if-is_of_layout.false) (sym c.takes_room_at.ensures ∙ c.in_default.is)
