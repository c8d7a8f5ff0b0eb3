use Rattle.std.proofs.Common.{◌+◌, ◌-◌, ◌≤◌, arith, sym, ◌∙◌}
use Rattle.agv_store_known.proofs.KeptRooms.{put_or_forgotten}
use Rattle.agv_store_known.proofs.kept_rooms.lower_at.Goals as goal

pub returns-then-room-gt1 : goal.returns-then-room-gt1
returns-then-room-gt1 c =
    let lower : c.in-Some.room - 1 + 1 ≤ c.in-Some.room = omega (arith, c.if-room-gt1.true) in
    put_or_forgotten c.args.rooms.now c.insert-kept.new.self c.args.station c.remove.new.self c.in-Some.room _ lower (sym c.remove.ensures.value ∙ c.in-Some.is) c.remove.ensures.updates.0
    c.insert-kept.result c.insert-kept.ensures.updates c.insert-kept.ensures.err
