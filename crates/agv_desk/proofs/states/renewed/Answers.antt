use Rattle.std.proofs.Common.{map, refl}
use Rattle.agv_track.specs.Reports.{with_status}
use Rattle.agv_desk.proofs.lists.Pairs.{all_made, no_more}
use Rattle.agv_desk.proofs.states.renewed.Goals as goal

pub returns : goal.returns
returns c =
    let over = no_more c.loop-act.act-iterator c.next.new.self c.next.result c.in-None.is c.next.ensures.steps in
    all_made (map with_status) _ _ _ refl over c.loop-act.invariant
