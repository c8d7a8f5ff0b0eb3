use Rattle.std.proofs.Common.{map, refl}
use Rattle.agv_world_core.specs.declared.change.Change.TheVariants as row
use Rattle.agv_desk.specs.ActSteps.{act_moves}
use Rattle.agv_desk.specs.Outcomes.{Move}
use Rattle.agv_desk.proofs.lists.Pairs.{all_made, no_more}
use Rattle.agv_desk.proofs.acts.push_moves.Goals as goal

pub returns : goal.returns
returns c = λ order.
    let over = no_more c.loop-act.act-iterator c.next.new.self c.next.result c.in-None.is c.next.ensures.steps in
    all_made (λ acts. map (λ (move : Move). row.Load move.load move.place) (act_moves c.args.key.now order acts)) _ _ _ refl over (c.loop-act.invariant order)
