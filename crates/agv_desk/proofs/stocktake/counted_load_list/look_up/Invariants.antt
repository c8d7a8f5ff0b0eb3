use Rattle.std.proofs.Common.{◌≡◌, ◌++◌, drop}
use Rattle.agv_world_core.specs.Asks.{Answers}
use Rattle.agv_desk.specs.CountParts.{Tells, counted_loads}
use Rattle.agv_desk.proofs.stocktake.counted_load_list.look_up.Given as goal

abbrev pub invariant-loop-station : goal.invariant-loop-station
invariant-loop-station g l =
    let facts = g.F.Floor.facts in
    let world = facts.world l.initial.floor in
    Answers facts l.initial.floor l.floor (Tells world l.places → l.counted_list.items ++ counted_loads world (drop l.station-index l.rows) ≡ counted_loads world l.rows)
