use Rattle.agv_desk.proofs.stocktakes.FoundLoads.{all_found, found_twice}
use Rattle.agv_desk.proofs.stocktake.found.found_loads.Goals as goal

pub returns : goal.returns
returns c = all_found _ _ _ c.loop-station-test.false c.loop-station.invariant

pub returns-then-not-branch : goal.returns-then-not-branch
returns-then-not-branch c =
    found_twice c.args.rows.now c.loop-station.found c.loop-station.station-index c.loop-station-item.result (c.in_ok-note_load.field-0, c.note_load.new.found) c.loop-station-test.true c.loop-station-item.is c.in_ok-note_load.ensures c.if-not-branch.true c.loop-station.invariant
