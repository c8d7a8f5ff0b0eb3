use Rattle.std.proofs.Common.{◌≡◌, drop}
use Rattle.std.specs.FinMap as map
use Rattle.agv_desk.proofs.stocktakes.FoundLoads.{noted_all}
use Rattle.agv_desk.proofs.stocktake.found.found_loads.Given as goal

abbrev pub invariant-loop-station : goal.invariant-loop-station
invariant-loop-station l = noted_all l.found (drop l.station-index l.rows) ≡ noted_all map.empty l.rows
