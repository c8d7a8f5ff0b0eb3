use Rattle.std.proofs.Common.{◌≡◌, ◌++◌, map}
use Rattle.agv_layout.specs.LayoutOf.{station_row}
use Rattle.agv_layout.proofs.listed.push_stations.Given as goal

abbrev pub invariant-loop-id : goal.invariant-loop-id
invariant-loop-id l = l.rows.items ++ map station_row l.id-iterator ≡ l.fn.rows.items ++ map station_row l.stations.entries
