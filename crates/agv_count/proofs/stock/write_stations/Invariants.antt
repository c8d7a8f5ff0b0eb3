use Rattle.std.proofs.Common.{◌≡◌, ◌++◌, string_bytes, take}
use Rattle.std.specs.List.{flat_map}
use Rattle.agv_header.specs.Name.{name_cmp}
use Rattle.agv_count.specs.Reports.{station_part}
use Rattle.agv_count.specs.LoadsByPlace.{loads_at}
use Rattle.agv_count.proofs.stock.write_stations.Given as goal

abbrev pub invariant-loop-station : goal.invariant-loop-station
invariant-loop-station l =
    string_bytes l.out ≡ string_bytes l.initial.out ++ flat_map (λ s. station_part (loads_at name_cmp l.placed s.0.id) s.0 s.1) (take l.station-index l.stations)
