use Rattle.std.proofs.Common.{◌≡◌, ◌++◌, string_bytes, take}
use Rattle.std.specs.List.{flat_map}
use Rattle.agv_header.specs.Key.{key_cmp}
use Rattle.agv_count.specs.Reports.{vehicle_part}
use Rattle.agv_count.specs.LoadsByPlace.{loads_at}
use Rattle.agv_count.proofs.stock.write_vehicles.Given as goal

abbrev pub invariant-loop-key : goal.invariant-loop-key
invariant-loop-key l =
    string_bytes l.out ≡ string_bytes l.initial.out ++ flat_map (λ key. vehicle_part (loads_at key_cmp l.placed key) key) (take l.key-index l.vehicles)
