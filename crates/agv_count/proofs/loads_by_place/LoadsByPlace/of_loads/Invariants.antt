use Rattle.std.proofs.Common.{◌≡◌, ℕ, List, take}
use Rattle.agv_header.specs.Key.{key_cmp}
use Rattle.agv_header.specs.Name.{name_cmp}
use Rattle.agv_header.specs.declared.key.VehicleKey.{VehicleKey}
use Rattle.agv_count.specs.Reports.{loads_where}
use Rattle.agv_stock.specs.Rooms.{is_at as is_at_station, is_on, is_checking}
use Rattle.agv_count.specs.LoadsByPlace.{loads_at}
use Rattle.agv_count.proofs.loads_by_place.LoadsByPlace.of_loads.Given as goal

abbrev pub invariant-loop-load : goal.invariant-loop-load
invariant-loop-load l = record {
  stations : (id : List ℕ) → loads_at name_cmp l.by_place.stations id ≡ loads_where (is_at_station id) (take l.load-index l.loads);
  vehicles : (key : VehicleKey) → loads_at key_cmp l.by_place.vehicles key ≡ loads_where (is_on key) (take l.load-index l.loads);
  checking : l.by_place.checking.items ≡ loads_where is_checking (take l.load-index l.loads);
}
