use Rattle.std.proofs.Common.{◌≡◌, ◌++◌, List, ℕ}
use Rattle.std.specs.FinMap as map
use Rattle.std.specs.List.{filter}
use Rattle.agv_stock.specs.declared.place.Place.{Place}
use Rattle.agv_world_lawful.specs.LoadTests.{is_on_vehicle}
use Rattle.agv_world_lawful.proofs.room.loads_on_vehicles.Given as goal

-- what is listed, and what is left, make all
abbrev pub invariant-loop-load : goal.invariant-loop-load
invariant-loop-load l =
    l.loads.items ++ filter (λ (load : List ℕ × Place). is_on_vehicle load.1) l.load-iterator
    ≡ filter (λ (load : List ℕ × Place). is_on_vehicle load.1) (map.entries l.world.loads)
