use Rattle.std.proofs.Common.{◌≡◌, ◌++◌, List, ℕ}
use Rattle.std.specs.FinMap as map
use Rattle.std.specs.List.{filter}
use Rattle.std.specs.Map.{keys_of}
use Rattle.agv_stock.specs.Rooms.{is_at}
use Rattle.agv_stock.specs.declared.place.Place.{Place}
use Rattle.agv_world_plain.proofs.questions.loads_at.Given as goal

-- what is listed, and what is left, make all
abbrev pub invariant-loop-load : goal.invariant-loop-load
invariant-loop-load l =
    l.loads.items ++ keys_of (filter (λ (load : List ℕ × Place). is_at l.station load.1) l.load-iterator)
    ≡ keys_of (filter (λ (load : List ℕ × Place). is_at l.station load.1) (map.entries l.world.loads))
