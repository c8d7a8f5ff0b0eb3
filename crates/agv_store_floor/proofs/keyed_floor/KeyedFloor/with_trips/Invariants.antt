use Rattle.std.proofs.Common.{◌≡◌, ◌++◌, map}
use Rattle.std.specs.FinMap as finite
use Rattle.agv_world_core.specs.Asks.{Answers}
use Rattle.agv_store_floor.specs.Floors.{facts_of, world_at}
use Rattle.agv_store_floor.specs.ReportLists.{with_trip}
use Rattle.agv_store_floor.proofs.keyed_floor.KeyedFloor.with_trips.Given as goal

-- the vehicles so far, with what is left, are all
abbrev pub invariant-loop-key : goal.invariant-loop-key
invariant-loop-key g l =
    let world = world_at g.S.Store l.initial.self.held in
    Answers (facts_of g.S.Store) l.initial.self l.self (l.vehicles.items ++ map (with_trip world) l.key-iterator ≡ map (with_trip world) (finite.entries l.table))
