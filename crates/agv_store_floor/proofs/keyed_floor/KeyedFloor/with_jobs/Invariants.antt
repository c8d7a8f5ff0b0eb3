use Rattle.std.proofs.Common.{◌≡◌, ◌++◌, map, drop}
use Rattle.agv_world_core.specs.Asks.{Answers}
use Rattle.agv_world_core.specs.Lawful.{IsLawful}
use Rattle.agv_store_schema.specs.SchemaNumbers.{desk_seats}
use Rattle.agv_store_floor.specs.Floors.{facts_of, world_at}
use Rattle.agv_store_floor.proofs.ReportLists.{with_jobs_to}
use Rattle.agv_store_floor.proofs.keyed_floor.KeyedFloor.with_jobs.Given as goal

-- the stations so far, with what is left, are all
abbrev pub invariant-loop-id : goal.invariant-loop-id
invariant-loop-id g l =
    let world = world_at g.S.Store l.initial.self.held in
    Answers (facts_of g.S.Store) l.initial.self l.self (IsLawful desk_seats world → l.stations.items ++ map (with_jobs_to world) (drop l.id-index l.sites) ≡ map (with_jobs_to world) l.sites)
