use Rattle.agv_world_core.proofs.lawful_worlds.StockInvariantMade.{stock_made}
use Rattle.agv_world_core.proofs.lawful_worlds.StockInvariantTold.{loads_told}
use Rattle.agv_world_core.proofs.lawful_worlds.CapacityCounts.{StopLaws}
use Rattle.agv_world_core.proofs.lawful_laws.loads_meet_invariant.Goals as goal

pub returns : goal.returns
returns c = λ seats world vehicles. (stock_made stops world vehicles, loads_told stops world vehicles)
  where
    stops : StopLaws
    stops = record { said = c.pairs_as_said.ensures; twice = c.stops_twice.ensures }
