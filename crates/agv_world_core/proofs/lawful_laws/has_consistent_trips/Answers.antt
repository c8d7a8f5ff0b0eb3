use Rattle.agv_world_core.proofs.lawful_worlds.LawfulOrder.{consistent_trips}
use Rattle.agv_world_core.proofs.lawful_laws.has_consistent_trips.Goals as goal

pub returns : goal.returns
returns c = consistent_trips
