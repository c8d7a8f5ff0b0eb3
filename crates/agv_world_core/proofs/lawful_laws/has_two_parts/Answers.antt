use Rattle.agv_world_core.proofs.LawfulInParts.{lawful_by, loads_of, vehicles_of}
use Rattle.agv_world_core.proofs.lawful_laws.has_two_parts.Goals as goal

pub returns : goal.returns
returns c seats world = (λ lawful. (vehicles_of lawful, loads_of lawful), λ parts. lawful_by parts.0 parts.1)
