use Rattle.agv_world_core.proofs.lawful_worlds.LawfulOrder.{empty_lawful}
use Rattle.agv_world_core.proofs.lawful_laws.begins_lawful.Goals as goal

pub returns : goal.returns
returns c = empty_lawful
