use Rattle.std.proofs.Common.{sym, ◌∙◌}
use Rattle.agv_world_core.proofs.told_worlds.Telling.{row_of-told}
use Rattle.agv_world_core.proofs.world.World.vehicle.Goals as goal

pub returns : goal.returns
returns c = c.copied.ensures ∙ c.get.ensures ∙ sym (row_of-told c.args.self.now c.args.key)
