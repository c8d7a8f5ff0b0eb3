use Rattle.std.proofs.Common.{sym, ◌∙◌}
use Rattle.agv_world_core.proofs.told_worlds.Telling.{is_used-told}
use Rattle.agv_world_plain.proofs.questions.is_used.Goals as goal

pub returns : goal.returns
returns c = c.contains.ensures ∙ sym (is_used-told c.args.world.now c.args.kind c.args.name)
