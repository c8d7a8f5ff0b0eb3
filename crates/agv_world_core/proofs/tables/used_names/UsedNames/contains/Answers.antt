use Rattle.std.proofs.Common.{sym, ap, ◌∙◌}
use Rattle.std.specs.FinSet as set
use Rattle.agv_world_core.specs.KeyOrders.{use_cmp-total}
use Rattle.agv_world_core.proofs.lists.Shown.{contains-shown}
use Rattle.agv_world_core.proofs.tables.used_names.UsedNames.contains.Goals as goal

pub returns : goal.returns
returns c = c.contains.ensures ∙ sym (contains-shown use_cmp-total _ _) ∙ ap (λ s. set.contains s c.args.key) c.self.view_is
