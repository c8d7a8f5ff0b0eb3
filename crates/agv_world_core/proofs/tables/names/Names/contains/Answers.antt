use Rattle.std.proofs.Common.{sym, ap, ◌∙◌}
use Rattle.std.specs.FinSet as set
use Rattle.agv_world_core.proofs.lists.Orders.{names_total}
use Rattle.agv_world_core.proofs.lists.Shown.{contains-shown}
use Rattle.agv_world_core.proofs.tables.names.Names.contains.Goals as goal

pub returns : goal.returns
returns c = c.contains.ensures ∙ sym (contains-shown names_total _ _) ∙ ap (λ s. set.contains s c.args.key) c.self.view_is
