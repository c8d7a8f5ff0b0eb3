use Rattle.std.proofs.Common.{ap, ◌∙◌}
use Rattle.std.specs.FinSet as set
use Rattle.agv_world_core.proofs.lists.Orders.{names_total, names_apart}
use Rattle.agv_world_core.proofs.lists.Shown.{set_insert-shown}
use Rattle.agv_world_core.proofs.tables.names.Names.insert.Goals as goal

pub returns-clause-ok : goal.returns-clause-ok
returns-clause-ok c = set_insert-shown names_total names_apart _ _ _ c.in_ok-insert.ensures.updates.0 ∙ ap (λ s. set.insert s c.args.key) c.self.view_is
