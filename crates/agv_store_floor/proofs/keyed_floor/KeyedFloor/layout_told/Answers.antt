use Rattle.std.proofs.Common.{ap, ◌∙◌}
use Rattle.agv_world_core.proofs.lists.Asking.{retold}
use Rattle.agv_store_floor.specs.Floors.{world_at}
use Rattle.agv_store_floor.specs.ReportLists.{rows_of}
use Rattle.agv_store_floor.proofs.ReportLists.{rows_given}
use Rattle.agv_store_floor.proofs.keyed_floor.KeyedFloor.layout_told.Goals as goal

pub returns : goal.returns
returns g c =
    retold (λ is lawful. c.in_ok-rows.ensures ∙ ap rows_of is ∙ rows_given c.gives_itself.ensures c.needs_a_node.ensures (world_at g.S.Store c.args.self.now.held) lawful.limits.laid) c.in_ok-layout.ensures
