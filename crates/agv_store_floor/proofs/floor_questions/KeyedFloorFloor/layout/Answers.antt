use Rattle.std.proofs.Common.{◌≡◌, Some, ap, sym, ◌∙◌}
use Rattle.agv_layout.specs.Layout.{Layout}
use Rattle.agv_world_core.specs.Questions.{layout_set}
use Rattle.agv_store_schema.specs.Connections.{IsClean, IsOpen}
use Rattle.agv_store_floor.specs.Floors.{world_at}
use Rattle.agv_store_floor.proofs.Asked.{answered_open}
use Rattle.agv_store_floor.proofs.Kept.{if_some}
use Rattle.agv_store_floor.proofs.floor_questions.KeyedFloorFloor.layout.Goals as goal

pub returns-in-Some : goal.returns-in-Some
returns-in-Some g c =
    answered_open g.S.Store c.args.self.now c.settle.new.self c.in_ok-settle.ensures.asks c.in_ok-settle.ensures.knows
    (if_some (λ (layout : Layout). IsClean g.S.Store c.args.self.now.held → IsOpen g.S.Store c.args.self.now.held → Some layout ≡ layout_set (world_at g.S.Store c.args.self.now.held))
    c.in_ok-kept.kept c.in-Some.kept c.in-Some.is c.in_ok-kept.ensures)

pub keep_layout-requires : goal.keep_layout-requires
keep_layout-requires g c clean _ = c.in_ok-layout.ensures.told clean ∙ ap layout_set (sym (c.in_ok-layout.ensures.world clean))
