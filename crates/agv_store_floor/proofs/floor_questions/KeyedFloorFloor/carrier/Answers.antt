use Rattle.std.proofs.Common.{◌∙◌}
use Rattle.agv_world_core.proofs.lists.Asking.{retold}
use Rattle.agv_store_floor.specs.Floors.{world_at}
use Rattle.agv_store_floor.proofs.floor_questions.KeyedFloorFloor.carrier.Goals as goal

pub returns : goal.returns
returns g c = retold (λ is. c.carrier.ensures.of_all (world_at g.S.Store c.args.self.now.held) (c.deref.ensures.value ∙ is)) c.in_ok-vehicles.ensures
