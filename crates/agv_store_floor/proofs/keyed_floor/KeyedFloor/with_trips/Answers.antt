use Rattle.std.proofs.Common.{◌++◌, List, map, ap, sym, append-nil, ◌∙◌}
use Rattle.agv_header.specs.declared.key.VehicleKey.{VehicleKey}
use Rattle.agv_world_core.proofs.lists.Asking.{answers, retold, still_here}
use Rattle.agv_world_core.specs.declared.row.VehicleRow.{VehicleRow}
use Rattle.agv_count_exports.specs.declared.told.VehicleTold.{VehicleTold}
use Rattle.agv_store_floor.specs.Floors.{world_at}
use Rattle.agv_store_floor.specs.ReportLists.{with_trip}
use Rattle.agv_store_floor.proofs.InTurn.{asked_both}
use Rattle.agv_store_floor.proofs.ReportLists.{one_more_vehicle}
use Rattle.agv_store_floor.proofs.keyed_floor.KeyedFloor.with_trips.Goals as goal

pub loop-key-init : goal.loop-key-init
loop-key-init g c =
    let world = world_at g.S.Store c.args.self.now.held in
    answers still_here (λ clean.
    ap (λ (vehicles : List VehicleTold). vehicles ++ map (with_trip world) c.into_iter-key-iterator.result) c.new-vehicles.ensures.items
    ∙ ap (map (with_trip world)) (c.into_iter-key-iterator.ensures.into_iter_gives ∙ c.iter-key-items.ensures))

pub loop-key-preserved : goal.loop-key-preserved
loop-key-preserved g c =
    let world = world_at g.S.Store c.args.self.now.held in
    let so_far = c.loop-key.invariant in
    asked_both so_far c.in_ok-trip.ensures (λ clean before trip.
    one_more_vehicle world _ (c.in-Some.key.now, c.in-Some.row.now) c.in_ok-trip.trip c.loop-key.vehicles.items _ c.next.new.self _ (so_far.world clean) trip c.in_ok-push.ensures.items
    (ap (λ (es : List (VehicleKey × VehicleRow)). c.loop-key.vehicles.items ++ map (with_trip world) es) (sym c.in-Some.ensures.steps) ∙ before))

pub returns : goal.returns
returns g c =
    let world = world_at g.S.Store c.args.self.now.held in
    retold (λ before.
    sym (append-nil c.loop-key.vehicles.items)
    ∙ ap (λ (es : List (VehicleKey × VehicleRow)). c.loop-key.vehicles.items ++ map (with_trip world) es) (sym c.in-None.ensures.steps.0)
    ∙ before) c.loop-key.invariant
