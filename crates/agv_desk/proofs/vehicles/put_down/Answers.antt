use Rattle.agv_world_core.proofs.lists.Asking.{retold}
use Rattle.agv_desk.proofs.row_changes.VehicleRows.{put_down_told}
use Rattle.agv_desk.proofs.vehicles.put_down.Goals as goal

pub returns : goal.returns
returns g c =
    retold (λ stopped.
    put_down_told (g.F.Floor.facts.world c.args.floor.now) c.args.key.now c.args.row.now c.args.trip c.args.reference c.args.node _ _ _ _ _ _ _ _ c.made_with.result
    c.placed-next.ensures c.standing-old.ensures c.standing-new.ensures c.new-changes.ensures.items c.in_ok-push_vehicle.ensures
    stopped c.reference_used.ensures c.in_ok-push.ensures.items c.made_with.ensures.answer c.made_with.ensures.changes)
    c.in_ok-push_stopped_jobs.ensures
