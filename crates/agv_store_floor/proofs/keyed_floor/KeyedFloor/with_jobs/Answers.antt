use Rattle.std.proofs.Common.{◌++◌, ◌∷◌, [], ap, ◌∙◌}
use Rattle.agv_layout.specs.declared.station.Station.{Station}
use Rattle.agv_store_floor.proofs.InTurn.{asked_both}
use Rattle.agv_store_floor.proofs.ReportLists.{one_more_station}
use Rattle.agv_store_floor.proofs.keyed_floor.KeyedFloor.with_jobs.Goals as goal

pub loop-id-preserved : goal.loop-id-preserved
loop-id-preserved g c =
    let so_far = c.loop-id.invariant in
    asked_both so_far c.in_ok-jobs.ensures (λ clean before jobs. one_more_station _ _ c.args.sites.now c.loop-id.id-index c.loop-id-item.result _ _ _ (so_far.world clean) c.loop-id-test.true c.loop-id-item.is jobs (c.in_ok-push.ensures.items ∙ ap (λ (station : Station). c.loop-id.stations.items ++ (station, c.in_ok-jobs.jobs) ∷ []) c.station_of.ensures) before)
