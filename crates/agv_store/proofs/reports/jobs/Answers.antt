use Rattle.std.proofs.Common.{◌≡◌, ℕ, List, ap, ◌∙◌}
use Rattle.agv_count_exports.specs.Exports.{jobs_text, jobs_told, vehicles_told}
use Rattle.agv_count_exports.specs.declared.told.VehicleTold.{VehicleTold}
use Rattle.agv_store_floor.proofs.InTurn.{asked_both}
use Rattle.agv_store_floor.specs.Floors.{world_at}
use Rattle.agv_world_core.specs.Worlds.{World}
use Rattle.agv_world_core.specs.declared.row.JobRow.{JobRow}
use Rattle.agv_store.proofs.reports.jobs.Goals as goal

-- the vehicles are asked for after the jobs, in the same world
pub returns : goal.returns
returns g c =
    let world = world_at g.S.Store c.args.floor.now.held in
    asked_both c.in_ok-jobs.ensures c.in_ok-vehicles.ensures (λ clean jobs vehicles.
    let jobs_are : c.deref.result.now ≡ jobs_told world = c.deref.ensures.value ∙ jobs in
    let vehicles_are : c.deref-2.result.now ≡ vehicles_told world = c.deref-2.ensures.value ∙ (vehicles ∙ ap (λ (w : World). vehicles_told w) (c.in_ok-jobs.ensures.world clean)) in
    c.in_ok-jobs_csv.ensures
    ∙ (ap (λ (told : List (List ℕ × JobRow)). jobs_text told c.deref-2.result.now) jobs_are
    ∙ ap (λ (told : List VehicleTold). jobs_text (jobs_told world) told) vehicles_are))
