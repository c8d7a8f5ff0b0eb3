use Rattle.std.proofs.Common.{◌≡◌, ap, subst, sym, ◌∙◌}
use Rattle.agv_world_core.specs.Asks.{Answers}
use Rattle.agv_world_core.specs.Worlds.{World}
use Rattle.agv_world_core.proofs.lists.Asking.{retold}
use Rattle.agv_count_exports.specs.Exports.{jobs_told}
use Rattle.agv_store_known.specs.KeptJobs.{AreLive}
use Rattle.agv_store_known.proofs.KeptJobs.{live_entries}
use Rattle.agv_store_floor.specs.Floors.{Keyed, facts_of, world_at}
use Rattle.agv_store_floor.proofs.Asked.{answered_open}
use Rattle.agv_store_floor.proofs.Kept.{if_some}
use Rattle.agv_store_floor.proofs.keyed_floor.KeyedFloor.jobs_told.Goals as goal

pub returns-in-Some : goal.returns-in-Some
returns-in-Some g c =
    answered_open g.S.Store c.args.self.now c.settle.new.self c.in_ok-settle.ensures.asks c.in_ok-settle.ensures.knows
    (if_some _ c.in_ok-kept.kept c.in-Some.jobs c.in-Some.is c.in_ok-kept.ensures)

pub keep_jobs-requires : goal.keep_jobs-requires
keep_jobs-requires g c clean _ = subst (AreLive c.in_ok-live.live) (c.in_ok-table.ensures.told clean ∙ ap (λ (w : World). w.jobs) (sym (c.in_ok-table.ensures.world clean))) c.in_ok-live.ensures

pub returns : goal.returns
returns g c =
    let world = world_at g.S.Store c.args.self.now.held in
    subst (λ (desk : Keyed g.row.S.Denot). Answers (facts_of g.S.Store) c.args.self.now desk (c.in_ok-jobs.jobs.items ≡ jobs_told world)) (sym c.keep_jobs.ensures)
    (retold (λ is. c.in_ok-jobs.ensures ∙ live_entries c.in_ok-live.live world.jobs (subst (AreLive c.in_ok-live.live) is c.in_ok-live.ensures)) c.in_ok-table.ensures)
