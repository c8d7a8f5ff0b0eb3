use Rattle.std.proofs.Common.{◌∙◌}
use Rattle.agv_store_known.proofs.KeptJobs.{kept_live, live_entries}
use Rattle.agv_store_floor.specs.Floors.{world_at}
use Rattle.agv_store_floor.proofs.Asked.{known_seen}
use Rattle.agv_store_floor.proofs.keyed_floor.KeyedFloor.kept_jobs.Goals as goal

pub returns-in_ok-jobs-in-Some : goal.returns-in_ok-jobs-in-Some
returns-in_ok-jobs-in-Some g c clean still =
    let world = world_at g.S.Store c.args.self.now.held in
    let are = (known_seen g.S.Store c.self.inside.conn c.self.inside.known c.self.inside.failed c.self.inside.in_doubt c.self.invariant c.args.self.now c.self.view_is clean still).jobs_are in
    c.in_ok-jobs-in-Some.ensures ∙ live_entries c.in-Some.live world.jobs (kept_live c.self.inside.known.jobs c.in-Some.live _ c.in-Some.is are)
