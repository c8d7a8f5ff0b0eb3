use Rattle.std.proofs.Common.{◌≡◌, drop}
use Rattle.agv_world_core.specs.Asks.{Answers}
use Rattle.agv_desk.specs.FoundJobs.{AreFound}
use Rattle.agv_desk.specs.OrderSteps.{jobs_for}
use Rattle.agv_desk.proofs.lists.Each.{after}
use Rattle.agv_desk.proofs.order_jobs.jobs_for.Given as goal

abbrev pub invariant-loop-stop : goal.invariant-loop-stop
invariant-loop-stop g l =
    let facts = g.F.Floor.facts in
    let world = facts.world l.initial.floor in
    Answers facts l.initial.floor l.floor ((jobs_for world l.stops ≡ after l.jobs.items (jobs_for world (drop l.stop-index l.stops))) × AreFound world l.jobs.items)
