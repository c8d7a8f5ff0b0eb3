use Rattle.std.proofs.Common.{◌≡◌, ◌++◌, ℕ, true, List, map, drop}
use Rattle.agv_world_core.specs.Asks.{Answers}
use Rattle.agv_world_core.specs.declared.change.Change.TheVariants as row
use Rattle.agv_world_core.specs.declared.row.JobRow.{JobRow}
use Rattle.agv_desk.specs.ActSteps.{act_jobs, as_it_is}
use Rattle.agv_desk.proofs.acts.stop_acts.Given as goal

abbrev pub invariant-loop-act : goal.invariant-loop-act
invariant-loop-act g l =
    let facts = g.F.Floor.facts in
    let world = facts.world l.initial.floor in
    let jobs = λ (job : List ℕ × JobRow). row.Job job.0 job.1 in
    Answers facts l.initial.floor l.floor (l.changes.items ++ map jobs (act_jobs world true (map as_it_is (drop l.act-index l.acts))) ≡ l.initial.changes.items ++ map jobs (act_jobs world true (map as_it_is l.acts)))
