use Rattle.std.proofs.Common.{◌≡◌, ◌++◌, ℕ, List, map}
use Rattle.std.specs.List.{zip}
use Rattle.agv_world_core.specs.Asks.{Answers}
use Rattle.agv_world_core.specs.declared.change.Change.TheVariants as row
use Rattle.agv_world_core.specs.declared.row.JobRow.{JobRow}
use Rattle.agv_desk.specs.ActSteps.{Renewed, act_jobs}
use Rattle.agv_desk.proofs.acts.push_jobs.Given as goal

abbrev pub invariant-loop-act : goal.invariant-loop-act
invariant-loop-act g l =
    let facts = g.F.Floor.facts in
    let rows = λ (acts : List Renewed). map (λ (job : List ℕ × JobRow). row.Job job.0 job.1) (act_jobs (facts.world l.initial.floor) l.ended acts) in
    Answers facts l.initial.floor l.floor (l.changes.items ++ rows (zip l.act-iterator.a.rest.now l.act-iterator.b.rest.now) ≡ l.initial.changes.items ++ rows (zip l.acts l.statuses))
