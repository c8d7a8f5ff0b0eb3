use Rattle.std.proofs.Common.{◌≡◌, ◌++◌, List, ℕ, map, drop}
use Rattle.agv_world_core.specs.declared.change.Change.TheVariants as row
use Rattle.agv_world_core.specs.declared.row.JobRow.{JobRow}
use Rattle.agv_desk.proofs.order_jobs.push_jobs.Given as goal

abbrev pub invariant-loop-name : goal.invariant-loop-name
invariant-loop-name l =
    let write = λ (job : List ℕ × JobRow). row.Job job.0 job.1 in
    l.changes.items ++ map write (drop l.name-index l.jobs) ≡ l.initial.changes.items ++ map write l.jobs
