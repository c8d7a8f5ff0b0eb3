use Rattle.std.proofs.Common.{◌≡◌, List, ℕ}
use Rattle.std.specs.FinMap as map
use Rattle.std.specs.List.{find}
use Rattle.agv_world_core.specs.Questions.{is_live_for}
use Rattle.agv_world_core.specs.declared.row.JobRow.{JobRow}
use Rattle.agv_world_plain.proofs.questions.job_of.Given as goal

-- the first of what is left is the first of all
abbrev pub invariant-loop-name : goal.invariant-loop-name
invariant-loop-name l =
    find (λ (job : List ℕ × JobRow). is_live_for l.load job.1) l.name-iterator
    ≡ find (λ (job : List ℕ × JobRow). is_live_for l.load job.1) (map.entries l.world.jobs)
