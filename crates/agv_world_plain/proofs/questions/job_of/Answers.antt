use Rattle.std.proofs.Common.{◌∙◌, sym, ap, cond, option_map, Some, List, ℕ}
use Rattle.std.specs.List.{find}
use Rattle.agv_world_core.specs.Questions.{job_of, is_live_for}
use Rattle.agv_world_core.specs.declared.row.JobRow.{JobRow}
use Rattle.agv_world_plain.proofs.questions.job_of.Goals as goal

abbrev its_name : List ℕ × JobRow → List ℕ
its_name job = job.0

pub returns-then-is_live_for : goal.returns-then-is_live_for
unfolding job_of
returns-then-is_live_for c =
    let is_live : List ℕ × JobRow → _ = λ job. is_live_for c.args.load job.1 in
    ap (λ b. option_map its_name (cond b (Some (c.in-Some.name.now, c.in-Some.job.now)) (find is_live c.next.new.self))) c.if-is_live_for.ensures
    ∙ ap (λ es. option_map its_name (find is_live es)) (sym c.in-Some.ensures.steps)
    ∙ ap (option_map its_name) c.loop-name.invariant

pub returns : goal.returns
unfolding job_of
returns c =
    let is_live : List ℕ × JobRow → _ = λ job. is_live_for c.args.load job.1 in
    ap (λ es. option_map its_name (find is_live es)) (sym c.in-None.ensures.steps.0) ∙ ap (option_map its_name) c.loop-name.invariant
