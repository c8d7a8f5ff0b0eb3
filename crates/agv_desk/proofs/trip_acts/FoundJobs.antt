-- Jobs that are found stop by stop are those of the world.
use Rattle.std.proofs.Common.{◌≡◌, ℕ, nat_eq, true, false, cond, List, [], ◌∷◌, ◌++◌, Option, None, Some, option_map, refl, sym, ap, subst, subst₂, ◌∙◌}
use Rattle.std.specs.Cmp.Lexicographic.{pointwise}
use Rattle.std.specs.FinMap as finite
use Rattle.agv_order.specs.Plans.{job_named}
use Rattle.agv_order.specs.declared.stop.Stop.{Stop}
use Rattle.agv_stock.specs.declared.job.Job.{Job}
use Rattle.agv_world_core.specs.Worlds.{World}
use Rattle.agv_world_core.specs.declared.row.JobRow.{JobRow}
use Rattle.agv_desk.specs.FoundJobs.{AreFound, job_by}
use Rattle.agv_desk.specs.OrderSteps.{job_for, named}
use Rattle.agv_desk.proofs.lists.SameNames.{same_name}

-- a job that is found has the name that was looked up
found_name : (name : List ℕ) (job : Job) (there : Option JobRow) → option_map (named name) there ≡ Some job → job.name ≡ name
found_name name job None e = cc
found_name name job (Some row) e = cc

-- one job more
at_end : (world : World) (jobs : List Job) (last : Job) → job_by world last.name ≡ Some last → (name : List ℕ) (job : Job)
    → ((other : Job) → job_named jobs name ≡ Some other → job_by world name ≡ Some other) → job_named (jobs ++ last ∷ []) name ≡ Some job → job_by world name ≡ Some job
at_end world [] last is name job found e =
    elim (pointwise nat_eq last.name name) as (λ same. pointwise nat_eq last.name name ≡ same → cond same (Some last) None ≡ Some job → job_by world name ≡ Some job) [
      | true ↦ λ same e. ap (job_by world) (sym (same_name last.name name same)) ∙ is ∙ e
      | false ↦ λ same e. cc
    ] refl e
at_end world (first ∷ jobs) last is name job found e =
    elim (pointwise nat_eq first.name name) as (λ same. ((other : Job) → cond same (Some first) (job_named jobs name) ≡ Some other → job_by world name ≡ Some other)
    → cond same (Some first) (job_named (jobs ++ last ∷ []) name) ≡ Some job → job_by world name ≡ Some job) [
      | true ↦ λ found e. found job e
      | false ↦ λ found e. at_end world jobs last is name job found e
    ] found e

pub found_more : (world : World) (jobs more : List Job) (stop : Stop) (job : Job) → AreFound world jobs → job_for world stop ≡ Some job → more ≡ jobs ++ job ∷ [] → AreFound world more
found_more world jobs more stop job found is pushed =
    let name = found_name stop.job job (finite.get world.jobs stop.job) is in
    let all : AreFound world (jobs ++ job ∷ []) = record { each = λ q x e. at_end world jobs job (ap (job_by world) name ∙ is) q x (found.each q) e } in
    subst (AreFound world) (sym pushed) all

-- what was found or asked for is the job of the stop
pub read_job : (world now : World) (jobs some : List Job) (stop : Stop) (job : Job) (told : Option Job) → now ≡ world → some ≡ jobs → AreFound world jobs
    → (AreFound now some → told ≡ job_for now stop) → told ≡ Some job → job_for world stop ≡ Some job
read_job world now jobs some stop job told same these found asked is =
    sym (ap (λ w. job_for w stop) same) ∙ sym (asked (subst₂ AreFound (sym same) (sym these) found)) ∙ is
