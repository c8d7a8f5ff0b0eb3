-- The jobs of a trip's acts, one act after the other.
use Rattle.std.proofs.Common.{◌≡◌, ℕ, Bool, List, [], ◌∷◌, ◌++◌, map, append_assoc, ap, sym, subst, ◌∙◌}
use Rattle.std.proofs.lemmas.List.{map-append}
use Rattle.std.proofs.lemmas.List.Elements.{filter_map-append}
use Rattle.agv_world_core.specs.Worlds.{World}
use Rattle.agv_world_core.specs.declared.change.Change.{Change}
use Rattle.agv_world_core.specs.declared.change.Change.TheVariants as row
use Rattle.agv_world_core.specs.declared.row.JobRow.{JobRow}
use Rattle.agv_desk.specs.ActSteps.{Renewed, act_job, act_jobs}

-- the rows of the jobs of these acts
abbrev pub job_rows : World → Bool → List Renewed → List Change
job_rows world ended acts = map (λ (job : List ℕ × JobRow). row.Job job.0 job.1) (act_jobs world ended acts)

-- first those of the first act, and then those of the others
rows-first : (world : World) (ended : Bool) (act : Renewed) (acts : List Renewed) → job_rows world ended (act ∷ acts) ≡ job_rows world ended (act ∷ []) ++ job_rows world ended acts
rows-first world ended act acts =
    ap (map (λ (job : List ℕ × JobRow). row.Job job.0 job.1)) (filter_map-append (act_job world ended) (act ∷ []) acts)
    ∙ map-append (λ (job : List ℕ × JobRow). row.Job job.0 job.1) (act_jobs world ended (act ∷ [])) (act_jobs world ended acts)

-- what was made and what is left come to the same, once the first act that is left is done
pub rows-more : (world asked : World) (ended : Bool) (act : Renewed) (left rest : List Renewed) (made more all : List Change)
    → asked ≡ world → left ≡ act ∷ rest → more ≡ made ++ job_rows asked ended (act ∷ [])
    → made ++ job_rows world ended left ≡ all → more ++ job_rows world ended rest ≡ all
rows-more world asked ended act left rest made more all same first pushed was =
    ap (λ done. done ++ job_rows world ended rest) (subst (λ w. more ≡ made ++ job_rows w ended (act ∷ [])) same pushed)
    ∙ append_assoc made (job_rows world ended (act ∷ [])) (job_rows world ended rest)
    ∙ ap (λ rows. made ++ rows) (sym (rows-first world ended act rest) ∙ ap (job_rows world ended) (sym first))
    ∙ was
