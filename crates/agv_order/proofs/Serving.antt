-- Reading the stops of a job one by one says whether they are a pick and then a drop.
use Rattle.std.proofs.Common.{◌≡◌, ℕ, false, List, [], ◌∷◌, refl}
use Rattle.std.specs.List.{fold}
use Rattle.agv_message_core.specs.declared.order.ActKind.{ActKind}
use Rattle.agv_message_core.specs.declared.order.ActKind.TheVariants.{Pick, Drop}
use Rattle.agv_order.specs.declared.job_progress.JobProgress.{JobProgress}
use Rattle.agv_order.specs.declared.job_progress.JobProgress.TheVariants.{Waiting, Wrong}
use Rattle.agv_order.specs.declared.stop.Stop.{Stop}
use Rattle.agv_order.specs.JobProgress.{progress_then, is_over}
use Rattle.agv_order.specs.Stops.{kinds_of, is_pick_then_drop}

-- what the stops do for the job
abbrev pub served_by : List Stop → List ℕ → JobProgress
served_by stops job = fold progress_then Waiting (kinds_of stops job)

wrong : (kinds : List ActKind) → is_over (fold progress_then Wrong kinds) ≡ false
wrong [] = refl
wrong (kind ∷ kinds) = wrong kinds

pub over : (kinds : List ActKind) → is_over (fold progress_then Waiting kinds) ≡ is_pick_then_drop kinds
over [] = refl
over (Pick ∷ []) = refl
over (Drop ∷ []) = refl
over (Drop ∷ (Pick ∷ [])) = refl
over (Drop ∷ (Drop ∷ [])) = refl
over (Pick ∷ (Pick ∷ [])) = refl
over (Pick ∷ (Drop ∷ [])) = refl
over (Pick ∷ (Pick ∷ (third ∷ rest))) = wrong rest
over (Pick ∷ (Drop ∷ (third ∷ rest))) = wrong rest
over (Drop ∷ (second ∷ (third ∷ rest))) = wrong rest
