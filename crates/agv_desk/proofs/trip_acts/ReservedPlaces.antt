-- While a job rides, a place at its target is reserved for it.
use Rattle.std.proofs.Common.{◌≡◌, ◌≤◌, ◌&&◌, ℕ, List, Some, nat_eq, ap, subst, ◌∙◌}
use Rattle.std.specs.Cmp.Lexicographic.{pointwise}
use Rattle.std.specs.FinMap as finite
use Rattle.agv_stock.specs.Phase.{is_live}
use Rattle.agv_stock.specs.declared.job.Phase.{Phase}
use Rattle.agv_stock.specs.declared.job.Phase.TheVariants.{Riding}
use Rattle.agv_world_core.proofs.lists.Orders.{names_total}
use Rattle.agv_world_core.specs.Questions.{is_live_to, reserved}
use Rattle.agv_world_core.specs.Worlds.{World}
use Rattle.agv_world_core.specs.declared.row.JobRow.{JobRow}
use Rattle.agv_desk.proofs.lists.SameNames.{name_itself}
use Rattle.agv_desk.proofs.lists.Writes.{one_if, tally, weight, weight-le}

pub reserved_place : (world : World) (job : List ℕ) (row : JobRow) → finite.get world.jobs job ≡ Some row → row.phase ≡ Riding → 1 ≤ reserved world row.target
unfolding reserved
reserved_place world job row here rides =
    let test = is_live_to row.target in
    let most : weight test (Some row) ≤ tally test world.jobs = subst (λ found. weight test found ≤ tally test world.jobs) here (weight-le names_total test world.jobs job) in
    let live : is_live_to row.target row ≡ is_live Riding = ap (λ (phase : Phase). is_live phase && pointwise nat_eq row.target row.target) rides ∙ name_itself row.target in
    subst (λ b. one_if b ≤ tally test world.jobs) live most
