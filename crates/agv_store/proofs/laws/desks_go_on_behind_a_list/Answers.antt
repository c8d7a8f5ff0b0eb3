use Rattle.std.proofs.Common.{inl, inr}
use Rattle.agv_store.proofs.laws.desks_go_on_behind_a_list.Goals as goal

pub returns : goal.returns
returns g c old new calls given ended run clean was_open none = run.knows (elim (run.later.closes clean was_open) [
  | inl still ↦ still
  | inr more ↦ absurd (none more)
])
