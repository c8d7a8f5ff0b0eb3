use Rattle.std.proofs.Common.{inl, inr}
use Rattle.agv_face.proofs.laws.streams_leave_the_store_open.Goals as goal

pub returns : goal.returns
returns g c desk desk_then later clean was_open none = elim (later.later.closes clean was_open) [
  | inl still ↦ still
  | inr more ↦ absurd (none more)
]
