use Rattle.std.proofs.Common.{◌≡◌, take}
use Rattle.agv_order.specs.Messages.{acts_at}
use Rattle.agv_order.proofs.message.acts_at.Given as goal

abbrev pub invariant-loop-n : goal.invariant-loop-n
invariant-loop-n l = l.made.items ≡ acts_at (take l.n l.acts) l.k
