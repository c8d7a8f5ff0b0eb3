use Rattle.std.proofs.Common.{◌≡◌, drop}
use Rattle.agv_order.specs.WellFormedTest.{is_rising}
use Rattle.agv_order.proofs.planned.is_rising.Given as goal

abbrev pub invariant-loop-act : goal.invariant-loop-act
invariant-loop-act l = is_rising 0 l.acts l.end ≡ is_rising l.place (drop l.act-index l.acts) l.end
