use Rattle.std.proofs.Common.{◌≡◌, ◌++◌, ◌-◌}
use Rattle.agv_layout.specs.Ways.{followed}
use Rattle.agv_layout.proofs.route.follow.Given as goal

abbrev pub invariant-loop : goal.invariant-loop
invariant-loop l = l.ids.items ++ followed l.ways l.at (l.hops - l.counter) ≡ followed l.ways l.fn.from l.hops
