use Rattle.std.proofs.Common.{◌≡◌, ◌||◌}
use Rattle.std.specs.List.{list_any}
use Rattle.agv_layout.specs.Layout.{Name}
use Rattle.agv_layout.specs.Arrivals.{leads, is_so}
use Rattle.agv_layout.proofs.distances.arrivals_of.Given as goal

abbrev pub invariant-loop-ends : goal.invariant-loop-ends
invariant-loop-ends l = (start finish : Name) → (leads l.arrivals start finish || list_any (is_so start finish) l.ends-iterator) ≡ list_any (is_so start finish) l.edges.entries
