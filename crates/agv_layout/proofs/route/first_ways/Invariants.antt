use Rattle.std.proofs.Common.{◌≡◌}
use Rattle.std.specs.Option.{option_or}
use Rattle.std.specs.BTreeMap.{get}
use Rattle.agv_header.specs.Name.{name_cmp}
use Rattle.agv_layout.specs.Layout.{Name}
use Rattle.agv_layout.specs.Ways.{first_way}
use Rattle.agv_layout.proofs.route.first_ways.Given as goal

abbrev pub invariant-loop-id : goal.invariant-loop-id
invariant-loop-id l = (at : Name) → option_or (get name_cmp l.ways at) (first_way l.distances at l.id-iterator) ≡ first_way l.distances at l.edges.entries
