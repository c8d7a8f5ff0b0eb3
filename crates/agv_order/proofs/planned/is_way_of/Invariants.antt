use Rattle.std.proofs.Common.{◌≡◌, drop}
use Rattle.agv_order.specs.WellFormedTest.{is_way_of}
use Rattle.agv_order.proofs.planned.is_way_of.Given as goal

abbrev pub invariant-loop-edge : goal.invariant-loop-edge
invariant-loop-edge l = is_way_of l.layout l.fn.start l.edges ≡ is_way_of l.layout l.at (drop l.edge-index l.edges)
