use Rattle.std.proofs.Common.{◌≡◌, take}
use Rattle.agv_order.specs.WellFormedTest.{stops_of}
use Rattle.agv_order.proofs.Serving.{served_by}
use Rattle.agv_order.proofs.planned.is_carried.Given as goal

abbrev pub invariant-loop-act : goal.invariant-loop-act
invariant-loop-act l = l.served ≡ served_by (stops_of (take l.act-index l.acts)) l.job
