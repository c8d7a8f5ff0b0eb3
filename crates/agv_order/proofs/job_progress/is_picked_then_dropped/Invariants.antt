use Rattle.std.proofs.Common.{◌≡◌, take}
use Rattle.agv_order.proofs.Serving.{served_by}
use Rattle.agv_order.proofs.job_progress.is_picked_then_dropped.Given as goal

abbrev pub invariant-loop-stop : goal.invariant-loop-stop
invariant-loop-stop l = l.served ≡ served_by (take l.stop-index l.stops) l.job
