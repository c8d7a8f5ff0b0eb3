use Rattle.std.proofs.Common.{◌≡◌, ◌-◌, ◌≤◌, length, slice_range}
use Rattle.httparse.specs.Grammar.{skip_ows}
use Rattle.agv_face_http.proofs.request.connection.without_front.Given as goal

-- what was left out doesn't count
abbrev pub invariant-loop-start : goal.invariant-loop-start
invariant-loop-start l = (l.start ≤ length l.bytes) × (skip_ows (slice_range l.bytes l.start (length l.bytes)) ≡ skip_ows l.bytes)

abbrev pub decreases-loop-start : goal.decreases-loop-start
decreases-loop-start l = length l.bytes - l.start
