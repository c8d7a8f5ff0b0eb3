use Rattle.std.proofs.Common.{◌≡◌, ◌≤◌, length, reverse, slice_range}
use Rattle.httparse.specs.Grammar.{skip_ows}
use Rattle.agv_face_http.proofs.request.connection.without_back.Given as goal

-- what was left out doesn't count
abbrev pub invariant-loop-end : goal.invariant-loop-end
invariant-loop-end l = (l.end ≤ length l.bytes) × (skip_ows (reverse (slice_range l.bytes 0 l.end)) ≡ skip_ows (reverse l.bytes))

abbrev pub decreases-loop-end : goal.decreases-loop-end
decreases-loop-end l = l.end
