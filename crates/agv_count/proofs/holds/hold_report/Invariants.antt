use Rattle.std.proofs.Common.{◌≡◌, string_bytes, take}
use Rattle.std.specs.List.{flat_map}
use Rattle.agv_count.specs.Reports.{hold_line}
use Rattle.agv_count.proofs.holds.hold_report.Given as goal

abbrev pub invariant-loop-thing : goal.invariant-loop-thing
invariant-loop-thing l = string_bytes l.out ≡ flat_map hold_line (take l.thing-index l.holds)
