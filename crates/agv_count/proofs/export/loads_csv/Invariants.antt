use Rattle.std.proofs.Common.{◌≡◌, ◌++◌, codes, string_bytes, take}
use Rattle.std.specs.List.{flat_map}
use Rattle.agv_count.specs.Reports.{line, load_line}
use Rattle.agv_count.proofs.export.loads_csv.Given as goal

abbrev pub invariant-loop-load : goal.invariant-loop-load
invariant-loop-load l = string_bytes l.out ≡ line (codes "load,place,at") ++ flat_map load_line (take l.load-index l.loads)
