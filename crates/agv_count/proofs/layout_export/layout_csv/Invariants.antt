use Rattle.std.proofs.Common.{◌≡◌, ◌++◌, codes, string_bytes, take}
use Rattle.std.specs.List.{flat_map}
use Rattle.agv_count.specs.Reports.{line, layout_line}
use Rattle.agv_count.proofs.layout_export.layout_csv.Given as goal

abbrev pub invariant-loop-row : goal.invariant-loop-row
invariant-loop-row l = string_bytes l.out ≡ line (codes "kind,id,from,to") ++ flat_map layout_line (take l.row-index l.rows)
