use Rattle.std.proofs.Common.{◌≡◌, drop, map}
use Rattle.csv.specs.Records.{fields_of}
use Rattle.agv_header.specs.Each.{each}
use Rattle.agv_count.proofs.EachRow.{after}
use Rattle.agv_count.proofs.table.rows.Given as goal

abbrev pub invariant-loop-record : goal.invariant-loop-record
invariant-loop-record g l =
    each g.R.Row.says (map fields_of l.records) ≡ after l.rows.items (each g.R.Row.says (map fields_of (drop l.record-index l.records)))
