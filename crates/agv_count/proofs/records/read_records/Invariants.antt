use Rattle.std.proofs.Common.{Some, map}
use Rattle.csv.specs.Reading.{strip_bom}
use Rattle.csv.specs.Records.{fields_of}
use Rattle.agv_count.proofs.ReadSoFar.{ReadSoFar}
use Rattle.agv_count.proofs.records.read_records.Given as goal

abbrev pub invariant-loop-record : goal.invariant-loop-record
invariant-loop-record l =
    ReadSoFar (λ s. Some s.now) (strip_bom l.fn.bytes) l.record-iterator.rdr l.record-iterator.left (map fields_of l.records.items)
