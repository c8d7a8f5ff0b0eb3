use Rattle.std.proofs.Common.{◌≡◌, ◌∙◌, List, ℕ, length, map, ap, sym, Option}
use Rattle.csv.specs.Records.{fields_of}
use Rattle.csv.specs.declared.record.ByteRecord.{ByteRecord}
use Rattle.agv_count.specs.Records.{records_of}
use Rattle.agv_count.specs.Table.{rows_under}
use Rattle.agv_count.proofs.TableRows.{uneven_rows}
use Rattle.agv_count.proofs.table.read_table.Goals as goal

-- the records of these bytes, as they are kept and as they are handed on
same_rows : {A : Type 0} (columns : List (List ℕ)) (row : List (List ℕ) → Option A) (bytes : List ℕ) (kept handed : List ByteRecord) → records_of bytes ≡ map fields_of kept → handed ≡ kept
    → rows_under columns row (records_of bytes) ≡ rows_under columns row (map fields_of handed)
same_rows columns row bytes kept handed read same = ap (rows_under columns row) (read ∙ ap (map fields_of) (sym same))

pub returns-clause-bad : goal.returns-clause-bad
returns-clause-bad g c is =
    same_rows g.R.Row.columns g.R.Row.says _ _ _ c.in_ok-records.ensures.ok c.deref.ensures.value ∙ c.rows_under_header.ensures.bad is

pub returns-clause-ok : goal.returns-clause-ok
returns-clause-ok g c =
    rw (same_rows g.R.Row.columns g.R.Row.says _ _ _ c.in_ok-records.ensures.ok c.deref.ensures.value) c.rows_under_header.ensures.ok

pub returns-in_err-records-clause-bad : goal.returns-in_err-records-clause-bad
returns-in_err-records-clause-bad g c is =
    let told = rw is at c.from_residual.ensures.1 in
    uneven_rows g.R.Row.columns g.R.Row.says g.met.R.Row.full (records_of c.args.bytes.now) (c.in_err-records.ensures.bad (cc told) (length g.R.Row.columns))
