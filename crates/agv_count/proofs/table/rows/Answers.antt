use Rattle.std.proofs.Common.{◌∙◌, Some, ap, append-nil, map}
use Rattle.std.proofs.lemmas.List.{drop_all}
use Rattle.csv.specs.Records.{fields_of}
use Rattle.agv_header.specs.Each.{each}
use Rattle.agv_count.proofs.EachRow.{after, after-more, left}
use Rattle.agv_count.proofs.table.rows.Goals as goal

pub loop-record-preserved : goal.loop-record-preserved
loop-record-preserved g c =
    let i = c.loop-record.record-index in
    let so_far = c.loop-record.rows.items in
    let row = g.R.Row.says in
    c.loop-record.invariant
    ∙ ap (λ l. after so_far (each row (map fields_of l))) (left c.args.records.now i c.record-item.result c.loop-record-test.true c.record-item.is)
    ∙ after-more so_far _ (row (fields_of c.record-item.result)) _ c.in_ok-add_row.ensures.ok

pub returns-clause-ok : goal.returns-clause-ok
returns-clause-ok g c =
    c.loop-record.invariant
    ∙ ap (λ l. after c.loop-record.rows.items (each g.R.Row.says (map fields_of l))) (drop_all c.loop-record.record-index c.args.records.now c.loop-record-test.false)
    ∙ ap Some (append-nil c.loop-record.rows.items)
