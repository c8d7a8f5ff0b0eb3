use Rattle.std.proofs.Common.{◌∙◌, ap}
use Rattle.sqlite.specs.declared.error.Error.TheVariants.{SqliteFailure}
use Rattle.sqlite.specs.Values.{bound}
use Rattle.agv_store_schema.specs.DeskRows.{with_put_by}
use Rattle.agv_store_schema.specs.RowTexts.{columns_deleted}
use Rattle.agv_store_sql.proofs.KeysFree.{put_if_free, put_if_refused}
use Rattle.agv_store_sql.proofs.WritesThen.{retold, writes_then}
use Rattle.agv_store_sql.proofs.row_writes.put_new.Goals as goal

pub returns-in-Err-SqliteFailure-ConstraintViolation : goal.returns-in-Err-SqliteFailure-ConstraintViolation
returns-in-Err-SqliteFailure-ConstraintViolation g c =
    let refused = c.in-Err-SqliteFailure-ConstraintViolation in
    writes_then g.S.Store refused.ensures.writes c.put_row.ensures (λ early _ again fit keyed alike.
    put_if_refused (with_put_by c.args.table (columns_deleted c.args.table) (bound c.args.key.now) (bound c.args.row.now)) _ _ _
    (refused.ensures.refused early (refused.field-0-0-0, refused.field-0-is ∙ ap SqliteFailure refused.field-0-0-is)) c.put_row.result (again fit))

pub returns-in_default-3 : goal.returns-in_default-3
returns-in_default-3 g c =
    retold g.S.Store c.insert_row.ensures.writes (λ clean added fit keyed alike.
    put_if_free c.args.table (columns_deleted c.args.table) keyed (bound c.args.key.now) (bound c.args.row.now) alike _ _ c.insert_row.result (c.insert_row.ensures.free clean fit) (added fit))
