use Rattle.std.proofs.Common.{◌∙◌}
use Rattle.agv_count.proofs.TableRows.{under_header}
use Rattle.agv_count.proofs.table.rows_under_header.Goals as goal

pub returns-clause-ok : goal.returns-clause-ok
returns-clause-ok g c =
    rw (under_header g.R.Row.columns g.R.Row.says _ _ _ _ c.in-Some.ensures.cases.0 c.is_header.ensures c.if-not-is_header.false) c.rows.ensures.ok

pub returns-clause-bad : goal.returns-clause-bad
returns-clause-bad g c is =
    under_header g.R.Row.columns g.R.Row.says _ _ _ _ c.in-Some.ensures.cases.0 c.is_header.ensures c.if-not-is_header.false ∙ c.rows.ensures.bad is
