use Rattle.std.proofs.Common.{◌∙◌}
use Rattle.agv_store.proofs.Reporting.{served_report}
use Rattle.agv_store.proofs.reports.serve_report.Goals as goal

pub returns-clause-serves : goal.returns-clause-serves
returns-clause-serves g c clean =
    let knows = c.in_ok-text.ensures.knows clean in
    λ at. served_report g.S.Store c.args.floor.now.held c.report_bytes.new.floor.held c.args.report c.from.result
    (c.from.ensures ∙ c.in_ok-text.ensures.tells clean) knows (c.report_bytes.ensures.unchanged clean knows.is_open) at
