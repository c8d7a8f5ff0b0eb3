use Rattle.std.proofs.Common.{codes}
use Rattle.std.proofs.lemmas.Result.{IfOk-weaker}
use Rattle.clap.specs.Words.{new_app, with_rule}
use Rattle.agv_app_line.specs.CommandLine.{db, report_kind}
use Rattle.agv_app_line.proofs.Commands.{arg_added}
use Rattle.agv_app_line.proofs.line.report_command.Goals as goal

pub returns : goal.returns
returns c =
    let filed = with_rule (new_app (codes "report")) db in
    let kinds = c.kind_arg.ensures.rule in
    IfOk-weaker c.arg.result _ _
    (λ command added. (kinds.0, kinds.1, arg_added filed (report_kind kinds.0) _ _ command added c.in_ok-file_command.ensures kinds.2 c.kind_arg.ensures.local))
    c.arg.ensures
