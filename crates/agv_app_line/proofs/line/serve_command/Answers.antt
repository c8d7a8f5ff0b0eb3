use Rattle.std.proofs.Common.{codes, pos}
use Rattle.std.proofs.lemmas.Result.{IfOk-weaker}
use Rattle.clap.specs.Words.{new_app, with_rule}
use Rattle.agv_app_line.specs.CommandLine.{db, last_port, most_connections, number}
use Rattle.agv_app_line.proofs.Commands.{arg_added}
use Rattle.agv_app_line.proofs.line.serve_command.Goals as goal

pub returns : goal.returns
returns c =
    let filed = with_rule (new_app (codes "serve")) db in
    let port = number (codes "port") (pos last_port) in
    let connections = number (codes "connections") (pos most_connections) in
    let has_port = arg_added filed port _ _ _ c.in_ok-arg.ensures c.in_ok-file_command.ensures c.number_arg.ensures.rule c.number_arg.ensures.local in
    IfOk-weaker c.arg-2.result _ _
    (λ command added. arg_added (with_rule filed port) connections _ _ command added has_port c.number_arg-2.ensures.rule c.number_arg-2.ensures.local)
    c.arg-2.ensures
