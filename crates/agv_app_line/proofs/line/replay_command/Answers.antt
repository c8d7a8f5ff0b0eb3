use Rattle.std.proofs.Common.{codes, pos}
use Rattle.std.proofs.lemmas.Result.{IfOk-weaker}
use Rattle.clap.specs.Words.{new_app, with_rule}
use Rattle.agv_app_line.specs.CommandLine.{db, last_moment, number}
use Rattle.agv_app_line.proofs.Commands.{arg_added}
use Rattle.agv_app_line.proofs.line.replay_command.Goals as goal

pub returns : goal.returns
returns c =
    let named = new_app (codes "replay") in
    let has_db = arg_added named db _ _ _ c.in_ok-arg.ensures c.named_command.ensures c.required_arg.ensures.rule c.required_arg.ensures.local in
    IfOk-weaker c.arg-2.result _ _
    (λ command added. arg_added (with_rule named db) (number (codes "at") (pos last_moment)) _ _ command added has_db c.number_arg.ensures.rule c.number_arg.ensures.local)
    c.arg-2.ensures
