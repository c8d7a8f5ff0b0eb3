use Rattle.std.proofs.Common.{[], ◌∷◌}
use Rattle.std.proofs.lemmas.Result.{IfOk-weaker}
use Rattle.agv_app_line.specs.CommandLine.{desk_top, migrate, replay, report, serve}
use Rattle.agv_app_line.proofs.Commands.{subcommands_added}
use Rattle.agv_app_line.proofs.line.desk_command.Goals as goal

pub returns : goal.returns
returns c =
    let subs = c.in_ok-subs.ensures in
    IfOk-weaker c.subcommands.result _ _
    (λ command added. (subs.0, subs.1, subcommands_added desk_top (replay ∷ serve ∷ report subs.0 ∷ migrate ∷ []) _ _ command added c.top_command.ensures subs.2))
    c.subcommands.ensures
