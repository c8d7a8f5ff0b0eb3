use Rattle.std.proofs.Common.{[], ◌∷◌, subst, sym, IfOk}
use Rattle.std.proofs.lemmas.Result.{IfOk-at_ok, IfOk-weaker}
use Rattle.agv_app_line.specs.CommandLine.{AreApps, AreKinds, Choice, migrate, replay, report, serve}
use Rattle.agv_app_line.proofs.Commands.{one_more}
use Rattle.agv_app_line.proofs.line.desk_subcommands.Goals as goal

pub returns : goal.returns
returns c =
    let none : AreApps [] c.new.result.items = subst (AreApps []) (sym c.new.ensures.items) tt in
    let one = IfOk-weaker c.with_one_more-replay.result _ _
    (λ list more. one_more [] replay _ _ list more (IfOk-at_ok (λ list. AreApps [] list.items) more.2 none) (IfOk-at_ok _ more.3 c.replay_command.ensures))
    c.with_one_more-replay.ensures in
    let two = IfOk-weaker c.with_one_more-serve.result _ _
    (λ list more. one_more (replay ∷ []) serve _ _ list more (IfOk-at_ok _ more.2 one) (IfOk-at_ok _ more.3 c.serve_command.ensures))
    c.with_one_more-serve.ensures in
    let three : IfOk c.with_one_more-report.result (λ list. (kinds : Choice) × AreKinds kinds × AreApps (replay ∷ serve ∷ report kinds ∷ []) list.items) = IfOk-weaker c.with_one_more-report.result _ _
    (λ list more.
    let reports = IfOk-at_ok _ more.3 c.report_command.ensures in
    (reports.0, reports.1, one_more (replay ∷ serve ∷ []) (report reports.0) _ _ list more (IfOk-at_ok _ more.2 two) reports.2))
    c.with_one_more-report.ensures in
    IfOk-weaker c.with_one_more.result _ _
    (λ list more.
    let reports = IfOk-at_ok _ more.2 three in
    (reports.0, reports.1, one_more (replay ∷ serve ∷ report reports.0 ∷ []) migrate _ _ list more reports.2 (IfOk-at_ok _ more.3 c.migrate_command.ensures)))
    c.with_one_more.ensures
