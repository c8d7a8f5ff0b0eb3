use Rattle.std.proofs.Common.{◌∙◌, ap}
use Rattle.std.specs.Result.{result_from_control_flow}
use Rattle.agv_app_line.proofs.line.with_one_more.Goals as goal

pub returns : goal.returns
returns g c =
    let listed = c.branch-list.ensures ∙ ap result_from_control_flow c.in_ok-list.is in
    let made = c.branch-value.ensures ∙ ap result_from_control_flow c.in_ok-value.is in
    (c.in_ok-list.list, c.in_ok-value.field-0, listed, made, c.in_ok-push.ensures.items)
