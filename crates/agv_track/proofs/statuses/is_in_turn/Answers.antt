use Rattle.std.proofs.Common.{◌&&◌, sym, ◌∙◌}
use Rattle.agv_order.specs.Statuses.{is_finished}
use Rattle.agv_order.specs.Stops.{is_drop}
use Rattle.agv_track.proofs.Renewals.{picked_first}
use Rattle.agv_track.proofs.statuses.is_in_turn.Goals as goal

pub returns-else-not-is_done_drop : goal.returns-else-not-is_done_drop
returns-else-not-is_done_drop c =
    let act = c.args.act.now in
    picked_first (is_drop act.kind && is_finished c.args.status) c.is_picked.result c.args.acts.now c.args.statuses.now act.job (sym c.is_done_drop.ensures ∙ c.if-not-is_done_drop.false) c.is_picked.ensures
