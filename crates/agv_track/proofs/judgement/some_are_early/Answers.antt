use Rattle.std.proofs.Common.{not, ap, ◌∙◌}
use Rattle.std.specs.List.{list_all}
use Rattle.agv_order.specs.WellFormed.{is_reached}
use Rattle.agv_track.specs.Judgements.{new_statuses, new_acts}
use Rattle.agv_track.proofs.Renewals.{all_new}
use Rattle.agv_track.proofs.judgement.some_are_early.Goals as goal

pub returns : goal.returns
returns c =
    ap not (
    all_new (is_reached c.reported_node.result) c.are_reached.result c.as_slice.result.now c.args.trip.now.acts c.args.statuses.now (new_statuses c.args.trip.now c.args.state.now) c.are_reached.ensures c.as_slice.ensures c.requires
    ∙ ap (λ k. list_all (is_reached k) (new_acts c.args.trip.now c.args.state.now)) c.reported_node.ensures)
