use Rattle.agv_order.specs.WellFormed.{is_over}
use Rattle.agv_track.specs.Judgements.{new_statuses}
use Rattle.agv_track.proofs.Renewals.{all_new}
use Rattle.agv_track.proofs.judgement.all_are_over.Goals as goal

pub returns : goal.returns
returns c =
    all_new is_over c.are_over.result c.as_slice.result.now c.args.trip.now.acts c.args.statuses.now (new_statuses c.args.trip.now c.args.state.now) c.are_over.ensures c.as_slice.ensures c.requires
