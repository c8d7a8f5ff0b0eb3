use Rattle.agv_track.specs.Judgements.{new_statuses, is_running}
use Rattle.agv_track.proofs.Renewals.{any_new}
use Rattle.agv_track.proofs.judgement.some_run.Goals as goal

pub returns : goal.returns
returns c =
    any_new is_running c.is_running.result c.as_slice.result.now c.args.trip.now.acts c.args.statuses.now (new_statuses c.args.trip.now c.args.state.now) c.is_running.ensures c.as_slice.ensures c.requires
