use Rattle.std.proofs.Common.{not, ap, ◌∙◌}
use Rattle.std.specs.List.{list_all}
use Rattle.agv_order.specs.WellFormed.{is_in_turn}
use Rattle.agv_track.specs.Judgements.{new_statuses}
use Rattle.agv_track.specs.Reports.{renewed}
use Rattle.agv_track.proofs.Renewals.{all_new, same_renewed}
use Rattle.agv_track.proofs.judgement.some_drop_is_first.Goals as goal

pub returns : goal.returns
returns c =
    let acts = c.args.trip.now.acts in
    let given = c.as_slice.result.now in
    let statuses = c.args.statuses.now in
    let news = new_statuses c.args.trip.now c.args.state.now in
    ap not (
    all_new (is_in_turn (renewed given statuses)) c.are_in_turn.result given acts statuses news c.are_in_turn.ensures c.as_slice.ensures c.requires
    ∙ ap (λ all. list_all (is_in_turn all) (renewed acts news)) (same_renewed given acts statuses news c.as_slice.ensures c.requires))
