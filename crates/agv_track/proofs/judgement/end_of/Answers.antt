use Rattle.std.proofs.Common.{if◌then◌else◌, sym, ap, ◌∙◌}
use Rattle.agv_track.specs.Judgements.{new_statuses, is_carried_out}
use Rattle.agv_track.specs.declared.progress.End.TheVariants.{Done, Stopped}
use Rattle.agv_track.proofs.Renewals.{all_new}
use Rattle.agv_track.proofs.judgement.end_of.Goals as goal

pub returns-then-are_carried_out : goal.returns-then-are_carried_out
returns-then-are_carried_out c =
    let is = all_new is_carried_out c.are_carried_out.result c.as_slice.result.now c.args.trip.now.acts c.args.statuses.now (new_statuses c.args.trip.now c.args.state.now) c.are_carried_out.ensures c.as_slice.ensures c.requires in
    ap (λ b. if b then Done else Stopped) (sym c.if-are_carried_out.true ∙ is)

pub returns-else-are_carried_out : goal.returns-else-are_carried_out
returns-else-are_carried_out c =
    let is = all_new is_carried_out c.are_carried_out.result c.as_slice.result.now c.args.trip.now.acts c.args.statuses.now (new_statuses c.args.trip.now c.args.state.now) c.are_carried_out.ensures c.as_slice.ensures c.requires in
    ap (λ b. if b then Done else Stopped) (sym c.if-are_carried_out.false ∙ is)
