use Rattle.std.proofs.Common.{◌≡◌, get_or, sym, subst, ◌∙◌, arith}
use Rattle.std.proofs.Math.ListN.{set}
use Rattle.std.proofs.lemmas.List.{length-set}
use Rattle.std.proofs.lemmas.List.Edits.{fill_by_more}
use Rattle.std.proofs.lemmas.List.FromFn.{fill_by_all}
use Rattle.agv_message_core.specs.declared.status.Status.TheVariants.{Waiting}
use Rattle.agv_track.specs.Judgements.{nth_status, eight, new_statuses}
use Rattle.agv_track.proofs.reports.statuses_after.Goals as goal

pub loop-n-preserved : goal.loop-n-preserved
loop-n-preserved c =
    let all = new_statuses c.args.trip.now c.args.state.now in
    let statuses = c.loop-n.statuses in
    let n = c.loop-n.n in
    let long = c.loop-n.invariant.0 in (
      length-set statuses n c.status_after.result ∙ long,
      λ k h. subst (λ s. get_or (set statuses n s) k Waiting ≡ nth_status all k) (sym c.status_after.ensures) (fill_by_more (nth_status all) statuses n Waiting (omega arith) c.loop-n.invariant.1 k h),
    )

pub returns : goal.returns
unfolding eight
returns c =
    fill_by_all (nth_status (new_statuses c.args.trip.now c.args.state.now)) c.loop-n.statuses 8 Waiting c.loop-n.invariant.0 (λ k h. c.loop-n.invariant.1 k (omega arith))
