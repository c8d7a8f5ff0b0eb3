use Rattle.std.proofs.Common.{sym, ◌∙◌}
use Rattle.agv_track.proofs.Eight.{eight_are_new}
use Rattle.agv_track.proofs.Judged.{refused_way, refused_acts, accepted, same_progress}
use Rattle.agv_track.proofs.judgement.judge.Goals as goal

pub returns-in-Some : goal.returns-in-Some
returns-in-Some c =
    record { judged = refused_way c.args.trip.now c.args.pending c.args.state.now c.in-Some.refusal (sym c.way_refusal.ensures ∙ c.in-Some.is) }

pub act_refusal-requires : goal.act_refusal-requires
act_refusal-requires c = eight_are_new c.args.trip.now c.args.state.now _ c.requires.few_acts c.statuses_after-statuses.ensures

pub returns-in-Some-act_refusal : goal.returns-in-Some-act_refusal
returns-in-Some-act_refusal c = record {
  judged = refused_acts c.args.trip.now c.args.pending c.args.state.now c.in-Some-act_refusal.refusal (sym c.way_refusal.ensures ∙ c.in_default.is) (sym c.act_refusal.ensures ∙ c.in-Some-act_refusal.is);
}

pub end_after-requires : goal.end_after-requires
end_after-requires c = eight_are_new c.args.trip.now c.args.state.now _ c.requires.few_acts c.statuses_after-statuses.ensures

pub rest_after-requires : goal.rest_after-requires
rest_after-requires c = eight_are_new c.args.trip.now c.args.state.now _ c.requires.few_acts c.statuses_after-statuses.ensures

pub returns : goal.returns
returns c = record {
  judged =
      accepted c.args.trip.now c.args.pending c.args.state.now _ (sym c.way_refusal.ensures ∙ c.in_default.is) (sym c.act_refusal.ensures ∙ c.in_default-act_refusal.is)
      (same_progress c.args.trip.now c.args.pending c.args.state.now _ _ _ _ _ c.reported_node.ensures c.statuses_after-statuses.ensures c.is_pending_over.ensures c.end_after.ensures c.rest_after.ensures);
}
