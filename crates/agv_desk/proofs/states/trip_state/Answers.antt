use Rattle.std.proofs.Common.{sym, ◌∙◌}
use Rattle.agv_world_core.proofs.lists.Asking.{retold}
use Rattle.agv_desk.proofs.row_changes.TripStates.{trip_state_told}
use Rattle.agv_desk.proofs.states.trip_state.Goals as goal

pub returns : goal.returns
returns g c =
    let judged = sym c.judge.ensures.judged ∙ c.in-Ok.is in
    retold (λ asked.
    trip_state_told (g.F.Floor.facts.world c.args.floor.now) c.args.key.now c.args.row.now c.args.trip c.args.state.now c.in-Ok.progress _ _ _ _ _ c.made_with.result
    c.pending_of.ensures judged c.is_some-ended.ensures (c.as_slice-acts.ensures ∙ c.in_ok-copied.ensures) c.in_ok-changes.ensures asked c.made_with.ensures.answer c.made_with.ensures.changes)
    c.in_ok-push_jobs.ensures
