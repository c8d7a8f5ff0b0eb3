use Rattle.std.proofs.Common.{◌≡◌, ◌<◌, ◌≤◌, List, length, get_or, sym, ap, subst, ◌∙◌}
use Rattle.std.specs.Option.{unwrap_or}
use Rattle.agv_message_core.specs.Order.{act_id}
use Rattle.agv_order.specs.declared.act.Act.{Act}
use Rattle.agv_track.specs.Reports.{told}
use Rattle.agv_track.proofs.Numbered.{status-at, status-past}
use Rattle.agv_track.proofs.reports.status_after.Goals as goal

pub returns-in-Some : goal.returns-in-Some
returns-in-Some c =
    let trip = c.args.trip.now in
    let reports = c.args.state.now.actions in
    let act = c.in-Some.act.now in
    let h = c.in-Some.ensures.lookup in
    let at = λ (acts : List Act). (c.args.n < length acts) × (act ≡ get_or acts c.args.n act) in
    let here = subst at c.as_slice.ensures (h.3.0, h.1) in
    c.unwrap_or.ensures
    ∙ ap (λ o. unwrap_or o act.status) (c.told.ensures ∙ ap (λ all. told all (act_id trip.order c.args.n)) c.as_slice-in-Some.ensures)
    ∙ sym (status-at reports trip.order trip.acts c.args.n act here.0 here.1)

pub returns-in-None : goal.returns-in-None
returns-in-None c =
    let trip = c.args.trip.now in
    let past = λ (acts : List Act). length acts ≤ c.args.n in
    sym (status-past c.args.state.now.actions trip.order trip.acts c.args.n (subst past c.as_slice.ensures c.in-None.ensures.lookup.3))
