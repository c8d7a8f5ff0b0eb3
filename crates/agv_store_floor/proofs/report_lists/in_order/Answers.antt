use Rattle.std.proofs.Common.{◌+◌, ◌∷◌, drop, ap, sym, ◌∙◌}
use Rattle.std.proofs.lemmas.List.{at_drop_more}
use Rattle.std.specs.FinMap as finite
use Rattle.agv_header.specs.ThingOrder.{thing_cmp-IsAntisymmetric, thing_cmp-total}
use Rattle.agv_header.specs.declared.key.Thing.{Thing}
use Rattle.agv_header.specs.declared.key.VehicleKey.{VehicleKey}
use Rattle.agv_track_holds.specs.Holds.{Holds}
use Rattle.agv_store_floor.specs.ReportLists.{entered}
use Rattle.agv_store_floor.proofs.ReportLists.{inserted}
use Rattle.agv_store_floor.proofs.report_lists.in_order.Goals as goal

pub loop-thing-preserved : goal.loop-thing-preserved
loop-thing-preserved c =
    let pairs = c.args.pairs.now in
    let i = c.loop-thing.thing-index in
    let pair = c.loop-thing-item.result in
    let table : Holds = finite.from_entries c.loop-thing.holders.entries in
    ap (λ (t : Holds). entered t (drop (i + 1) pairs)) (inserted thing_cmp-total thing_cmp-IsAntisymmetric _ _ _ _ c.in_ok-insert.ensures.updates.0)
    ∙ ap (λ (p : Thing × VehicleKey). entered table (p ∷ drop (i + 1) pairs)) c.loop-thing-item.is
    ∙ sym (at_drop_more (entered table) pairs i pair c.loop-thing-test.true)
    ∙ c.loop-thing.invariant
