use Rattle.std.proofs.Common.{◌≡◌, ◌++◌, List, sym, ap, ◌∙◌, append_assoc, append-nil}
use Rattle.std.specs.FinMap as finite
use Rattle.std.specs.Map.Iter.{deref_pair}
use Rattle.std.proofs.lemmas.Map.Iter.{rest_all, rest_more}
use Rattle.agv_header.specs.ThingOrder.{thing_cmp-IsAntisymmetric, thing_cmp-total}
use Rattle.agv_header.specs.declared.key.Thing.{Thing}
use Rattle.agv_header.specs.declared.key.VehicleKey.{VehicleKey}
use Rattle.agv_track_holds.specs.Holds.{Holds}
use Rattle.agv_store_floor.specs.ReportLists.{entered}
use Rattle.agv_store_floor.proofs.ReportLists.{all_entered, listed_in_order}
use Rattle.agv_store_floor.proofs.report_lists.holds_of.Goals as goal

pub loop-thing-init : goal.loop-thing-init
loop-thing-init c =
    let held = c.args.held.now in
    let table : finite.from_entries c.in_ok-holders.holders.entries ≡ held.table = c.in_ok-holders.ensures ∙ ap (entered finite.empty) c.deref.ensures.value ∙ all_entered held.table held.pairs.items held.entries held.whole in
    ap (λ (es : List (Thing × VehicleKey)). es ++ c.into_iter-thing-iterator.result) c.new-holds.ensures.items
    ∙ c.into_iter-thing-iterator.ensures.into_iter_gives
    ∙ c.iter-thing-items.ensures.rest
    ∙ sym (listed_in_order thing_cmp-total thing_cmp-IsAntisymmetric c.in_ok-holders.holders.entries c.iter-thing-items.ensures.ordered)
    ∙ ap (λ (t : Holds). finite.entries t) table

pub loop-thing-preserved : goal.loop-thing-preserved
loop-thing-preserved c =
    let rest = rest_more deref_pair _ _ _ _ c.in-Some.is c.next.ensures.steps in
    ap (λ (es : List (Thing × VehicleKey)). es ++ c.next.new.self) c.in_ok-push.ensures.items
    ∙ append_assoc c.loop-thing.holds.items _ c.next.new.self
    ∙ ap (λ (es : List (Thing × VehicleKey)). c.loop-thing.holds.items ++ es) (sym rest)
    ∙ c.loop-thing.invariant

pub returns : goal.returns
returns c =
    sym (append-nil c.loop-thing.holds.items)
    ∙ ap (λ (es : List (Thing × VehicleKey)). c.loop-thing.holds.items ++ es) (sym (rest_all deref_pair _ _ _ c.in-None.is c.next.ensures.steps))
    ∙ c.loop-thing.invariant
