-- Tests on things and holders, in words of membership.
use Rattle.std.proofs.Common.{◌≡◌, ◌↔◌, IsTrue, true, not, ◌&&◌, List, Contains, Some, None, Option, ap, ◌∙◌}
use Rattle.std.specs.Cmp.{eq_by_cmp_equiv}
use Rattle.std.proofs.lemmas.Bool.{and_parts, and_from, not-true, not_from_false, both_ways, false_from_ne_true}
use Rattle.std.proofs.lemmas.Map.Views.{Contains-from_any, list_any-from_Contains}
use Rattle.agv_header.specs.ThingOrder.{thing_cmp-total}
use Rattle.agv_header.specs.declared.key.Thing.{Thing}
use Rattle.agv_header.specs.declared.key.VehicleKey.{VehicleKey}
use Rattle.agv_track_holds.specs.Holders.{Footprints, HoldsFootprints}
use Rattle.agv_track_holds.specs.Holds.{Holds, is_in, is_own, sheds}
use Rattle.agv_track_holds.proofs.Claims.{same_thing, same_vehicle, vehicle_itself}
use Rattle.agv_track_holds.proofs.Holders.{one_needs}

pub is_member : (thing : Thing) (things : List Thing) → IsTrue (is_in thing things) ↔ Contains things thing
is_member thing things = (Contains-from_any same_thing thing things, list_any-from_Contains (eq_by_cmp_equiv thing_cmp-total) thing things)

own_from : (key : VehicleKey) (by : Option VehicleKey) → is_own key by ≡ true → by ≡ Some key
own_from key None e = cc
own_from key (Some by) e = ap Some (same_vehicle by key e)

-- what is given up
pub sheds_own : (key : VehicleKey) (old new : List Thing) (thing : Thing) (by : Option VehicleKey)
    → IsTrue (sheds key old new thing by) ↔ ((by ≡ Some key) × Contains old thing × (¬ (Contains new thing)))
sheds_own key old new thing by = (
  λ e.
      let last = and_parts (is_own key by && is_in thing old) (not (is_in thing new)) e in
      let first = and_parts (is_own key by) (is_in thing old) last.0 in (
        own_from key by first.0,
        (is_member thing old).0 first.1,
        λ among. both_ways (is_in thing new) (not-true (is_in thing new) last.1) ((is_member thing new).1 among),
      ),
  λ h.
      and_from (is_own key by && is_in thing old) (not (is_in thing new))
      (and_from (is_own key by) (is_in thing old) (ap (is_own key) h.0 ∙ vehicle_itself key) ((is_member thing old).1 h.1))
      (not_from_false (is_in thing new) (false_from_ne_true (is_in thing new) (λ among. h.2 ((is_member thing new).0 among)))),
)

-- no thing is in the footprints of two
pub needed_by_one : (table : Holds) (footprint_of : Footprints) → HoldsFootprints table footprint_of
    → (thing : Thing) (one other : VehicleKey) → Contains (footprint_of one) thing → Contains (footprint_of other) thing → one ≡ other
needed_by_one table footprint_of held thing one other a b =
    one_needs table footprint_of held thing one other ((is_member thing (footprint_of one)).1 a) ((is_member thing (footprint_of other)).1 b)
