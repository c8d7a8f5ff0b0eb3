-- When a vehicle that is written leaves the footprints apart, and one trip an order.
use Rattle.std.proofs.Common.{◌≡◌, ◌≢◌, ◌⊎◌, inl, inr, true, false, cond, List, [], ◌∷◌, Option, Some, None, refl, sym, ap, subst, ◌∙◌}
use Rattle.std.specs.FinMap.{get}
use Rattle.std.specs.List.{Contains}
use Rattle.std.proofs.lemmas.Bool.{false≢true, or_cases}
use Rattle.std.proofs.lemmas.Map.Views.{list_any-from_Contains}
use Rattle.agv_header.specs.KeyOrder.{key_eq, key_cmp-ties, key_cmp-total, key_cmp-IsAntisymmetric}
use Rattle.agv_header.specs.ThingOrder.{thing_eq, thing_eq-equivalence, thing_cmp-IsAntisymmetric}
use Rattle.agv_header.specs.declared.key.Thing.{Thing}
use Rattle.agv_header.specs.declared.key.VehicleKey.{VehicleKey}
use Rattle.agv_order.specs.declared.trip.Trip.{Trip}
use Rattle.agv_track_holds.specs.Footprints.{footprint_of}
use Rattle.agv_track_holds.specs.Holds.{Holds, is_in, first_held, other_holder, or_further}
use Rattle.agv_world_core.specs.ConsistentTrips.{IsVehicle, IsHolder, HasTrip, HasOneTripAnOrder, SharesNothing}
use Rattle.agv_world_core.specs.Maps.{maps_of, standing_of}
use Rattle.agv_world_core.specs.VehicleChanges.{with_vehicle}
use Rattle.agv_world_core.specs.Worlds.{Vehicle, World}
use Rattle.agv_world_core.proofs.lists.Entries.{no_more, same_Some, is_same}
use Rattle.agv_world_core.proofs.world_rows.Holders.{holder_is}
use Rattle.agv_world_core.proofs.lists.Puts.{put_cases}

-- a vehicle is the one that was written, or another one of before
pub which : (world : World) (key : VehicleKey) (vehicle : Vehicle) (one : VehicleKey) (x : Vehicle) → IsVehicle (with_vehicle world key vehicle) one x
    → ((one ≡ key) × (x ≡ vehicle)) ⊎ ((one ≢ key) × IsVehicle world one x)
which world = put_cases key_cmp-total key_cmp-IsAntisymmetric world.vehicles

-- ---- footprints
abbrev pub Needs : Vehicle → Thing → Type 0
Needs vehicle thing = Contains (footprint_of (standing_of vehicle)) thing

module _ (world : World) (key : VehicleKey) (vehicle : Vehicle) (shares : SharesNothing world) where
  -- no other vehicle holds what this one needs
  pub apart_from_others : ((thing : Thing) (other : VehicleKey) → Needs vehicle thing → IsHolder world other thing → other ≡ key) → SharesNothing (with_vehicle world key vehicle)
  apart_from_others free one other thing a b = elim (which world key vehicle one a.0 a.1) [
    | inl s ↦ elim (which world key vehicle other b.0 b.1) [
      | inl r ↦ s.0 ∙ sym r.0
      | inr r ↦ s.0 ∙ sym (free thing other (subst (λ x. Needs x thing) s.1 a.2) (b.0, r.1, b.2))
    ]
    | inr s ↦ elim (which world key vehicle other b.0 b.1) [
      | inl r ↦ free thing one (subst (λ x. Needs x thing) r.1 b.2) (a.0, s.1, a.2) ∙ sym r.0
      | inr r ↦ shares one other thing (a.0, s.1, a.2) (b.0, r.1, b.2)
    ]
  ]

or_own : (key : VehicleKey) (o : Option VehicleKey) → other_holder key o ≡ None → (by : VehicleKey) → o ≡ Some by → by ≡ key
or_own key None none by e = absurd (no_more by e)
or_own key (Some holder) none by e = elim (key_eq holder key) as (λ b. key_eq holder key ≡ b → cond b None (Some holder) ≡ None → by ≡ key) [
  | true ↦ λ s f. sym (same_Some holder by e) ∙ is_same key_cmp-IsAntisymmetric holder key (sym (key_cmp-ties holder key) ∙ s)
  | false ↦ λ s f. absurd (no_more holder (sym f))
] refl none

further : (thing : Thing) (o : Option VehicleKey) (rest : Option (Thing × VehicleKey)) → or_further thing o rest ≡ None → (o ≡ None) × (rest ≡ None)
further thing None rest e = (refl, e)
further thing (Some by) rest e = absurd (no_more (thing, by) (sym e))

-- where the claim isn't refused, who holds one of the things is the vehicle itself
open_to : (table : Holds) (key : VehicleKey) (things : List Thing) → first_held table key things ≡ None → (q : Thing) → is_in q things ≡ true → (by : VehicleKey) → get table q ≡ Some by → by ≡ key
open_to table key [] none q among by e = absurd (false≢true among)
open_to table key (thing ∷ things) none q among by e =
    let parts = further thing (other_holder key (get table thing)) (first_held table key things) none in
    elim (or_cases (thing_eq q thing) (is_in q things) among) [
      | inl same ↦ or_own key (get table thing) parts.0 by (sym (ap (get table) (is_same thing_cmp-IsAntisymmetric q thing same)) ∙ e)
      | inr later ↦ open_to table key things parts.1 q later by e
    ]

-- a vehicle whose claim isn't refused
pub apart_by_claim : (world : World) (key : VehicleKey) (vehicle : Vehicle) → SharesNothing world → first_held (maps_of world).holds key (footprint_of (standing_of vehicle)) ≡ None → SharesNothing (with_vehicle world key vehicle)
apart_by_claim world key vehicle shares none =
    apart_from_others world key vehicle shares (λ thing other needs held. open_to (maps_of world).holds key (footprint_of (standing_of vehicle)) none thing (list_any-from_Contains thing_eq-equivalence thing _ needs) other ((holder_is world shares thing other).1 held))

-- a vehicle that needs nothing but what it had
pub apart_by_less : (world : World) (key : VehicleKey) (old new : Vehicle) → get world.vehicles key ≡ Some old
    → ((thing : Thing) → Contains (footprint_of (standing_of new)) thing → Contains (footprint_of (standing_of old)) thing) → SharesNothing world → SharesNothing (with_vehicle world key new)
apart_by_less world key old new at less shares =
    apart_from_others world key new shares (λ thing other needs held. shares other key thing held (old, at, less thing needs))

-- ---- trips
module _ (world : World) (key : VehicleKey) (vehicle : Vehicle) (once : HasOneTripAnOrder world) where
  -- no other vehicle has a trip of the order
  pub one_trip_of : ((trip : Trip) → vehicle.trip ≡ Some trip → (other : VehicleKey) (other_trip : Trip) → HasTrip world other other_trip → trip.order ≡ other_trip.order → other ≡ key) → HasOneTripAnOrder (with_vehicle world key vehicle)
  one_trip_of free one other trip more a b same = elim (which world key vehicle one a.0 a.1) [
    | inl s ↦ elim (which world key vehicle other b.0 b.1) [
      | inl r ↦ s.0 ∙ sym r.0
      | inr r ↦ s.0 ∙ sym (free trip (sym (ap (λ (x : Vehicle). x.trip) s.1) ∙ a.2) other more (b.0, r.1, b.2) same)
    ]
    | inr s ↦ elim (which world key vehicle other b.0 b.1) [
      | inl r ↦ free more (sym (ap (λ (x : Vehicle). x.trip) r.1) ∙ b.2) one trip (a.0, s.1, a.2) (sym same) ∙ sym r.0
      | inr r ↦ once one other trip more (a.0, s.1, a.2) (b.0, r.1, b.2) same
    ]
  ]

  pub one_trip_without : vehicle.trip ≡ None → HasOneTripAnOrder (with_vehicle world key vehicle)
  one_trip_without idle = one_trip_of (λ trip e other more held same. absurd (no_more trip (sym idle ∙ e)))

  pub one_trip_further : (before trip : Trip) → HasTrip world key before → vehicle.trip ≡ Some trip → trip.order ≡ before.order → HasOneTripAnOrder (with_vehicle world key vehicle)
  one_trip_further before trip had has order = one_trip_of (λ now e other more held same.
      once other key more before held had (sym same ∙ ap (λ (t : Trip). t.order) (same_Some _ _ (sym e ∙ has)) ∙ order))

  pub one_trip_new : (trip : Trip) → vehicle.trip ≡ Some trip → ((other : VehicleKey) (more : Trip) → HasTrip world other more → trip.order ≢ more.order) → HasOneTripAnOrder (with_vehicle world key vehicle)
  one_trip_new trip has fresh = one_trip_of (λ now e other more held same.
      absurd (fresh other more held (ap (λ (t : Trip). t.order) (same_Some _ _ (sym has ∙ e)) ∙ same)))
