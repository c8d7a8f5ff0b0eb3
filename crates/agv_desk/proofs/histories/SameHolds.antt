-- The table of holds stays where a vehicle is written that holds what it held.
use Rattle.std.proofs.Common.{◌≡◌, ◌↔◌, inl, inr, Option, None, Some, Contains, refl, sym, ap, subst, ◌∙◌}
use Rattle.std.specs.FinMap as finite
use Rattle.agv_header.specs.ThingOrder.{thing_cmp-total, thing_cmp-IsAntisymmetric}
use Rattle.agv_header.specs.declared.key.Thing.{Thing}
use Rattle.agv_header.specs.declared.key.VehicleKey.{VehicleKey}
use Rattle.agv_track_holds.specs.Footprints.{footprint_of}
use Rattle.agv_world_core.specs.ConsistentTrips.{IsHolder, SharesNothing}
use Rattle.agv_world_core.specs.Maps.{maps_of, standing_of}
use Rattle.agv_world_core.specs.Worlds.{Vehicle, World}
use Rattle.agv_desk.proofs.outcomes.EffectParts.{which_vehicle}
use Rattle.agv_desk.proofs.outcomes.Known.{same_some}

-- the table of holds has each vehicle's footprint, and nothing else
abbrev pub HoldsAreFootprints : Type 0
HoldsAreFootprints = (world : World) → SharesNothing world → (thing : Thing) (key : VehicleKey) → (finite.get (maps_of world).holds thing ≡ Some key) ↔ IsHolder world key thing

-- two answers that are there alike are one
alike : (one other : Option VehicleKey) → ((key : VehicleKey) → one ≡ Some key → other ≡ Some key) → ((key : VehicleKey) → other ≡ Some key → one ≡ Some key) → one ≡ other
alike None None there back = refl
alike None (Some key) there back = back key refl
alike (Some key) other there back = sym (there key refl)

module _ (footprints : HoldsAreFootprints) where
  -- worlds with the same holders have the same table
  same_table : (world next : World) → SharesNothing world → SharesNothing next → ((key : VehicleKey) (thing : Thing) → IsHolder next key thing ↔ IsHolder world key thing)
      → (maps_of next).holds ≡ (maps_of world).holds
  same_table world next apart apart_next same =
      finite.same_map thing_cmp-total thing_cmp-IsAntisymmetric (maps_of next).holds (maps_of world).holds (λ thing.
      alike (finite.get (maps_of next).holds thing) (finite.get (maps_of world).holds thing)
      (λ key is. (footprints world apart thing key).1 ((same key thing).0 ((footprints next apart_next thing key).0 is)))
      (λ key is. (footprints next apart_next thing key).1 ((same key thing).1 ((footprints world apart thing key).0 is))))

  module _ (world next : World) (key : VehicleKey) (old new : Vehicle) (was : finite.get world.vehicles key ≡ Some old) (written : next.vehicles ≡ finite.insert world.vehicles key new)
      (stands : footprint_of (standing_of new) ≡ footprint_of (standing_of old)) where
    -- who holds it now held it
    held_before : (other : VehicleKey) (thing : Thing) → IsHolder next other thing → IsHolder world other thing
    held_before other thing holds =
        elim (which_vehicle world.vehicles key new other (Some holds.0) (ap (λ vehicles. finite.get vehicles other) (sym written) ∙ holds.1)) [
          | inl is ↦
              (old, ap (finite.get world.vehicles) is.0 ∙ was, subst (λ things. Contains things thing) (ap (λ (v : Vehicle). footprint_of (standing_of v)) (same_some is.1) ∙ stands) holds.2)
          | inr other_one ↦ (holds.0, other_one.1, holds.2)
        ]

    -- who held it holds it still
    held_still : (other : VehicleKey) (thing : Thing) → IsHolder world other thing → IsHolder next other thing
    held_still other thing holds =
        elim (which_vehicle world.vehicles key new other (finite.get (finite.insert world.vehicles key new) other) refl) [
          | inl is ↦
              let same : holds.0 ≡ old = same_some (sym holds.1 ∙ ap (finite.get world.vehicles) is.0 ∙ was) in
              (new, ap (λ vehicles. finite.get vehicles other) written ∙ is.1, subst (λ things. Contains things thing) (ap (λ (v : Vehicle). footprint_of (standing_of v)) same ∙ sym stands) holds.2)
          | inr other_one ↦ (holds.0, ap (λ vehicles. finite.get vehicles other) written ∙ sym other_one.1 ∙ holds.1, holds.2)
        ]

    pub same_holds : SharesNothing world → SharesNothing next → (maps_of next).holds ≡ (maps_of world).holds
    same_holds apart apart_next = same_table world next apart apart_next (λ other thing. (held_before other thing, held_still other thing))
