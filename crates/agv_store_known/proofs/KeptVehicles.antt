-- The rows of vehicles that are kept beside the tables, and that they are the vehicles' once one was written.
use Rattle.std.proofs.Common.{◌≡◌, true, false, cond, Some, None, Result, Ok, Err, OnOk, OnErr, refl, sym, ap, subst, ◌∙◌}
use Rattle.std.specs.Cmp.{Equal-is}
use Rattle.std.specs.FinMap as finite
use Rattle.std.specs.Ordering.{eq_by_cmp}
use Rattle.agv_header.specs.Key.{key_cmp}
use Rattle.agv_header.specs.KeyOrder.{key_cmp-IsAntisymmetric, key_cmp-total}
use Rattle.agv_header.specs.declared.key.VehicleKey.{VehicleKey}
use Rattle.agv_world_core.specs.Changes.{change}
use Rattle.agv_world_core.specs.Maps.{Maps}
use Rattle.agv_world_core.specs.declared.change.Change.TheVariants as row
use Rattle.agv_world_core.specs.declared.row.VehicleRow.{VehicleRow}
use Rattle.agv_store_known.specs.KeptVehicles.{AreVehicles, VehiclesOf}

-- none is kept
pub none_kept : (maps : Maps) → AreVehicles finite.empty maps
none_kept maps key vehicle there = absurd (cc (sym (finite.get-empty key_cmp key) ∙ there))

-- ---- the row of a vehicle is written

module _ (key : VehicleKey) (vehicle : VehicleRow) (maps : Maps) where
  abbrev after : Maps
  after = change maps (row.Vehicle key vehicle)

  row_after : (other : VehicleKey) → finite.get after.vehicles other ≡ cond (eq_by_cmp key_cmp other key) (Some vehicle) (finite.get maps.vehicles other)
  row_after other = finite.get-insert key_cmp-total maps.vehicles key vehicle other

  -- without that of the vehicle the others stay
  others_stay : (old : VehiclesOf) → AreVehicles old maps → AreVehicles (finite.remove old key) after
  others_stay old are other known there =
      elim (eq_by_cmp key_cmp other key) as (λ b. eq_by_cmp key_cmp other key ≡ b → cond b None (finite.get old other) ≡ Some known → finite.get after.vehicles other ≡ Some known) [
        | true ↦ λ tied is. absurd (cc is)
        | false ↦ λ untied is. row_after other ∙ ap (λ b. cond b (Some vehicle) (finite.get maps.vehicles other)) untied ∙ are other known is
      ] refl (sym (finite.get-remove key_cmp-total old key other) ∙ there)

  -- with the written one too
  one_more : (mid : VehiclesOf) → AreVehicles mid after → AreVehicles (finite.insert mid key vehicle) after
  one_more mid are other known there =
      elim (eq_by_cmp key_cmp other key) as (λ b. eq_by_cmp key_cmp other key ≡ b → cond b (Some vehicle) (finite.get mid other) ≡ Some known → finite.get after.vehicles other ≡ Some known) [
        | true ↦ λ tied is. row_after other ∙ ap (λ b. cond b (Some vehicle) (finite.get maps.vehicles other)) tied ∙ is
        | false ↦ λ untied is. are other known is
      ] refl (sym (finite.get-insert key_cmp-total mid key vehicle other) ∙ there)

  -- so what is kept is right whether there was memory for it or not
  pub vehicle_written : {A E : Type 0} (old mid new : VehiclesOf) → mid ≡ finite.remove old key → (r : Result A E) → OnOk r (new ≡ finite.insert mid key vehicle) → OnErr r (new ≡ mid) → AreVehicles old maps → AreVehicles new after
  vehicle_written old mid new taken (Ok done) put same are = subst (λ kept. AreVehicles kept after) (sym (put ∙ ap (λ kept. finite.insert kept key vehicle) taken)) (one_more (finite.remove old key) (others_stay old are))
  vehicle_written old mid new taken (Err why) put same are = subst (λ kept. AreVehicles kept after) (sym (same ∙ taken)) (others_stay old are)

-- ---- a row that is kept

-- one more row that is the vehicle's
row_kept : (vehicles : VehiclesOf) (maps : Maps) (key : VehicleKey) (vehicle : VehicleRow) → finite.get maps.vehicles key ≡ Some vehicle → AreVehicles vehicles maps → AreVehicles (finite.insert vehicles key vehicle) maps
row_kept vehicles maps key vehicle own are other known there =
    elim (eq_by_cmp key_cmp other key) as (λ b. eq_by_cmp key_cmp other key ≡ b → cond b (Some vehicle) (finite.get vehicles other) ≡ Some known → finite.get maps.vehicles other ≡ Some known) [
      | true ↦ λ tied is. ap (finite.get maps.vehicles) (key_cmp-IsAntisymmetric other key ((Equal-is (key_cmp other key)).0 tied)) ∙ own ∙ is
      | false ↦ λ untied is. are other known is
    ] refl (sym (finite.get-insert key_cmp-total vehicles key vehicle other) ∙ there)

-- where there is memory for it
pub row_kept_or_not : {A E : Type 0} (vehicles more : VehiclesOf) (maps : Maps) (key : VehicleKey) (vehicle : VehicleRow) (r : Result A E) → OnOk r (more ≡ finite.insert vehicles key vehicle) → OnErr r (more ≡ vehicles)
    → finite.get maps.vehicles key ≡ Some vehicle → AreVehicles vehicles maps → AreVehicles more maps
row_kept_or_not vehicles more maps key vehicle (Ok done) put same own are = subst (λ kept. AreVehicles kept maps) (sym put) (row_kept vehicles maps key vehicle own are)
row_kept_or_not vehicles more maps key vehicle (Err why) put same own are = subst (λ kept. AreVehicles kept maps) (sym same) are
