-- The vehicle that carries out a job in a world, from the list of its vehicles.
use Rattle.std.proofs.Common.{◌≡◌, ℕ, Bool, true, false, cond, List, [], ◌∷◌, map, Option, Some, refl, ap, ◌∙◌}
use Rattle.std.specs.FinMap as finite
use Rattle.std.specs.List.{find}
use Rattle.std.specs.Option.{option_and_then}
use Rattle.agv_header.specs.declared.key.VehicleKey.{VehicleKey}
use Rattle.agv_world_core.specs.Carriers.{has_drop_of, carrier_by, carrier_of as carrier_in}
use Rattle.agv_world_core.specs.Worlds.{Vehicle, World}
use Rattle.agv_world_core.specs.declared.floor.Carrier.{Carrier}
use Rattle.agv_count_exports.specs.Exports.{as_carrier, carrier_of, vehicles_told}
use Rattle.agv_count_exports.specs.declared.told.VehicleTold.{VehicleTold}

module _ (job : List ℕ) where
  abbrev rides : VehicleKey × Vehicle → Bool
  rides vehicle = has_drop_of job vehicle.1.trip

  abbrev told : VehicleKey × Vehicle → VehicleTold
  told entry = record { key = entry.0; row = entry.1.row; trip = entry.1.trip }

  chosen : (b : Bool) (e : VehicleKey × Vehicle) (more : Option VehicleTold) (rest : Option (VehicleKey × Vehicle)) → option_and_then as_carrier more ≡ option_and_then carrier_by rest
      → option_and_then as_carrier (cond b (Some (told e)) more) ≡ option_and_then carrier_by (cond b (Some e) rest)
  chosen true e more rest same = refl
  chosen false e more rest same = same

  carrier-told : (es : List (VehicleKey × Vehicle)) → option_and_then as_carrier (carrier_of (map told es) job) ≡ option_and_then carrier_by (find rides es)
  carrier-told [] = refl
  carrier-told (e ∷ es) = chosen (rides e) e (carrier_of (map told es) job) (find rides es) (carrier-told es)

  -- the one of the list of all vehicles is the one of the world
  pub carrier-of_all : (vehicles : List VehicleTold) (found : Option Carrier) → found ≡ option_and_then as_carrier (carrier_of vehicles job) → (world : World) → vehicles ≡ vehicles_told world → found ≡ carrier_in world job
  unfolding carrier_in
  carrier-of_all vehicles found is world all =
      is ∙ ap (λ (them : List VehicleTold). option_and_then as_carrier (carrier_of them job)) all ∙ carrier-told (finite.entries world.vehicles)
