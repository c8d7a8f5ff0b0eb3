-- The vehicles that are told are those of the world, in the order of their keys, each as it is told by itself.
use Rattle.std.proofs.Common.{◌≡◌, ◌↔◌, inl, inr, true, false, cond, T, List, [], ◌∷◌, map, Contains, Option, Some, Less, arith, refl, sym, ap, subst, ◌∙◌}
use Rattle.std.specs.FinMap as finite
use Rattle.std.specs.FinMap.Entries.{below_all, find, is_sorted}
use Rattle.std.specs.List.{AllByRecursion}
use Rattle.std.specs.List.Sorted.{IsStrictlySortedBy}
use Rattle.std.specs.Option.{option_and_then, option_map}
use Rattle.std.specs.Ordering.{eq_by_cmp}
use Rattle.agv_count_exports.specs.Exports.{vehicles_told}
use Rattle.agv_count_exports.specs.declared.told.VehicleTold.{VehicleTold}
use Rattle.agv_header.specs.Key.{key_cmp}
use Rattle.agv_header.specs.KeyOrder.{key_cmp-total, key_cmp-IsAntisymmetric}
use Rattle.agv_header.specs.declared.key.VehicleKey.{VehicleKey}
use Rattle.agv_header.specs.declared.refusal.Refusal.TheVariants as refusal
use Rattle.agv_world_core.specs.ConsistentTrips.{IsVehicle}
use Rattle.agv_world_core.specs.Worlds.{Vehicle, World}
use Rattle.agv_world_core.proofs.lists.Entries.{entries_found, is_same, no_more, same_Some}
use Rattle.agv_desk.specs.Outcomes.{Made, answer_of, answer_only, refuse_if_none}
use Rattle.agv_desk.specs.ReadSteps.{get_vehicle, open_order}
use Rattle.agv_desk.specs.declared.answer.Answer.TheVariants as answer
use Rattle.agv_desk.proofs.exports.JobsTold.{first_or_later, later, left, less, right}

told_of : VehicleKey × Vehicle → VehicleTold
told_of entry = record { key = entry.0; row = entry.1.row; trip = entry.1.trip }

key_told : VehicleTold → VehicleKey
key_told vehicle = vehicle.key

-- ---- which vehicles

-- what each entry has, each vehicle that is told has
each_told : (P : VehicleKey × Vehicle → Type 0) (es : List (VehicleKey × Vehicle)) → AllByRecursion P es → (vehicle : VehicleTold) → Contains (map told_of es) vehicle
    → P (vehicle.key, record { row = vehicle.row; trip = vehicle.trip })
unfolding told_of
each_told P [] each vehicle among = let below = among.1 in absurd (omega arith)
each_told P (e ∷ es) each vehicle among =
    elim (first_or_later vehicle (told_of e) (map told_of es) among) [
      | inl same ↦ subst (λ (v : VehicleTold). P (v.key, record { row = v.row; trip = v.trip })) same each.0
      | inr rest ↦ each_told P es each.1 vehicle rest
    ]

-- the vehicle at a key is told
told_where : (key : VehicleKey) (vehicle : Vehicle) (es : List (VehicleKey × Vehicle)) → find key_cmp key es ≡ Some vehicle → Contains (map told_of es) (told_of (key, vehicle))
told_where key vehicle [] at = absurd (no_more vehicle at)
told_where key vehicle (e ∷ es) at =
    elim (eq_by_cmp key_cmp key e.0) as (λ b. eq_by_cmp key_cmp key e.0 ≡ b → cond b (Some e.1) (find key_cmp key es) ≡ Some vehicle → Contains (map told_of (e ∷ es)) (told_of (key, vehicle))) [
      | true ↦ λ tied is.
          let same : e ≡ (key, vehicle) = λ i. (sym (is_same key_cmp-IsAntisymmetric key e.0 tied) i, same_Some e.1 vehicle is i) in
          (0, omega arith, ap told_of same)
      | false ↦ λ tied is. later (told_of (key, vehicle)) (told_of e) (map told_of es) (told_where key vehicle es is)
    ] refl at

pub told_of_world : (world : World) (vehicle : VehicleTold) → Contains (vehicles_told world) vehicle ↔ IsVehicle world vehicle.key (record { row = vehicle.row; trip = vehicle.trip })
unfolding told_of
told_of_world world vehicle =
    let entries = finite.entries world.vehicles in (
      λ among. each_told (λ (e : VehicleKey × Vehicle). IsVehicle world e.0 e.1) entries (entries_found key_cmp-total world.vehicles) vehicle among,
      λ is. told_where vehicle.key (record { row = vehicle.row; trip = vehicle.trip }) entries (sym (finite.get-entries world.vehicles vehicle.key) ∙ is),
    )

-- ---- their order

below : (key : VehicleKey) (es : List (VehicleKey × Vehicle)) → T (below_all key_cmp key es) → AllByRecursion (λ y. key_cmp key y ≡ Less) (map key_told (map told_of es))
unfolding told_of key_told
below key [] all = tt
below key (e ∷ es) all = (less _ (left _ _ all), below key es (right _ _ all))

sorted : (es : List (VehicleKey × Vehicle)) → T (is_sorted key_cmp es) → IsStrictlySortedBy key_cmp (map key_told (map told_of es))
unfolding told_of key_told IsStrictlySortedBy
sorted [] all = tt
sorted (e ∷ es) all = (below e.0 es (left _ _ all), sorted es (right _ _ all))

pub told_by_keys : (world : World) → IsStrictlySortedBy key_cmp (map (λ (vehicle : VehicleTold). vehicle.key) (vehicles_told world))
unfolding told_of key_told
told_by_keys world = sorted (finite.entries world.vehicles) (finite.entries_sorted world.vehicles)

-- ---- what is told

answered : (world : World) (vehicle : VehicleTold) → IsVehicle world vehicle.key (record { row = vehicle.row; trip = vehicle.trip })
    → answer_of (get_vehicle world vehicle.key) ≡ answer.Vehicle vehicle.key vehicle.row (option_map open_order vehicle.trip)
unfolding answer_of refuse_if_none
answered world vehicle is =
    ap (λ (found : Option Vehicle). answer_of (refuse_if_none (option_map (λ (there : Vehicle). there.row) found) refusal.NoVehicle (λ row. Made (answer_only (answer.Vehicle vehicle.key row (option_map open_order (option_and_then (λ (there : Vehicle). there.trip) found))))))) is

pub told_by_itself : (world : World) (vehicle : VehicleTold) → Contains (vehicles_told world) vehicle
    → answer_of (get_vehicle world vehicle.key) ≡ answer.Vehicle vehicle.key vehicle.row (option_map open_order vehicle.trip)
told_by_itself world vehicle among = answered world vehicle ((told_of_world world vehicle).0 among)
