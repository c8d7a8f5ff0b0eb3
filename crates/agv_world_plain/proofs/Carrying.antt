-- Which vehicle carries out a job in the world that the tables tell.
use Rattle.std.proofs.Common.{◌≡◌, ℕ, true, false, cond, List, ◌∷◌, Option, Some, None, refl, ap}
use Rattle.std.specs.FinMap as finite
use Rattle.std.specs.Bool.{then_some}
use Rattle.std.specs.List.{find}
use Rattle.std.specs.Option.{option_and_then}
use Rattle.agv_header.specs.declared.key.VehicleKey.{VehicleKey}
use Rattle.agv_order.specs.declared.trip.Trip.{Trip}
use Rattle.agv_world_core.specs.Carriers.{has_drop_of, carrier_by, carrier_of}
use Rattle.agv_world_core.specs.Told.{open_trip, vehicle_in, vehicles_in, world_of}
use Rattle.agv_world_core.specs.Worlds.{Vehicle}
use Rattle.agv_world_core.specs.declared.floor.Carrier.{Carrier}
use Rattle.agv_world_core.specs.declared.row.VehicleRow.{VehicleRow}
use Rattle.agv_world_core.specs.declared.world.World.{World as Tables}
use Rattle.agv_world_core.proofs.told_worlds.Counts.{entries-vehicles_of}
use Rattle.agv_world_plain.specs.Carrying.{order_dropping}

module _ (tables : Tables) (job : List ℕ) where
  -- the vehicle of the first of these rows whose open trip has an unfinished drop of the job
  abbrev pub carrier_among : List (VehicleKey × VehicleRow) → Option Carrier
  carrier_among es = option_and_then carrier_by (find (λ (vehicle : VehicleKey × Vehicle). has_drop_of job vehicle.1.trip) (vehicles_in tables es))

  -- a trip without an order for the job has no drop of it
  no_drop : (trip : Option Trip) → order_dropping job trip ≡ None → has_drop_of job trip ≡ false
  no_drop None none = refl
  no_drop (Some trip) none =
      elim (has_drop_of job (Some trip)) as (λ b. then_some b trip.order ≡ None → b ≡ false) [
        | true ↦ λ is. absurd (cc is)
        | false ↦ λ is. refl
      ] none

  -- a trip with an order for the job has a drop of it
  one_drop : (key : VehicleKey) (row : VehicleRow) (order : List ℕ) (rest : Option (VehicleKey × Vehicle)) (trip : Option Trip) → order_dropping job trip ≡ Some order
      → option_and_then carrier_by (cond (has_drop_of job trip) (Some (key, record { row = row; trip = trip })) rest) ≡ Some (record { vehicle = key; order = order })
  one_drop key row order rest None one = absurd (cc one)
  one_drop key row order rest (Some trip) one =
      elim (has_drop_of job (Some trip)) as (λ b. then_some b trip.order ≡ Some order
      → option_and_then carrier_by (cond b (Some (key, record { row = row; trip = Some trip })) rest) ≡ Some (record { vehicle = key; order = order })) [
        | true ↦ λ is. ap (option_and_then (λ (it : List ℕ). Some (record { vehicle = key; order = it }))) is
        | false ↦ λ is. absurd (cc is)
      ] one

  -- a row whose vehicle does not carry out the job is passed over
  pub passed_over : (e : VehicleKey × VehicleRow) (es : List (VehicleKey × VehicleRow)) → order_dropping job (open_trip tables e.0) ≡ None → carrier_among (e ∷ es) ≡ carrier_among es
  passed_over e es none =
      ap (λ b. option_and_then carrier_by (cond b (Some (e.0, vehicle_in tables e.0 e.1)) (find (λ (vehicle : VehicleKey × Vehicle). has_drop_of job vehicle.1.trip) (vehicles_in tables es)))) (no_drop (open_trip tables e.0) none)

  -- a row whose vehicle carries out the job is the one
  pub found_first : (e : VehicleKey × VehicleRow) (es : List (VehicleKey × VehicleRow)) (order : List ℕ) → order_dropping job (open_trip tables e.0) ≡ Some order
      → carrier_among (e ∷ es) ≡ Some (record { vehicle = e.0; order = order })
  found_first e es order one =
      one_drop e.0 e.1 order (find (λ (vehicle : VehicleKey × Vehicle). has_drop_of job vehicle.1.trip) (vehicles_in tables es)) (open_trip tables e.0) one

  -- the rows of all vehicles
  pub carrier_of-told : carrier_of (world_of tables) job ≡ carrier_among (finite.entries tables.vehicles)
  unfolding carrier_of
  carrier_of-told =
      ap (λ (es : List (VehicleKey × Vehicle)). option_and_then carrier_by (find (λ (vehicle : VehicleKey × Vehicle). has_drop_of job vehicle.1.trip) es)) (entries-vehicles_of tables)
