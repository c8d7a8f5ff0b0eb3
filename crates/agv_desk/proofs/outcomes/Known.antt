-- What the answers to questions of a vehicle say of the vehicle.
use Rattle.std.proofs.Common.{◌≡◌, Option, None, Some, refl, sym, ap}
use Rattle.std.specs.FinMap as finite
use Rattle.std.specs.Option.{option_map, option_and_then}
use Rattle.agv_header.specs.declared.key.VehicleKey.{VehicleKey}
use Rattle.agv_order.specs.declared.trip.Trip.{Trip}
use Rattle.agv_world_core.specs.ConsistentTrips.{HasTrip}
use Rattle.agv_world_core.specs.Questions.{row_of, trip_of}
use Rattle.agv_world_core.specs.Worlds.{Vehicle, World}
use Rattle.agv_world_core.specs.declared.row.VehicleRow.{VehicleRow}

pub none_some : {A X : Type 0} {x : A} → None ≡ Some x → X
none_some e = cc

pub same_some : {A : Type 0} {x y : A} → Some x ≡ Some y → x ≡ y
same_some {A} {x} {y} e = ap (λ (o : Option A). elim o [ Some z ↦ z | None ↦ x ]) e

-- a vehicle with this row and this trip
abbrev pub vehicle_with : VehicleRow → Option Trip → Vehicle
vehicle_with row trip = record { row = row; trip = trip }

row_there : (there : Option Vehicle) (row : VehicleRow) → option_map (λ (vehicle : Vehicle). vehicle.row) there ≡ Some row
    → there ≡ Some (vehicle_with row (option_and_then (λ (vehicle : Vehicle). vehicle.trip) there))
row_there None row e = none_some e
row_there (Some vehicle) row e = let same = same_some e in λ i. Some (record { row = same i; trip = vehicle.trip })

-- a vehicle of which a row is told is there, with that row and its trip
pub known : (world : World) (key : VehicleKey) (row : VehicleRow) → row_of world key ≡ Some row
    → finite.get world.vehicles key ≡ Some (vehicle_with row (trip_of world key))
known world key row e = row_there (finite.get world.vehicles key) row e

-- an open trip is that of the vehicle
trip_there : (there : Option Vehicle) (trip : Trip) → option_and_then (λ (vehicle : Vehicle). vehicle.trip) there ≡ Some trip
    → (vehicle : Vehicle) × (there ≡ Some vehicle) × (vehicle.trip ≡ Some trip)
trip_there None trip e = none_some e
trip_there (Some vehicle) trip e = (vehicle, refl, e)

pub has_trip : (world : World) (key : VehicleKey) (trip : Trip) → trip_of world key ≡ Some trip → HasTrip world key trip
has_trip world key trip e = trip_there (finite.get world.vehicles key) trip e

-- a vehicle that is told of no row is not there
row_missing : (there : Option Vehicle) → option_map (λ (vehicle : Vehicle). vehicle.row) there ≡ None → there ≡ None
row_missing None e = refl
row_missing (Some vehicle) e = none_some (sym e)

pub unknown : (world : World) (key : VehicleKey) → row_of world key ≡ None → finite.get world.vehicles key ≡ None
unknown world key e = row_missing (finite.get world.vehicles key) e
