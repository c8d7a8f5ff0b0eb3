-- What the test of the loads on vehicles says.
use Rattle.std.proofs.Common.{◌≡◌, ◌↔◌, ◌&&◌, ℕ, ◌+◌, ◌≤◌, Bool, true, false, List, [], count_by, Option, None, Some, find, option_map, refl, sym, ap, subst, ◌∙◌, arith}
use Rattle.std.specs.FinMap as finite
use Rattle.std.proofs.lemmas.Bool.{le-leb, leb-true}
use Rattle.agv_header.specs.KeyOrder.{key_cmp-IsAntisymmetric, key_cmp-total}
use Rattle.agv_header.specs.declared.key.VehicleKey.{VehicleKey}
use Rattle.agv_order.specs.declared.act.Act.{Act}
use Rattle.agv_order.specs.declared.trip.Trip.{Trip}
use Rattle.agv_stock.specs.Rooms.{is_on}
use Rattle.agv_stock.specs.declared.place.Place.{Place}
use Rattle.agv_world_core.specs.ConsistentTrips.{IsVehicle}
use Rattle.agv_world_core.specs.Lawful.{is_to_drop, other_loads}
use Rattle.agv_world_lawful.specs.LoadTests.{acts_in, acts_of, are_within_capacity, is_within_capacity, loads_of_others}
use Rattle.agv_world_core.specs.Questions.{loads_on}
use Rattle.agv_world_core.specs.Told.{names_vehicle, open_trip, trip_in, vehicle_in, world_of}
use Rattle.agv_world_core.specs.Worlds.{Vehicle}
use Rattle.agv_world_core.specs.declared.row.TripRow.{TripRow}
use Rattle.agv_world_core.specs.declared.row.VehicleRow.{VehicleRow}
use Rattle.agv_world_core.specs.declared.world.World.{World as Tables}
use Rattle.agv_world_core.proofs.lists.EachEntry.{all-entries, each-entry}
use Rattle.agv_world_core.proofs.told_worlds.RowsTold.{row_of_vehicle, vehicle_of_row}

-- the acts of a trip, none without one
abbrev pub acts_by : Option Trip → List Act
acts_by None = []
acts_by (Some trip) = trip.acts

module _ (tables : Tables) where
  -- the acts of a vehicle are those of its trip
  acts_told : (key : VehicleKey) → acts_of tables key ≡ acts_by (open_trip tables key)
  unfolding open_trip
  acts_told key = by (find (names_vehicle key) (finite.entries tables.trips))
    where
      by : (found : Option (List ℕ × TripRow)) → acts_in found ≡ acts_by (option_map (trip_in tables) found)
      by None = refl
      by (Some entry) = refl

  -- how many places the vehicle needs for these acts and the loads that are none of theirs
  abbrev load_of : VehicleKey → List Act → ℕ
  load_of key acts = loads_of_others tables key acts + count_by is_to_drop acts

  none_carried : (key : VehicleKey) → load_of key [] ≡ loads_on (world_of tables) key
  unfolding loads_on
  none_carried key = add_none _ _ (λ i. count_by (λ (load : List ℕ × Place). and_true (is_on key load.1) i) (finite.entries tables.loads))
    where
      add_none : (n m : ℕ) → n ≡ m → n + 0 ≡ m
      add_none n m e = omega (arith, e)

      and_true : (b : Bool) → (b && true) ≡ b
      and_true true = refl
      and_true false = refl

  -- a vehicle without a trip has at most as many loads as it has places; with a trip, its other loads and the trip's jobs that are not done are together at most that many
  pub record AllWithinCapacity : Type 0 where
    pub idle : (key : VehicleKey) (vehicle : Vehicle) → IsVehicle (world_of tables) key vehicle → vehicle.trip ≡ None → loads_on (world_of tables) key ≤ vehicle.row.capacity
    pub within_capacity : (key : VehicleKey) (vehicle : Vehicle) (trip : Trip) → IsVehicle (world_of tables) key vehicle → vehicle.trip ≡ Some trip → other_loads (world_of tables) key trip + count_by is_to_drop trip.acts ≤ vehicle.row.capacity

  pub within_capacity_told : (are_within_capacity tables ≡ true) ↔ AllWithinCapacity
  within_capacity_told =
      let test : VehicleKey × VehicleRow → Bool = λ entry. is_within_capacity tables entry (acts_of tables entry.0) in (
        λ all.
            let few = λ (key : VehicleKey) (vehicle : Vehicle) (known : IsVehicle (world_of tables) key vehicle).
            let of = row_of_vehicle tables key vehicle known in
            let fits = leb-true (load_of key (acts_of tables key)) vehicle.row.capacity (each-entry key_cmp-total key_cmp-IsAntisymmetric test tables.vehicles all key vehicle.row of.row) in
            subst (λ acts. load_of key acts ≤ vehicle.row.capacity) (acts_told key ∙ ap acts_by of.trip) fits in
            record {
              idle = λ key vehicle known none. subst (λ n. n ≤ vehicle.row.capacity) (none_carried key) (subst (λ trip. load_of key (acts_by trip) ≤ vehicle.row.capacity) none (few key vehicle known));
              within_capacity = λ key vehicle trip known has. subst (λ trip. load_of key (acts_by trip) ≤ vehicle.row.capacity) has (few key vehicle known);
            },
        λ within_capacity. all-entries key_cmp-total key_cmp-IsAntisymmetric test tables.vehicles (λ key row at.
            le-leb (load_of key (acts_of tables key)) row.capacity (subst (λ acts. load_of key acts ≤ row.capacity) (sym (acts_told key)) (of_trip within_capacity key (vehicle_in tables key row) (vehicle_of_row tables key row at) (open_trip tables key) refl))),
      )
    where
      of_trip : AllWithinCapacity → (key : VehicleKey) (vehicle : Vehicle) → IsVehicle (world_of tables) key vehicle → (trip : Option Trip) → vehicle.trip ≡ trip → load_of key (acts_by trip) ≤ vehicle.row.capacity
      of_trip within_capacity key vehicle known None none = subst (λ n. n ≤ vehicle.row.capacity) (sym (none_carried key)) (within_capacity.idle key vehicle known none)
      of_trip within_capacity key vehicle known (Some trip) has = within_capacity.within_capacity key vehicle trip known has
