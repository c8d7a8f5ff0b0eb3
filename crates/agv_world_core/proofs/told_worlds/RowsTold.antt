-- Which vehicles and open trips the rows in memory tell, where they are the rows of the world that they tell.
use Rattle.std.proofs.Common.{◌≡◌, ℕ, List, Contains, Option, Some, None, option_map, is_some, true, refl, sym, ap, subst, ◌∙◌}
use Rattle.std.specs.FinMap as finite
use Rattle.std.specs.FinMap.{get}
use Rattle.std.proofs.lemmas.List.Elements.{recursion_from_All}
use Rattle.agv_header.specs.Name.{name_cmp}
use Rattle.agv_header.specs.declared.key.VehicleKey.{VehicleKey}
use Rattle.agv_order.specs.WellFormed.{IsEdgeOf}
use Rattle.agv_order.specs.declared.act.Act.{Act}
use Rattle.agv_order.specs.declared.trip.Trip.{Trip}
use Rattle.agv_world_core.specs.ConsistentTrips.{HasTrip, HasConsistentTrips, IsVehicle}
use Rattle.agv_world_core.specs.Kept.{Keeps}
use Rattle.agv_world_core.specs.Lawful.{HasAct}
use Rattle.agv_world_core.specs.LawfulParts.{HasLawfulVehicles}
use Rattle.agv_world_core.specs.Maps.{rows_of_trip, trip_row}
use Rattle.agv_world_core.specs.Told.{open_trip, vehicle_in, world_of}
use Rattle.agv_world_core.specs.Worlds.{Vehicle, World}
use Rattle.agv_world_core.specs.declared.row.TripRow.{TripRow}
use Rattle.agv_world_core.specs.declared.row.VehicleRow.{VehicleRow}
use Rattle.agv_world_core.specs.declared.world.World.{World as Tables}
use Rattle.agv_world_core.proofs.lists.Entries.{no_more, same_Some}
use Rattle.agv_world_core.proofs.lists.Orders.{names_total}
use Rattle.agv_world_core.proofs.world_rows.RowKeys.{own_key, trip_at}
use Rattle.agv_world_core.proofs.told_worlds.Telling.{get-vehicles_of}
use Rattle.agv_world_core.proofs.world_rows.Unique.{trips_of}

-- ---- what is there

pub known : {X : Type 0} (o : Option X) → is_some o ≡ true → (x : X) × (o ≡ Some x)
known None is = cc
known (Some x) is = (x, refl)

-- ---- vehicles

module _ (tables : Tables) where
  -- a row is that of a vehicle, with the vehicle's trip
  pub vehicle_of_row : (key : VehicleKey) (row : VehicleRow) → get tables.vehicles key ≡ Some row → IsVehicle (world_of tables) key (vehicle_in tables key row)
  vehicle_of_row key row at = get-vehicles_of tables key ∙ ap (option_map (vehicle_in tables key)) at

  -- a vehicle has its row and its trip
  pub record OfVehicle (key : VehicleKey) (vehicle : Vehicle) : Type 0 where
    pub row : get tables.vehicles key ≡ Some vehicle.row
    pub trip : open_trip tables key ≡ vehicle.trip

  pub row_of_vehicle : (key : VehicleKey) (vehicle : Vehicle) → IsVehicle (world_of tables) key vehicle → OfVehicle key vehicle
  row_of_vehicle key vehicle known = of_row (get tables.vehicles key) refl (sym (get-vehicles_of tables key) ∙ known)
    where
      of_row : (found : Option VehicleRow) → get tables.vehicles key ≡ found → option_map (vehicle_in tables key) found ≡ Some vehicle → OfVehicle key vehicle
      of_row None at is = absurd (no_more vehicle is)
      of_row (Some row) at is =
          let same : vehicle_in tables key row ≡ vehicle = same_Some (vehicle_in tables key row) vehicle is in
          record { row = at ∙ ap (λ (v : Vehicle). Some v.row) same; trip = ap (λ (v : Vehicle). v.trip) same }

-- ---- trips

pub good_vehicles : {seats : ℕ} (world : World) → HasLawfulVehicles seats world → HasConsistentTrips world
good_vehicles world vehicles = record {
  one_trip = vehicles.one_trip;
  own = λ key trip has. (vehicles.trips key has.0 trip has.1 has.2).own;
  known = λ key trip has. recursion_from_All (IsEdgeOf world.layout) trip.edges (vehicles.trips key has.0 trip has.1 has.2).well_formed.planned.edges;
}

module _ (tables : Tables) (world : World) (keeps : Keeps tables world) (good : HasConsistentTrips world) where
  -- an open trip has its row
  pub row_of_trip : (key : VehicleKey) (trip : Trip) → HasTrip world key trip → get tables.trips trip.order ≡ Some (trip_row key trip)
  row_of_trip key trip has =
      ap (λ trips. get trips trip.order) keeps.trips
      ∙ (trips_of world good).into key has.0 trip.order (trip_row key trip) has.1 (ap (λ o. finite.find name_cmp trip.order (rows_of_trip key o)) has.2 ∙ own_key names_total trip.order (trip_row key trip))

  -- a row is that of an open trip
  pub record OfTrip (row : TripRow) : Type 0 where
    pub trip : Trip
    pub has : HasTrip world row.vehicle trip
    pub acts : row.acts ≡ trip.acts

  pub trip_of_row : (order : List ℕ) (row : TripRow) → get tables.trips order ≡ Some row → OfTrip row
  trip_of_row order row at =
      let from = (trips_of world good).from order row (sym (ap (λ trips. get trips order) keeps.trips) ∙ at) in
      let trip = trip_at from.0 from.1.trip order row from.3 in
      record {
        trip = trip.0;
        has = subst (λ key. HasTrip world key trip.0) (sym (ap (λ (r : TripRow). r.vehicle) trip.3)) (from.1, from.2, trip.1);
        acts = ap (λ (r : TripRow). r.acts) trip.3;
      }

  -- an act of a row is one of its trip
  pub act_of_row : (order : List ℕ) (row : TripRow) → get tables.trips order ≡ Some row → (act : Act) → Contains row.acts act → (trip : Trip) × HasAct world row.vehicle trip act
  act_of_row order row at act has =
      let of = trip_of_row order row at in
      (of.trip, record { open_trip = of.has; among = subst (λ acts. Contains acts act) of.acts has })
