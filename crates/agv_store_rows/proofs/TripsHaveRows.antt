-- The open trips of a lawful world are those whose rows it has.
use Rattle.std.proofs.Common.{◌≡◌, ◌↔◌, Option, None, Some, refl, sym, ap, subst, ◌∙◌}
use Rattle.std.specs.FinMap as finite
use Rattle.std.specs.Option.{option_and_then}
use Rattle.agv_header.specs.Name.{name_cmp}
use Rattle.agv_header.specs.declared.key.VehicleKey.{VehicleKey}
use Rattle.agv_order.specs.declared.trip.Trip.{Trip}
use Rattle.agv_world_core.specs.ConsistentTrips.{HasTrip, HasConsistentTrips}
use Rattle.agv_world_core.specs.Questions.{trip_of}
use Rattle.agv_world_core.specs.Maps.{maps_of, rows_of_trip, trip_row}
use Rattle.agv_world_core.specs.Told.{edges_of}
use Rattle.agv_world_core.specs.Worlds.{Vehicle, World}
use Rattle.agv_world_core.specs.declared.row.TripRow.{TripRow}
use Rattle.agv_world_core.proofs.lists.Orders.{names_total}
use Rattle.agv_world_core.proofs.world_rows.RowKeys.{own_key}
use Rattle.agv_world_core.proofs.world_rows.Unique.{trips_of}
use Rattle.agv_store_rows.specs.DecodedTrips.{HasTripRows, tables_of}
use Rattle.agv_store_rows.proofs.LawfulTrips.{trip_own}

-- a trip that is open is that of a vehicle
open_there : (o : Option Vehicle) (trip : Trip) → option_and_then (λ (vehicle : Vehicle). vehicle.trip) o ≡ Some trip → (vehicle : Vehicle) × (o ≡ Some vehicle) × (vehicle.trip ≡ Some trip)
open_there None trip is = absurd (cc is)
open_there (Some vehicle) trip is = (vehicle, refl, is)

module _ (world : World) (good : HasConsistentTrips world) (ways : (key : VehicleKey) (trip : Trip) → trip_of world key ≡ Some trip → trip.edges ≡ edges_of (tables_of (maps_of world)) trip.order) where
  rows_there : (key : VehicleKey) (trip : Trip) → trip_of world key ≡ Some trip → (trip.vehicle ≡ key) × HasTripRows (maps_of world) trip
  rows_there key trip is =
      let has : HasTrip world key trip = open_there (finite.get world.vehicles key) trip is in
      let own : trip.vehicle ≡ key = good.own key trip has in
      let at : finite.get (maps_of world).trips trip.order ≡ Some (trip_row key trip) =
      (trips_of world good).into key has.0 trip.order (trip_row key trip) has.1 (ap (λ o. finite.find name_cmp trip.order (rows_of_trip key o)) has.2 ∙ own_key names_total trip.order (trip_row key trip)) in
      (own, (subst (λ k. finite.get (maps_of world).trips trip.order ≡ Some (trip_row k trip)) (sym own) at, ways key trip is))

  trip_there : (key : VehicleKey) (trip : Trip) → (trip.vehicle ≡ key) × HasTripRows (maps_of world) trip → trip_of world key ≡ Some trip
  trip_there key trip are =
      let one = trip_own world trip.order (trip_row trip.vehicle trip) are.1.0 in
      let row_is : trip_row one.key one.trip ≡ trip_row trip.vehicle trip = one.row_is in
      let its_key : one.key ≡ trip.vehicle = ap (λ (row : TripRow). row.vehicle) row_is in
      let is : trip_of world one.key ≡ Some one.trip = ap (option_and_then (λ (vehicle : Vehicle). vehicle.trip)) one.there ∙ one.has in
      let own : one.trip.vehicle ≡ trip.vehicle = good.own one.key one.trip (one.vehicle, one.there, one.has) ∙ its_key in
      let order : one.trip.order ≡ trip.order = sym one.order_is in
      let edges : one.trip.edges ≡ trip.edges = ways one.key one.trip is ∙ ap (edges_of (tables_of (maps_of world))) order ∙ sym are.1.1 in
      let same : one.trip ≡ trip = λ i. record {
        order = order i;
        vehicle = own i;
        start = (row_is i).start;
        edges = edges i;
        first = (row_is i).first;
        base = (row_is i).base;
        sent = (row_is i).sent;
        confirmed = (row_is i).confirmed;
        seen = (row_is i).seen;
        acts = (row_is i).acts;
      } in
      ap (trip_of world) (sym are.0 ∙ sym its_key) ∙ is ∙ ap Some same

  pub has_its_rows : (key : VehicleKey) (trip : Trip) → (trip_of world key ≡ Some trip) ↔ ((trip.vehicle ≡ key) × HasTripRows (maps_of world) trip)
  has_its_rows key trip = (rows_there key trip, trip_there key trip)
