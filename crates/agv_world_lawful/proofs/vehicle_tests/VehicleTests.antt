-- Tables that pass the tests of the layout, the vehicles and their trips tell a world with lawful vehicles.
use Rattle.std.proofs.Common.{◌≡◌, ℕ, ◌≤◌, true, List, Option, Some, None, sym, ap, subst, ◌∙◌}
use Rattle.std.proofs.lemmas.Bool.{and_parts, false≢true, leb-true, ltb-true}
use Rattle.std.specs.FinMap as finite
use Rattle.std.specs.FinMap.{get}
use Rattle.std.specs.FinSet as set
use Rattle.std.specs.Prelude.{count_by}
use Rattle.agv_header.specs.KeyOrder.{key_cmp-total, key_cmp-IsAntisymmetric}
use Rattle.agv_header.specs.declared.key.VehicleKey.{VehicleKey}
use Rattle.agv_order.specs.Trips.{node_at}
use Rattle.agv_order.specs.WellFormed.{IsWellFormed}
use Rattle.agv_order.specs.declared.trip.Trip.{Trip}
use Rattle.agv_world_core.specs.ConsistentTrips.{HasTrip, IsVehicle}
use Rattle.agv_world_core.specs.Kept.{Keeps}
use Rattle.agv_world_core.specs.Lawful.{picks}
use Rattle.agv_world_core.specs.LawfulParts.{HasLawfulVehicles, IsTripOf, IsVehicleOf}
use Rattle.agv_world_lawful.specs.LawfulTests.{are_apart, are_few, are_fit, are_lawful_vehicles, are_legs, are_trips, are_vehicles, is_trip_of_row, is_laid, is_name_of, is_vehicle_row}
use Rattle.agv_world_core.specs.Told.{layout_of_tables, names_of, trip_in, world_of}
use Rattle.agv_world_lawful.specs.Values.{HasValues}
use Rattle.agv_world_core.specs.Worlds.{Vehicle}
use Rattle.agv_world_core.specs.declared.key.UseKind.TheVariants.{Order, Reference}
use Rattle.agv_world_core.specs.declared.row.TripRow.{TripRow}
use Rattle.agv_world_core.specs.declared.row.VehicleRow.{VehicleRow}
use Rattle.agv_world_core.specs.declared.world.World.{World as Tables}
use Rattle.agv_world_lawful.proofs.vehicle_tests.ApartTests.{apart}
use Rattle.agv_world_core.proofs.told_worlds.Counts.{len-vehicles_of}
use Rattle.agv_world_core.proofs.lists.EachEntry.{each-entry}
use Rattle.agv_world_core.proofs.lists.Entries.{same_Some}
use Rattle.agv_world_lawful.proofs.vehicle_tests.FitTests.{Below, Laid, fit_told}
use Rattle.agv_world_lawful.proofs.vehicle_tests.KeepsTold.{IsTripRow, keeps, trip_row_told}
use Rattle.agv_world_lawful.proofs.vehicle_tests.KeptTests.{IsTold, once, trip_told}
use Rattle.agv_world_lawful.proofs.vehicle_tests.LaidTests.{laid}
use Rattle.agv_world_core.proofs.lists.SameNames.{nothing, same_name}
use Rattle.agv_world_core.proofs.told_worlds.Telling.{contains-names_of, used_at}
use Rattle.agv_world_core.proofs.told_worlds.ToldVehicles.{vehicle_told}
use Rattle.agv_world_lawful.proofs.vehicle_tests.VehicleRowTests.{vehicle_row_told}

-- each of the tests
pub record Passes (seats : ℕ) (tables : Tables) : Type 0 where
  pub laid : is_laid tables ≡ true
  pub few : are_few tables ≡ true
  pub vehicles : are_vehicles seats tables ≡ true
  pub legs : are_legs tables ≡ true
  pub trips : are_trips tables ≡ true
  pub fit : are_fit tables ≡ true
  pub apart : are_apart tables ≡ true

pub each_passed : (seats : ℕ) (tables : Tables) → are_lawful_vehicles seats tables ≡ true → Passes seats tables
each_passed seats tables all =
    let one = and_parts _ _ all in
    let two = and_parts _ _ one.1 in
    let three = and_parts _ _ two.1 in
    let four = and_parts _ _ three.1 in
    let five = and_parts _ _ four.1 in
    let six = and_parts _ _ five.1 in
    record { laid = one.0; few = two.0; vehicles = three.0; legs = four.0; trips = five.0; fit = six.0; apart = six.1 }

named_node : (o : Option (List ℕ)) (name : List ℕ) → is_name_of o name ≡ true → o ≡ Some name
named_node None name is = absurd (false≢true is)
named_node (Some other) name is = ap Some (same_name other name is)

module _ (below : Below) (seats : ℕ) (tables : Tables) (values : HasValues tables) (passes : Passes seats tables) where
  laid_so : Laid (layout_of_tables tables)
  laid_so = laid tables values passes.laid

  -- ---- vehicles
  vehicle_is : (key : VehicleKey) (vehicle : Vehicle) → IsVehicle (world_of tables) key vehicle → IsVehicleOf seats (layout_of_tables tables) vehicle.row
  vehicle_is key vehicle at =
      let told = vehicle_told tables key vehicle at in
      let test = each-entry key_cmp-total key_cmp-IsAntisymmetric (λ (entry : VehicleKey × VehicleRow). is_vehicle_row seats tables entry.1) tables.vehicles passes.vehicles key told.0 told.1 in
      subst (λ (v : Vehicle). IsVehicleOf seats (layout_of_tables tables) v.row) told.2 (vehicle_row_told tables seats told.0 (values.vehicles key told.0 told.1) test)

  -- ---- trips
  trip_row_is : (key : VehicleKey) (trip : Trip) → (told : IsTold tables key trip) → IsTripRow tables trip.order told.row
  trip_row_is key trip told = trip_row_told tables passes.trips trip.order told.row told.here

  owner_is : (key : VehicleKey) (vehicle : Vehicle) → IsVehicle (world_of tables) key vehicle → (row : TripRow) (owner : VehicleRow) → row.vehicle ≡ key → get tables.vehicles row.vehicle ≡ Some owner → owner ≡ vehicle.row
  owner_is key vehicle at row owner by there =
      let told = vehicle_told tables key vehicle at in
      same_Some _ _ (sym there ∙ ap (get tables.vehicles) by ∙ told.1) ∙ ap (λ (v : Vehicle). v.row) told.2

  trip_is : (key : VehicleKey) (vehicle : Vehicle) (trip : Trip) → IsVehicle (world_of tables) key vehicle → vehicle.trip ≡ Some trip → IsTripOf (layout_of_tables tables) key vehicle.row trip
  trip_is key vehicle trip at opened =
      let told = trip_told tables key trip (vehicle, at, opened) in
      let is = trip_row_is key trip told in
      let owner : is.owner ≡ vehicle.row = owner_is key vehicle at told.row is.owner told.by is.there in
      let of_row : is_trip_of_row vehicle.row trip ≡ true = subst (λ (t : Trip). is_trip_of_row vehicle.row t ≡ true) told.is (subst (λ (r : VehicleRow). is_trip_of_row r (trip_in tables (trip.order, told.row)) ≡ true) owner is.of_row) in
      let one = and_parts _ _ of_row in
      let two = and_parts _ _ one.1 in
      let three = and_parts _ _ two.1 in
      record {
        well_formed = subst (λ (t : Trip). IsWellFormed (layout_of_tables tables) t) told.is (fit_told below tables laid_so passes.fit trip.order told.row told.here);
        own = ap (λ (t : Trip). t.vehicle) (sym told.is) ∙ told.by;
        picks_fit = leb-true (count_by picks trip.acts) vehicle.row.capacity one.0;
        sent = ltb-true 0 vehicle.row.orders.count two.0;
        stands = named_node (node_at trip trip.seen) vehicle.row.node three.0;
        no_rest = nothing _ three.1;
      }

  used_is : (key : VehicleKey) (trip : Trip) → HasTrip (world_of tables) key trip → set.contains (names_of tables Order) trip.order ≡ true
  used_is key trip has = contains-names_of tables Order trip.order ∙ (trip_row_is key trip (trip_told tables key trip has)).used

  -- ---- all of them
  pub lawful_vehicles : HasLawfulVehicles seats (world_of tables)
  lawful_vehicles =
      let one = and_parts _ _ passes.few in
      let two = and_parts _ _ one.1 in
      record {
        laid = laid_so;
        few_vehicles = subst (λ n. n ≤ 100) (sym (len-vehicles_of tables)) (leb-true (finite.len tables.vehicles) 100 one.0);
        few_orders = leb-true (set.len (names_of tables Order)) 1000000 two.0;
        few_references = leb-true (set.len (names_of tables Reference)) 1000000 two.1;
        vehicles_named = λ key vehicle at. let told = vehicle_told tables key vehicle at in values.keys key told.0 told.1;
        orders_named = λ name used. values.used (used_at Order name) (sym (contains-names_of tables Order name) ∙ used);
        references_named = λ name used. values.used (used_at Reference name) (sym (contains-names_of tables Reference name) ∙ used);
        vehicles = vehicle_is;
        trips = trip_is;
        used = used_is;
        one_trip = once tables;
        apart = apart tables passes.apart;
      }

  pub kept : Keeps tables (world_of tables)
  kept = keeps tables passes.trips passes.legs
