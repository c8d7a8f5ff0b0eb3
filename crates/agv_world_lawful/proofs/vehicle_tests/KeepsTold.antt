-- Tables whose trips and edge rows pass their tests are those of the world that they tell.
use Rattle.std.proofs.Common.{◌≡◌, ℕ, nat_eq, Bool, true, false, cond, List, Option, Some, None, refl, sym, ap, ◌∙◌}
use Rattle.std.proofs.lemmas.Bool.{and_parts, false≢true}
use Rattle.std.specs.Cmp.Lexicographic.{pointwise}
use Rattle.std.specs.FinMap as finite
use Rattle.std.specs.FinMap.{get}
use Rattle.std.specs.FinSet as set
use Rattle.agv_header.specs.KeyOrder.{key_cmp-total, key_cmp-IsAntisymmetric}
use Rattle.agv_header.specs.Name.{name_cmp}
use Rattle.agv_header.specs.declared.key.VehicleKey.{VehicleKey}
use Rattle.agv_order.specs.declared.trip.Trip.{Trip}
use Rattle.agv_world_core.specs.ConsistentTrips.{HasTrip}
use Rattle.agv_world_core.specs.Kept.{Keeps}
use Rattle.agv_world_core.specs.KeyOrders.{leg_cmp-total, leg_cmp-IsAntisymmetric, use_cmp-total, use_cmp-IsAntisymmetric}
use Rattle.agv_world_core.specs.Keys.{leg_cmp}
use Rattle.agv_world_lawful.specs.LawfulTests.{are_in_turn, are_legs, are_trips, has_trip_row, is_trip_of, is_trip_of_row, is_first, is_trip_row, is_used_order}
use Rattle.agv_world_core.specs.Maps.{leg_rows, legs_of_trip, maps_of, rows_of_trip, trip_row, trip_rows}
use Rattle.agv_world_core.specs.Told.{trip_in, vehicle_in, vehicles_of, world_of}
use Rattle.agv_world_core.specs.Worlds.{Vehicle}
use Rattle.agv_world_core.specs.declared.row.TripRow.{TripRow}
use Rattle.agv_world_core.specs.declared.row.VehicleRow.{VehicleRow}
use Rattle.agv_world_core.specs.declared.world.World.{World as Tables}
use Rattle.agv_world_core.proofs.world_rows.Apart.{legs_apart, trips_apart}
use Rattle.agv_world_core.proofs.lists.EachEntry.{each-entry}
use Rattle.agv_world_core.proofs.lists.Entries.{alike, no_more}
use Rattle.agv_world_lawful.proofs.vehicle_tests.KeptTests.{IsTold, first_open, leg_row_told, once, trip_told}
use Rattle.agv_world_core.proofs.lists.Orders.{names_total, names_apart}
use Rattle.agv_world_core.proofs.world_rows.RowKeys.{leg_of, one_key, own_key, trip_at}
use Rattle.agv_world_core.proofs.lists.SameNames.{name_same, there}
use Rattle.agv_world_core.proofs.world_rows.Spreads.{IsSpread, spread_is}
use Rattle.agv_world_core.proofs.told_worlds.Telling.{is_used-told}
use Rattle.agv_world_core.proofs.told_worlds.ToldVehicles.{told_vehicle, vehicle_told}
use Rattle.agv_world_core.proofs.world_rows.Unique.{vehicles_of as vehicle_table}
use Rattle.agv_world_core.proofs.world_rows.UsedKeys.{used_is}

-- the row of a trip that passes its test
pub record IsTripRow (tables : Tables) (order : List ℕ) (row : TripRow) : Type 0 where
  pub first : is_first tables row.vehicle order ≡ true
  pub used : is_used_order tables order ≡ true
  pub turn : are_in_turn tables order 0 (finite.entries tables.legs) ≡ true
  pub owner : VehicleRow
  pub there : get tables.vehicles row.vehicle ≡ Some owner
  pub of_row : is_trip_of_row owner (trip_in tables (order, row)) ≡ true

trip_of_owner : (o : Option VehicleRow) (trip : Trip) → is_trip_of o trip ≡ true → (row : VehicleRow) × (o ≡ Some row) × (is_trip_of_row row trip ≡ true)
trip_of_owner None trip is = absurd (false≢true is)
trip_of_owner (Some row) trip is = (row, refl, is)

if_own : (b : Bool) (row : Option (List ℕ)) (y : List ℕ) → cond b row None ≡ Some y → (b ≡ true) × (row ≡ Some y)
if_own true row y e = (refl, e)
if_own false row y e = absurd (no_more y e)

module _ (tables : Tables) where
  pub trip_row_told : are_trips tables ≡ true → (order : List ℕ) (row : TripRow) → get tables.trips order ≡ Some row → IsTripRow tables order row
  trip_row_told trips order row at =
      let parts = and_parts _ _ (each-entry names_total names_apart (is_trip_row tables) tables.trips trips order row at) in
      let more = and_parts _ _ parts.1 in
      let rest = and_parts _ _ more.1 in
      let owner = trip_of_owner (get tables.vehicles row.vehicle) (trip_in tables (order, row)) rest.1 in
      record { first = parts.0; used = more.0; turn = rest.0; owner = owner.0; there = owner.1; of_row = owner.2 }

  -- the vehicle of a trip's row has it
  pub open_trip_told : (order : List ℕ) (row : TripRow) → get tables.trips order ≡ Some row → IsTripRow tables order row → HasTrip (world_of tables) row.vehicle (trip_in tables (order, row))
  open_trip_told order row at is = (vehicle_in tables row.vehicle is.owner, told_vehicle tables row.vehicle is.owner is.there, first_open tables order row at is.first)

  -- ---- the tables of vehicles and used names
  kept_vehicles : tables.vehicles ≡ (maps_of (world_of tables)).vehicles
  kept_vehicles = finite.same_map key_cmp-total key_cmp-IsAntisymmetric _ _ (λ q. alike _ _
      (λ row at. (vehicle_table (world_of tables)).into q (vehicle_in tables q row) q row (told_vehicle tables q row at) (own_key key_cmp-total q row))
      (λ row at.
      let from = (vehicle_table (world_of tables)).from q row at in
      let one = one_key key_cmp-IsAntisymmetric q from.0 from.1.row row from.3 in
      let told = vehicle_told tables from.0 from.1 from.2 in
      ap (get tables.vehicles) one.0 ∙ told.1 ∙ ap (λ (vehicle : Vehicle). Some vehicle.row) told.2 ∙ ap Some (sym one.1)))

  kept_used : tables.used ≡ (maps_of (world_of tables)).used
  kept_used = set.same_set use_cmp-total use_cmp-IsAntisymmetric _ _ (λ q. sym (used_is (world_of tables) q.kind q.name ∙ is_used-told tables q.kind q.name))

  -- ---- those of trips and edge rows
  pub trip_table : IsSpread name_cmp trip_rows (vehicles_of tables)
  trip_table = spread_is key_cmp-total key_cmp-IsAntisymmetric name_cmp names_total trip_rows (vehicles_of tables) (trips_apart (world_of tables) (once tables))

  pub leg_table : IsSpread leg_cmp leg_rows (vehicles_of tables)
  leg_table = spread_is key_cmp-total key_cmp-IsAntisymmetric leg_cmp leg_cmp-total leg_rows (vehicles_of tables) (legs_apart (world_of tables) (once tables))

  row_again : (key : VehicleKey) (trip : Trip) → (told : IsTold tables key trip) → trip_row key trip ≡ told.row
  row_again key trip told = ap (trip_row key) (sym told.is) ∙ ap (λ k. record told.row { vehicle = k }) (sym told.by)

  kept_trips : are_trips tables ≡ true → tables.trips ≡ (maps_of (world_of tables)).trips
  kept_trips trips = finite.same_map names_total names_apart _ _ (λ q. alike _ _
      (λ row at.
      let has = open_trip_told q row at (trip_row_told trips q row at) in
      trip_table.into row.vehicle has.0 q row has.1 (ap (λ o. finite.find name_cmp q (rows_of_trip row.vehicle o)) has.2 ∙ own_key names_total q row))
      (λ row at.
      let from = trip_table.from q row at in
      let trip = trip_at from.0 from.1.trip q row from.3 in
      let told = trip_told tables from.0 trip.0 (from.1, from.2, trip.1) in
      ap (get tables.trips) trip.2 ∙ told.here ∙ ap Some (sym (trip.3 ∙ row_again from.0 trip.0 told))))

  kept_legs : are_trips tables ≡ true → are_legs tables ≡ true → tables.legs ≡ (maps_of (world_of tables)).legs
  kept_legs trips legs = finite.same_map leg_cmp-total leg_cmp-IsAntisymmetric _ _ (λ q. alike _ _
      (λ id at.
      let row = there (get tables.trips q.order) (each-entry leg_cmp-total leg_cmp-IsAntisymmetric (has_trip_row tables) tables.legs legs q id at) in
      let is = trip_row_told trips q.order row.0 row.1 in
      let has = open_trip_told q.order row.0 row.1 is in
      leg_table.into row.0.vehicle has.0 q id has.1
      (ap (λ o. finite.find leg_cmp q (legs_of_trip o)) has.2
      ∙ leg_row_told tables q.order is.turn q
      ∙ ap (λ b. cond b (get tables.legs q) None) (name_same q.order q.order refl)
      ∙ at))
      (λ id at.
      let from = leg_table.from q id at in
      let trip = leg_of from.1.trip q id from.3 in
      let told = trip_told tables from.0 trip.0 (from.1, from.2, trip.1) in
      let is = trip_row_told trips trip.0.order told.row told.here in
      let found = ap (λ (t : Trip). finite.find leg_cmp q (legs_of_trip (Some t))) told.is ∙ ap (λ o. finite.find leg_cmp q (legs_of_trip o)) (sym trip.1) ∙ from.3 in
      (if_own (pointwise nat_eq q.order trip.0.order) (get tables.legs q) id (sym (leg_row_told tables trip.0.order is.turn q) ∙ found)).1))

  -- ---- all of them
  pub keeps : are_trips tables ≡ true → are_legs tables ≡ true → Keeps tables (world_of tables)
  keeps trips legs = record {
    nodes = refl;
    edges = refl;
    stations = refl;
    vehicles = kept_vehicles;
    trips = kept_trips trips;
    legs = kept_legs trips legs;
    loads = refl;
    jobs = refl;
    used = kept_used;
  }
