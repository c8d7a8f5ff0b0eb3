-- The open trips that are cached beside the tables.
use Rattle.std.specs.Prelude.{◌≡◌, ℕ, List, Some, true}
use Rattle.std.specs.BTreeMap as tree
use Rattle.std.specs.BTreeSet as trees
use Rattle.std.specs.FinMap as finite
use Rattle.agv_header.specs.Key.{key_cmp}
use Rattle.agv_header.specs.Name.{name_cmp}
use Rattle.agv_header.specs.declared.key.VehicleKey.{VehicleKey}
use Rattle.agv_order.specs.declared.trip.Trip.{Trip}
use Rattle.agv_world_core.specs.Maps.{Maps}
use Rattle.agv_world_core.specs.declared.row.TripRow.{TripRow}
use Rattle.agv_store_rows.specs.DecodedTrips.{HasTripRows}
use Rattle.agv_store_known.specs.declared.kept_trips.KeptTrips.{KeptTrips}

-- open trips by their order ids
abbrev pub OpenTrips : Type 0
OpenTrips = tree.BTreeMap (List ℕ) Trip

-- vehicles without an open trip
abbrev pub Without : Type 0
Without = trees.BTreeSet VehicleKey

-- the trip is of the order, and the maps have it
abbrev pub IsTripOf : Maps → List ℕ → Trip → Type 0
IsTripOf maps order trip = (trip.order ≡ order) × HasTripRows maps trip

-- each cached trip is of its order, and the maps have it
abbrev pub AreOpen : OpenTrips → Maps → Type 0
AreOpen trips maps = (order : List ℕ) (trip : Trip) → tree.get name_cmp trips order ≡ Some trip → IsTripOf maps order trip

-- the vehicle has no open trip
abbrev pub HasNoTrip : Maps → VehicleKey → Type 0
HasNoTrip maps key = (order : List ℕ) (row : TripRow) → finite.get maps.trips order ≡ Some row → row.vehicle ≡ key → ⊥

-- none of these vehicles has an open trip
abbrev pub HaveNoTrip : Without → Maps → Type 0
HaveNoTrip vehicles maps = (key : VehicleKey) → trees.contains key_cmp vehicles key ≡ true → HasNoTrip maps key

-- open trips by their order ids, and vehicles without one
abbrev pub TripsOf : Type 0
TripsOf = KeptTrips

-- the maps have these trips, and none of these vehicles has one
abbrev pub AreTrips : TripsOf → Maps → Type 0
AreTrips trips maps = AreOpen trips.by_order maps × HaveNoTrip trips.without maps

-- the trip with the values of this row
abbrev pub with_row : Trip → TripRow → Trip
with_row trip row = record {
  order = trip.order;
  vehicle = row.vehicle;
  start = row.start;
  edges = trip.edges;
  first = row.first;
  base = row.base;
  sent = row.sent;
  confirmed = row.confirmed;
  seen = row.seen;
  acts = row.acts;
}
