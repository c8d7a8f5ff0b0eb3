-- A lawful world has consistent trips, and the world of a desk that knows nothing yet is lawful.
use Rattle.std.proofs.Common.{◌≡◌, ℕ, ◌≤◌, true, List, Some, Ordering, inl, refl, sym, ◌∙◌, true≢false, arith}
use Rattle.std.specs.FinMap as finite
use Rattle.std.specs.FinSet as set
use Rattle.std.proofs.lemmas.List.Elements.{recursion_from_All}
use Rattle.agv_header.specs.Key.{key_cmp}
use Rattle.agv_header.specs.Name.{name_cmp}
use Rattle.agv_header.specs.declared.key.VehicleKey.{VehicleKey}
use Rattle.agv_order.specs.WellFormed.{IsEdgeOf}
use Rattle.agv_order.specs.declared.trip.Trip.{Trip}
use Rattle.agv_stock.specs.declared.place.Place.{Place}
use Rattle.agv_world_core.specs.ConsistentTrips.{HasTrip, HasConsistentTrips, IsVehicle}
use Rattle.agv_world_core.specs.Lawful.{IsJob, IsLawful}
use Rattle.agv_world_core.specs.Worlds.{Vehicle, World, empty_world}
use Rattle.agv_world_core.specs.declared.row.JobRow.{JobRow}
use Rattle.agv_world_core.proofs.lists.Entries.{no_more}

-- ---- consistent trips

pub consistent_trips : (seats : ℕ) (world : World) → IsLawful seats world → HasConsistentTrips world
consistent_trips seats world lawful = record {
  one_trip = lawful.trips.one_trip;
  own = λ key trip has. (lawful.trips.open_trips key has.0 trip has.1 has.2).own;
  known = λ key trip has. recursion_from_All (IsEdgeOf world.layout) trip.edges (lawful.trips.open_trips key has.0 trip has.1 has.2).well_formed.planned.edges;
}

-- ---- nothing is known yet

-- nothing is in the empty map, nor in the empty set
not_there : {K X : Type 0} (R : K → K → Ordering) (key : K) (x : X) → finite.get (finite.empty {X = X} {R = R}) key ≡ Some x → ⊥
not_there R key x at = no_more x (sym (finite.get-empty R key) ∙ at)

not_among : {K : Type 0} (R : K → K → Ordering) (key : K) → set.contains (set.empty {R = R}) key ≡ true → ⊥
not_among R key at = true≢false (sym at ∙ set.contains-empty R key)

none_few : (n m : ℕ) → n ≡ 0 → n ≤ m
none_few n m e = omega (arith, e)

no_vehicle : (key : VehicleKey) (vehicle : Vehicle) → IsVehicle empty_world key vehicle → ⊥
no_vehicle key vehicle known = not_there key_cmp key vehicle known

no_trip : (key : VehicleKey) (trip : Trip) → HasTrip empty_world key trip → ⊥
no_trip key trip has = no_vehicle key has.0 has.1

no_job : (job : List ℕ) (row : JobRow) → IsJob empty_world job row → ⊥
no_job job row known = not_there name_cmp job row known

no_load : (load : List ℕ) (where_is : Place) → finite.get empty_world.places load ≡ Some where_is → ⊥
no_load load where_is at = not_there name_cmp load where_is at

pub empty_lawful : (seats : ℕ) → IsLawful seats empty_world
empty_lawful seats = record {
  limits = record {
    laid = inl refl;
    few_vehicles = none_few _ _ (finite.len-empty key_cmp Vehicle);
    few_orders = none_few _ _ (set.len-empty name_cmp);
    few_references = none_few _ _ (set.len-empty name_cmp);
    few_loads = none_few _ _ (finite.len-empty name_cmp Place);
    few_jobs = none_few _ _ (finite.len-empty name_cmp JobRow);
  };
  names = record {
    vehicles_named = λ key vehicle known. absurd (no_vehicle key vehicle known);
    orders_named = λ name used. absurd (not_among name_cmp name used);
    references_named = λ name used. absurd (not_among name_cmp name used);
    loads_named = λ load where_is at. absurd (no_load load where_is at);
    jobs_named = λ job row known. absurd (no_job job row known);
    places = λ load where_is at. absurd (no_load load where_is at);
    jobs = λ job row known. absurd (no_job job row known);
    used = λ key trip has. absurd (no_trip key trip has);
  };
  track = record { apart = λ one other thing has too. absurd (no_vehicle one has.0 has.1) };
  room = record { room = λ station site known. absurd (not_there name_cmp station site known) };
  capacity = record {
    carries = λ key vehicle known. absurd (no_vehicle key vehicle known);
    seated = λ key vehicle known. absurd (no_vehicle key vehicle known);
    idle = λ key vehicle known none. absurd (no_vehicle key vehicle known);
    within_capacity = λ key vehicle trip known has. absurd (no_vehicle key vehicle known);
    picks_fit = λ key vehicle trip known has. absurd (no_vehicle key vehicle known);
  };
  jobs = record {
    one_job = λ one other row further known too live also same. absurd (no_job one row known);
    riding = λ job row known. absurd (no_job job row known);
    done = λ key trip act row has kind finished known. absurd (no_trip key trip has.open_trip);
    one_vehicle = λ one other trip further act more has too same. absurd (no_trip one trip has.open_trip);
    waiting = λ job row known waits. absurd (no_job job row known);
    carried = λ key trip act row has kind known live. absurd (no_trip key trip has.open_trip);
    acts = λ key trip act has. absurd (no_trip key trip has.open_trip);
  };
  trips = record {
    open_trips = λ key vehicle trip known has. absurd (no_vehicle key vehicle known);
    one_trip = λ one other trip further has too same. absurd (no_trip one trip has);
  };
  rests = record { vehicles = λ key vehicle known. absurd (no_vehicle key vehicle known) };
}
