-- A world is lawful just where its two parts are: the vehicles by themselves, and the loads and the jobs.
use Rattle.std.proofs.Common.{◌≡◌, ◌↔◌, ℕ, Contains, Option, None, Some, refl}
use Rattle.agv_header.specs.declared.key.Thing.{Thing}
use Rattle.agv_header.specs.declared.key.VehicleKey.{VehicleKey}
use Rattle.agv_order.specs.WellFormed.{IsWellFormed}
use Rattle.agv_order.specs.declared.trip.Trip.{Trip}
use Rattle.agv_track_holds.specs.Footprints.{IsOnBase, Occupies, footprint_of}
use Rattle.agv_track_holds.proofs.HeldLists.{footprint-held}
use Rattle.agv_world_core.specs.ConsistentTrips.{IsHolder, IsVehicle}
use Rattle.agv_world_core.specs.Lawful.{IsLawful, IsOccupant}
use Rattle.agv_world_core.specs.LawfulParts.{HasLawfulLoads, HasLawfulVehicles}
use Rattle.agv_world_core.specs.Maps.{standing_of}
use Rattle.agv_world_core.specs.Worlds.{Vehicle, World}

-- ---- a footprint lists what its vehicle occupies

module _ (world : World) (fit : (key : VehicleKey) (vehicle : Vehicle) (trip : Trip) → IsVehicle world key vehicle → vehicle.trip ≡ Some trip → IsWellFormed world.layout trip) where
  on_base : (key : VehicleKey) (vehicle : Vehicle) → IsVehicle world key vehicle → IsOnBase vehicle.trip
  on_base key vehicle known = by vehicle.trip (λ trip has. fit key vehicle trip known has)
    where
      by : (found : Option Trip) → ((trip : Trip) → found ≡ Some trip → IsWellFormed world.layout trip) → IsOnBase found
      by None fits = tt
      by (Some trip) fits = (fits trip refl).under_way.seen_released

  listed : (key : VehicleKey) (vehicle : Vehicle) (thing : Thing) → IsVehicle world key vehicle → Contains (footprint_of (standing_of vehicle)) thing ↔ Occupies (standing_of vehicle) thing
  listed key vehicle thing known = footprint-held (standing_of vehicle) (on_base key vehicle known) thing

  occupant : (key : VehicleKey) (thing : Thing) → IsHolder world key thing → IsOccupant world key thing
  occupant key thing has = (has.0, has.1, (listed key has.0 thing has.1).0 has.2)

  holder : (key : VehicleKey) (thing : Thing) → IsOccupant world key thing → IsHolder world key thing
  holder key thing has = (has.0, has.1, (listed key has.0 thing has.1).1 has.2)

-- ---- from the groups of rules to the parts

module _ {seats : ℕ} {world : World} (lawful : IsLawful seats world) where
  pub vehicles_of : HasLawfulVehicles seats world
  vehicles_of = record {
    laid = lawful.limits.laid;
    few_vehicles = lawful.limits.few_vehicles;
    few_orders = lawful.limits.few_orders;
    few_references = lawful.limits.few_references;
    vehicles_named = lawful.names.vehicles_named;
    orders_named = lawful.names.orders_named;
    references_named = lawful.names.references_named;
    vehicles = λ key vehicle known.
        let its = lawful.rests.vehicles key vehicle known in
        record {
          carries = lawful.capacity.carries key vehicle known;
          seated = lawful.capacity.seated key vehicle known;
          node = its.node;
          rest = its.rest;
          header = its.header;
          reported = its.reported;
          orders = its.orders;
          instants = its.instants;
          pending = its.pending;
        };
    trips = λ key vehicle trip known has.
        let its = lawful.trips.open_trips key vehicle trip known has in
        record {
          well_formed = its.well_formed;
          own = its.own;
          picks_fit = lawful.capacity.picks_fit key vehicle trip known has;
          sent = its.sent;
          stands = its.stands;
          no_rest = its.no_rest;
        };
    used = lawful.names.used;
    one_trip = lawful.trips.one_trip;
    apart = λ one other thing has too.
        let fit = λ (key : VehicleKey) (vehicle : Vehicle) (trip : Trip) (known : IsVehicle world key vehicle) (has : vehicle.trip ≡ Some trip). (lawful.trips.open_trips key vehicle trip known has).well_formed in
        lawful.track.apart one other thing (occupant world fit one thing has) (occupant world fit other thing too);
  }

  pub loads_of : HasLawfulLoads world
  loads_of = record {
    few_loads = lawful.limits.few_loads;
    few_jobs = lawful.limits.few_jobs;
    loads_named = lawful.names.loads_named;
    jobs_named = lawful.names.jobs_named;
    places = lawful.names.places;
    jobs = lawful.names.jobs;
    room = lawful.room;
    idle = lawful.capacity.idle;
    within_capacity = lawful.capacity.within_capacity;
    joined = lawful.jobs;
  }

-- ---- and back

module _ {seats : ℕ} {world : World} (vehicles : HasLawfulVehicles seats world) (loads : HasLawfulLoads world) where
  pub lawful_by : IsLawful seats world
  lawful_by = record {
    limits = record {
      laid = vehicles.laid;
      few_vehicles = vehicles.few_vehicles;
      few_orders = vehicles.few_orders;
      few_references = vehicles.few_references;
      few_loads = loads.few_loads;
      few_jobs = loads.few_jobs;
    };
    names = record {
      vehicles_named = vehicles.vehicles_named;
      orders_named = vehicles.orders_named;
      references_named = vehicles.references_named;
      loads_named = loads.loads_named;
      jobs_named = loads.jobs_named;
      places = loads.places;
      jobs = loads.jobs;
      used = vehicles.used;
    };
    track = record {
      apart = λ one other thing has too.
          let fit = λ (key : VehicleKey) (vehicle : Vehicle) (trip : Trip) (known : IsVehicle world key vehicle) (has : vehicle.trip ≡ Some trip). (vehicles.trips key vehicle trip known has).well_formed in
          vehicles.apart one other thing (holder world fit one thing has) (holder world fit other thing too);
    };
    room = loads.room;
    capacity = record {
      carries = λ key vehicle known. (vehicles.vehicles key vehicle known).carries;
      seated = λ key vehicle known. (vehicles.vehicles key vehicle known).seated;
      idle = loads.idle;
      within_capacity = loads.within_capacity;
      picks_fit = λ key vehicle trip known has. (vehicles.trips key vehicle trip known has).picks_fit;
    };
    jobs = loads.joined;
    trips = record {
      open_trips = λ key vehicle trip known has.
          let its = vehicles.trips key vehicle trip known has in
          record { well_formed = its.well_formed; own = its.own; sent = its.sent; stands = its.stands; no_rest = its.no_rest };
      one_trip = vehicles.one_trip;
    };
    rests = record {
      vehicles = λ key vehicle known.
          let its = vehicles.vehicles key vehicle known in
          record {
            node = its.node;
            rest = its.rest;
            header = its.header;
            reported = its.reported;
            orders = its.orders;
            instants = its.instants;
            pending = its.pending;
          };
    };
  }
