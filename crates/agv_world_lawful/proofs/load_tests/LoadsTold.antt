-- Where the vehicles are lawful, the tests of the loads and the jobs say just that the loads are lawful.
use Rattle.std.proofs.Common.{◌≡◌, ◌↔◌, ℕ, true, List, Some, refl, sym, ap, subst, ◌∙◌}
use Rattle.std.specs.FinMap.{get}
use Rattle.std.proofs.lemmas.Bool.{and_from, and_parts}
use Rattle.agv_header.specs.Name.{IsName}
use Rattle.agv_header.specs.declared.key.VehicleKey.{VehicleKey}
use Rattle.agv_order.specs.Statuses.{is_finished}
use Rattle.agv_order.specs.declared.act.Act.{Act}
use Rattle.agv_order.specs.declared.trip.Trip.{Trip}
use Rattle.agv_stock.specs.Phase.{is_live}
use Rattle.agv_stock.specs.declared.place.Place.{Place}
use Rattle.agv_world_core.specs.ConsistentTrips.{HasConsistentTrips}
use Rattle.agv_world_core.specs.Kept.{Keeps}
use Rattle.agv_world_core.specs.Lawful.{HasAct, IsJob, carried_at}
use Rattle.agv_world_core.specs.LawfulParts.{HasLawfulLoads, HasLawfulVehicles}
use Rattle.agv_world_lawful.specs.LoadTests.{are_acts, are_jobs, are_jobs_apart, are_within_capacity, are_lawful_loads, are_loads_few, are_places, has_one_job_each, have_room}
use Rattle.agv_world_core.specs.Told.{world_of}
use Rattle.agv_world_core.specs.declared.row.JobRow.{JobRow}
use Rattle.agv_world_core.specs.declared.world.World.{World as Tables}
use Rattle.agv_world_lawful.proofs.load_tests.ActsTold.{ActsFit, acts_told, jobs_apart_told}
use Rattle.agv_world_core.proofs.lists.Entries.{same_Some}
use Rattle.agv_world_lawful.proofs.load_tests.CapacityTold.{AllWithinCapacity, within_capacity_told}
use Rattle.agv_world_lawful.proofs.load_tests.LiveJobsTold.{one_job_told}
use Rattle.agv_world_lawful.proofs.load_tests.PlacesTold.{JobsStand, PlacesKnown, few_told, jobs_told, places_told}
use Rattle.agv_world_lawful.proofs.load_tests.RoomTold.{room_told}
use Rattle.agv_world_core.proofs.told_worlds.RowsTold.{good_vehicles}

-- each load, and each job, has a name that is one
pub record AreNamed (tables : Tables) : Type 0 where
  pub loads : (load : List ℕ) (where_is : Place) → get tables.loads load ≡ Some where_is → IsName load
  pub jobs : (job : List ℕ) (row : JobRow) → get tables.jobs job ≡ Some row → IsName job

-- each test passes
record Passed (tables : Tables) : Type 0 where
  pub few : are_loads_few tables ≡ true
  pub places : are_places tables ≡ true
  pub jobs : are_jobs tables ≡ true
  pub one_job : has_one_job_each tables ≡ true
  pub acts : are_acts tables ≡ true
  pub apart : are_jobs_apart tables ≡ true
  pub room : have_room tables ≡ true
  pub within_capacity : are_within_capacity tables ≡ true

passed : (tables : Tables) → are_lawful_loads tables ≡ true → Passed tables
passed tables all =
    let few = and_parts (are_loads_few tables) _ all in
    let places = and_parts (are_places tables) _ few.1 in
    let jobs = and_parts (are_jobs tables) _ places.1 in
    let one_job = and_parts (has_one_job_each tables) _ jobs.1 in
    let acts = and_parts (are_acts tables) _ one_job.1 in
    let apart = and_parts (are_jobs_apart tables) _ acts.1 in
    let room = and_parts (have_room tables) (are_within_capacity tables) apart.1 in
    record { few = few.0; places = places.0; jobs = jobs.0; one_job = one_job.0; acts = acts.0; apart = apart.0; room = room.0; within_capacity = room.1 }

all_passed : (tables : Tables) → Passed tables → are_lawful_loads tables ≡ true
all_passed tables its =
    and_from (are_loads_few tables) _ its.few
    (and_from (are_places tables) _ its.places
    (and_from (are_jobs tables) _ its.jobs
    (and_from (has_one_job_each tables) _ its.one_job
    (and_from (are_acts tables) _ its.acts
    (and_from (are_jobs_apart tables) _ its.apart
    (and_from (have_room tables) (are_within_capacity tables) its.room its.within_capacity))))))

module _ {seats : ℕ} (tables : Tables) (keeps : Keeps tables (world_of tables)) (vehicles : HasLawfulVehicles seats (world_of tables)) where
  good : HasConsistentTrips (world_of tables)
  good = good_vehicles (world_of tables) vehicles

  lawful : AreNamed tables → Passed tables → HasLawfulLoads (world_of tables)
  lawful named its =
      let few = (few_told tables).0 its.few in
      let places : PlacesKnown tables = (places_told tables).0 its.places in
      let jobs : JobsStand tables keeps good = (jobs_told tables keeps good).0 its.jobs in
      let acts : ActsFit tables keeps good = (acts_told tables keeps good).0 its.acts in
      let within_capacity : AllWithinCapacity tables = (within_capacity_told tables).0 its.within_capacity in
      let fits = λ (key : VehicleKey) (trip : Trip) (act : Act) (has : HasAct (world_of tables) key trip act) (row : JobRow) (job : IsJob (world_of tables) act.job row). same_Some (acts key trip act has).row row (sym (acts key trip act has).job ∙ job) in
      record {
        few_loads = few.0;
        few_jobs = few.1;
        loads_named = named.loads;
        jobs_named = named.jobs;
        places = places;
        jobs = jobs.known;
        room = record { room = (room_told tables vehicles).0 its.room };
        idle = within_capacity.idle;
        within_capacity = within_capacity.within_capacity;
        joined = record {
          one_job = (one_job_told tables).0 its.one_job;
          riding = λ job row known. (
            (jobs.phases job row known).riding,
            λ to_drop.
                let fit = acts to_drop.key to_drop.trip to_drop.act to_drop.has in
                ap (λ (r : JobRow). r.phase) (same_Some row fit.row (sym known ∙ ap (get tables.jobs) (sym to_drop.of_job) ∙ fit.job)) ∙ fit.acted.to_drop to_drop.drop to_drop.undone,
          );
          done = λ key trip act row has kind finished job. ap (λ (r : JobRow). r.phase) (sym (fits key trip act has row job)) ∙ (acts key trip act has).acted.dropped kind finished;
          one_vehicle = (jobs_apart_told tables keeps good).0 its.apart;
          waiting = λ job row known. (jobs.phases job row known).waiting;
          carried = λ key trip act row has kind job live.
              let same = fits key trip act has row job in
              subst (λ (r : JobRow). get tables.loads r.load ≡ Some (carried_at key r.origin (is_finished act.status))) same ((acts key trip act has).acted.pick kind (ap (λ (r : JobRow). is_live r.phase) same ∙ live));
          acts = λ key trip act has. let fit = acts key trip act has in record { row = fit.row; job = fit.job; load = fit.load; station = fit.station };
        };
      }

  tests : HasLawfulLoads (world_of tables) → Passed tables
  tests loads = record {
    few = (few_told tables).1 (loads.few_loads, loads.few_jobs);
    places = (places_told tables).1 loads.places;
    jobs = (jobs_told tables keeps good).1 (record { known = loads.jobs; phases = λ job row known. record { waiting = loads.joined.waiting job row known; riding = (loads.joined.riding job row known).0 } });
    one_job = (one_job_told tables).1 loads.joined.one_job;
    acts = (acts_told tables keeps good).1 (λ key trip act has.
        let its = loads.joined.acts key trip act has in
        record {
          row = its.row;
          job = its.job;
          load = its.load;
          station = its.station;
          acted = record {
            pick = λ kind live. loads.joined.carried key trip act its.row has kind its.job live;
            to_drop = λ kind unfinished. (loads.joined.riding act.job its.row its.job).1 (record { key = key; trip = trip; act = act; has = has; drop = kind; of_job = refl; undone = unfinished });
            dropped = λ kind finished. loads.joined.done key trip act its.row has kind finished its.job;
          };
        });
    apart = (jobs_apart_told tables keeps good).1 loads.joined.one_vehicle;
    room = (room_told tables vehicles).1 loads.room.room;
    within_capacity = (within_capacity_told tables).1 (record { idle = loads.idle; within_capacity = loads.within_capacity });
  }

  pub loads_tested : AreNamed tables → (are_lawful_loads tables ≡ true) ↔ HasLawfulLoads (world_of tables)
  loads_tested named = (λ all. lawful named (passed tables all), λ loads. all_passed tables (tests loads))
