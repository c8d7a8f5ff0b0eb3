-- Where the vehicles are lawful, the stock invariant gives lawful loads.
use Rattle.std.proofs.Common.{◌≡◌, ℕ, ◌+◌, ◌<◌, ◌≤◌, Bool, true, false, List, count_by, IsTrue, None, Some, refl, sym, ap, subst, ◌∙◌, arith}
use Rattle.std.specs.FinMap as finite
use Rattle.std.specs.List.{slice_get}
use Rattle.agv_header.specs.declared.key.VehicleKey.{VehicleKey}
use Rattle.agv_message_core.specs.declared.order.ActKind.{ActKind}
use Rattle.agv_message_core.specs.declared.order.ActKind.TheVariants.{Pick, Drop}
use Rattle.agv_order.specs.Statuses.{is_finished}
use Rattle.agv_order.specs.Stops.{are_paired}
use Rattle.agv_order.specs.declared.act.Act.{Act}
use Rattle.agv_order.specs.declared.trip.Trip.{Trip}
use Rattle.agv_stock.specs.Phase.{is_live}
use Rattle.agv_stock.specs.declared.job.Phase.{Phase}
use Rattle.agv_stock.specs.declared.job.Phase.TheVariants as phase
use Rattle.agv_stock.specs.declared.place.Place.{Place}
use Rattle.agv_stock.specs.declared.place.Place.TheVariants as place
use Rattle.agv_world_core.specs.Questions.{loads_on_vehicle}
use Rattle.agv_world_core.specs.StockInvariant.{ActionView, HasStockInvariant, IsCarried, IsKnownPlace, Places, ActStands, capacity_for, to_pick, action_view, action_views, action_views_by, action_views_for, action_views_of}
use Rattle.agv_world_core.specs.ConsistentTrips.{HasTrip, IsVehicle}
use Rattle.agv_world_core.specs.Lawful.{HasAct, IsJob, IsPlaceIn, IsToDrop, carried_at, is_to_drop, other_loads, station_for}
use Rattle.agv_world_core.specs.LawfulParts.{HasLawfulLoads, HasLawfulVehicles}
use Rattle.agv_world_core.specs.Worlds.{Vehicle, World}
use Rattle.agv_world_core.specs.declared.row.JobRow.{JobRow}
use Rattle.agv_world_core.proofs.lawful_worlds.ActPlaces.{mapped_at, stops_of}
use Rattle.agv_world_core.proofs.lists.Entries.{same_Some}
use Rattle.agv_world_core.proofs.lawful_worlds.CapacityCounts.{StopLaws, key_itself, within_capacity_alike}
use Rattle.agv_world_core.proofs.lawful_worlds.OtherLoads.{capacity_one}
use Rattle.agv_world_core.proofs.lawful_worlds.WorldActionViews.{on_vehicle_is, reserved_is, action_view_of, action_views_is, has_act, of_act, stored_is}

-- ---- what stands as it should, by kind

drop_phase : (places : Places) (key : VehicleKey) (load station : List ℕ) (kind : ActKind) (finished : Bool) (its : Phase) → kind ≡ Drop → ActStands places key load station kind finished its → (finished ≡ false → its ≡ phase.Riding) × (finished ≡ true → its ≡ phase.Done)
drop_phase places key load station Pick finished its kind stands = cc
drop_phase places key load station Drop false its kind stands = (λ e. stands, λ e. cc)
drop_phase places key load station Drop true its kind stands = (λ e. cc, λ e. stands)

pub origin_of : (kind : ActKind) (row : JobRow) (station : List ℕ) → kind ≡ Pick → station_for kind row ≡ station → station ≡ row.origin
origin_of Pick row station kind is = sym is
origin_of Drop row station kind is = cc

pick_place : (places : Places) (key : VehicleKey) (load station : List ℕ) (kind : ActKind) (finished : Bool) (its : Phase) → kind ≡ Pick → is_live its ≡ true → ActStands places key load station kind finished its → finite.get places load ≡ Some (carried_at key station finished)
pick_place places key load station Pick false its kind live stands = stands.1
pick_place places key load station Pick true phase.Riding kind live stands = stands.1 refl
pick_place places key load station Pick true phase.Waiting kind live stands = absurd (stands.0 refl)
pick_place places key load station Pick true phase.Done kind live stands = cc
pick_place places key load station Pick true phase.Stopped kind live stands = cc
pick_place places key load station Drop finished its kind live stands = cc

module _ {seats : ℕ} (laws : StopLaws) (world : World) (vehicles : HasLawfulVehicles seats world) (stock : HasStockInvariant world) where
  -- ---- vehicles

  known_vehicle : (load : List ℕ) (key : VehicleKey) → finite.get world.places load ≡ Some (place.Vehicle key) → (vehicle : Vehicle) × IsVehicle world key vehicle
  known_vehicle load key at =
      elim (finite.get world.vehicles key) as (λ found. finite.get world.vehicles key ≡ found → (vehicle : Vehicle) × IsVehicle world key vehicle) [
        | None ↦ λ none.
            let few : loads_on_vehicle world.places key + to_pick (action_views_of world key) ≤ 0 = subst (λ found. loads_on_vehicle world.places key + to_pick (action_views_of world key) ≤ capacity_for found) none (stock.within_capacity key) in
            let one = capacity_one world.places key load (place.Vehicle key) at (key_itself key) in
            absurd (never _ _ few one)
        | Some vehicle ↦ λ known. (vehicle, known)
      ] refl
    where
      never : (n m : ℕ) → n + m ≤ 0 → 0 < n → ⊥
      never n m e f = omega (arith, e, f)

  place_in : (load : List ℕ) (where_is : Place) → finite.get world.places load ≡ Some where_is → IsKnownPlace world.layout where_is → IsPlaceIn world where_is
  place_in load (place.Station id) at known = known
  place_in load (place.Vehicle key) at known = known_vehicle load key at
  place_in load place.Checking at known = tt
  place_in load place.Left at known = tt

  capacity_by : (key : VehicleKey) (vehicle : Vehicle) → IsVehicle world key vehicle → loads_on_vehicle world.places key + to_pick (action_views_for (Some vehicle)) ≤ vehicle.row.capacity
  capacity_by key vehicle known = subst (λ found. loads_on_vehicle world.places key + to_pick (action_views_for found) ≤ capacity_for found) known (stock.within_capacity key)

  -- ---- acts

  carried_act : (key : VehicleKey) (trip : Trip) (act : Act) → HasAct world key trip act → IsCarried world.places world.jobs key (action_view act)
  carried_act key trip act has = let at = action_view_of world key trip act has in stock.carried key at.0 (action_view act) at.1

  same_row : (key : VehicleKey) (trip : Trip) (act : Act) (row : JobRow) (has : HasAct world key trip act) → IsJob world act.job row → (carried_act key trip act has).row ≡ row
  same_row key trip act row has job = same_Some _ _ (sym (carried_act key trip act has).here ∙ job)

  phase_of : (key : VehicleKey) (trip : Trip) (act : Act) (row : JobRow) → HasAct world key trip act → act.kind ≡ Drop → IsJob world act.job row → (is_finished act.status ≡ false → row.phase ≡ phase.Riding) × (is_finished act.status ≡ true → row.phase ≡ phase.Done)
  phase_of key trip act row has kind job =
      let its = carried_act key trip act has in
      let same = sym (ap (λ (r : JobRow). r.phase) (same_row key trip act row has job)) in
      let by = drop_phase world.places key act.load act.station act.kind (is_finished act.status) its.row.phase kind its.stands in
      (λ e. same ∙ by.0 e, λ e. same ∙ by.1 e)

  to_drop : (job : List ℕ) (row : JobRow) → IsJob world job row → row.phase ≡ phase.Riding → IsToDrop world job
  to_drop job row known rides =
      let on = stock.riding job row known rides in
      let of = of_act world on.key on.k on.action_view on.here in
      record {
        key = on.key;
        trip = of.trip;
        act = of.act;
        has = has_act world on.key on.k on.action_view of;
        drop = ap (λ (e : ActionView). e.kind) of.is ∙ on.drop;
        of_job = ap (λ (e : ActionView). e.job) of.is ∙ on.of_job;
        undone = ap (λ (e : ActionView). e.finished) of.is ∙ on.undone;
      }

  rides : (job : List ℕ) (row : JobRow) → IsJob world job row → IsToDrop world job → row.phase ≡ phase.Riding
  rides job row known its = (phase_of its.key its.trip its.act row its.has its.drop (ap (finite.get world.jobs) its.of_job ∙ known)).0 its.undone

  pick_at : (key : VehicleKey) (trip : Trip) (act : Act) (row : JobRow) → HasAct world key trip act → act.kind ≡ Pick → IsJob world act.job row → is_live row.phase ≡ true → finite.get world.places row.load ≡ Some (carried_at key row.origin (is_finished act.status))
  pick_at key trip act row has kind job live =
      let its = carried_act key trip act has in
      let same = same_row key trip act row has job in
      ap (finite.get world.places) (ap (λ (r : JobRow). r.load) (sym same) ∙ its.load)
      ∙ pick_place world.places key act.load act.station act.kind (is_finished act.status) its.row.phase kind (ap (λ (r : JobRow). is_live r.phase) same ∙ live) its.stands
      ∙ ap (λ station. Some (carried_at key station (is_finished act.status))) (origin_of act.kind its.row act.station kind its.station ∙ ap (λ (r : JobRow). r.origin) same)

  -- ---- what a vehicle may carry

  fits_of : (key : VehicleKey) (trip : Trip) → HasTrip world key trip → IsTrue (are_paired (stops_of trip.acts))
  fits_of key trip has = (vehicles.trips key has.0 trip has.1 has.2).well_formed.planned.stops

  within_capacity : (key : VehicleKey) (vehicle : Vehicle) (trip : Trip) → IsVehicle world key vehicle → vehicle.trip ≡ Some trip → other_loads world key trip + count_by is_to_drop trip.acts ≤ vehicle.row.capacity
  within_capacity key vehicle trip known has =
      let carried = λ (k : ℕ) (act : Act) (at : slice_get trip.acts k ≡ Some act). stock.carried key k (action_view act) (subst (λ list. slice_get list k ≡ Some (action_view act)) (sym (action_views_is world key trip (vehicle, known, has))) (mapped_at action_view trip.acts k act at)) in
      let alike = within_capacity_alike world.places world.jobs key laws stock.one_job (λ job row at. (stock.known job row at).load) trip.acts (fits_of key trip (vehicle, known, has)) carried in
      let few : loads_on_vehicle world.places key + to_pick (action_views trip.acts) ≤ vehicle.row.capacity = subst (λ trip. loads_on_vehicle world.places key + to_pick (action_views_by trip) ≤ vehicle.row.capacity) has (capacity_by key vehicle known) in
      subst (λ n. n ≤ vehicle.row.capacity) (sym alike) few

  pub loads_told : HasLawfulLoads world
  loads_told = record {
    few_loads = stock.few_loads;
    few_jobs = stock.few_jobs;
    loads_named = stock.loads_named;
    jobs_named = stock.jobs_named;
    places = λ load where_is at. place_in load where_is at (stock.known_places load where_is at);
    jobs = λ job row at. let its = stock.known job row at in record { load = its.load; origin = its.origin; target = its.target };
    room = record { room = λ station site known. roomy _ _ _ _ _ (stored_is world station) (reserved_is world station) (stock.room station site known) };
    idle = λ key vehicle known none. subst (λ n. n ≤ vehicle.row.capacity) (sym (on_vehicle_is world key)) (idle _ _ _ (ap (λ trip. to_pick (action_views_by trip)) none) (capacity_by key vehicle known));
    within_capacity = within_capacity;
    joined = record {
      one_job = stock.one_job;
      riding = λ job row known. (to_drop job row known, rides job row known);
      done = λ key trip act row has kind finished job. (phase_of key trip act row has kind job).1 finished;
      one_vehicle = λ one other trip further act more has too same.
          let at = action_view_of world one trip act has in
          let by = action_view_of world other further more too in
          (stock.once one other at.0 by.0 (action_view act) (action_view more) at.1 by.1 same).0;
      waiting = stock.waiting;
      carried = pick_at;
      acts = λ key trip act has. let its = carried_act key trip act has in record { row = its.row; job = its.here; load = its.load; station = its.station };
    };
  }
    where
      idle : (n d c : ℕ) → d ≡ 0 → n + d ≤ c → n ≤ c
      idle n d c e f = omega (arith, e, f)

      roomy : (m n m' n' c : ℕ) → m ≡ m' → n ≡ n' → m' + n' ≤ c → m + n ≤ c
      roomy m n m' n' c e f h = omega (arith, e, f, h)
