-- Where the vehicles are lawful, lawful loads give the stock invariant.
use Rattle.std.proofs.Common.{◌≡◌, ◌≢◌, ℕ, ◌+◌, ◌≤◌, Bool, true, false, List, IsTrue, Option, None, Some, refl, sym, ap, subst, ◌∙◌, true≢false, arith}
use Rattle.std.specs.FinMap as finite
use Rattle.std.specs.List.{slice_get}
use Rattle.std.proofs.lemmas.Bool.{false_from_ne_true}
use Rattle.agv_header.specs.KeyOrder.{key_cmp-IsAntisymmetric, key_cmp-ties, key_eq}
use Rattle.agv_header.specs.declared.key.VehicleKey.{VehicleKey}
use Rattle.agv_message_core.specs.declared.order.ActKind.{ActKind}
use Rattle.agv_message_core.specs.declared.order.ActKind.TheVariants.{Pick, Drop}
use Rattle.agv_order.specs.Statuses.{is_finished}
use Rattle.agv_order.specs.StopPlaces.{ArePaired}
use Rattle.agv_order.specs.Stops.{are_paired}
use Rattle.agv_order.specs.declared.act.Act.{Act}
use Rattle.agv_order.specs.declared.trip.Trip.{Trip}
use Rattle.agv_stock.specs.Phase.{is_live}
use Rattle.agv_stock.specs.Rooms.{is_on}
use Rattle.agv_stock.specs.declared.job.Phase.{Phase}
use Rattle.agv_stock.specs.declared.job.Phase.TheVariants as phase
use Rattle.agv_stock.specs.declared.place.Place.{Place}
use Rattle.agv_stock.specs.declared.place.Place.TheVariants as place
use Rattle.agv_world_core.specs.Questions.{loads_on_vehicle}
use Rattle.agv_world_core.specs.StockInvariant.{ActionView, HasStockInvariant, IsCarried, IsCarriedOn, IsKnownPlace, ActStands, capacity_for, capacity_of, to_pick, action_view, action_views_by, action_views_for, action_views_of}
use Rattle.agv_world_core.specs.ConsistentTrips.{HasTrip, IsVehicle}
use Rattle.agv_world_core.specs.Lawful.{HasAct, IsJob, IsPlaceIn, carried_at, station_for}
use Rattle.agv_world_core.specs.LawfulParts.{HasLawfulLoads, HasLawfulVehicles}
use Rattle.agv_world_core.specs.Worlds.{Vehicle, World}
use Rattle.agv_world_core.specs.declared.row.JobRow.{JobRow}
use Rattle.agv_world_core.proofs.lawful_worlds.ActPlaces.{ActAt, among, drop_of, from_mapped, one_place, picked_before, stops_of}
use Rattle.agv_world_core.proofs.lawful_worlds.StockInvariantTold.{origin_of}
use Rattle.agv_world_core.proofs.lists.Entries.{is_same, no_more, same_Some}
use Rattle.agv_world_core.proofs.lawful_worlds.CapacityCounts.{StopLaws, within_capacity_alike}
use Rattle.agv_world_core.proofs.lawful_worlds.OtherLoads.{capacity_none}
use Rattle.agv_world_core.proofs.lawful_worlds.WorldActionViews.{on_vehicle_is, reserved_is, action_view_of, action_views_is, has_act, of_act, stored_is}

module _ {seats : ℕ} (laws : StopLaws) (world : World) (vehicles : HasLawfulVehicles seats world) (loads : HasLawfulLoads world) where
  known_place_of : (where_is : Place) → IsPlaceIn world where_is → IsKnownPlace world.layout where_is
  known_place_of (place.Station id) known = known
  known_place_of (place.Vehicle key) known = tt
  known_place_of place.Checking known = tt
  known_place_of place.Left known = tt

  -- ---- acts

  module _ (key : VehicleKey) (trip : Trip) (has : HasTrip world key trip) where
    fits : IsTrue (are_paired (stops_of trip.acts))
    fits = (vehicles.trips key has.0 trip has.1 has.2).well_formed.planned.stops

    done : ArePaired (stops_of trip.acts)
    done = (laws.said (stops_of trip.acts)).0 fits

    act_in : (k : ℕ) (act : Act) → slice_get trip.acts k ≡ Some act → HasAct world key trip act
    act_in k act at = record { open_trip = has; among = among trip.acts k act at }

    -- the drop of a job is finished only where its pick is
    pick_finished : (k : ℕ) (act : Act) → slice_get trip.acts k ≡ Some act → act.kind ≡ Pick → (drop : ActAt trip.acts Drop act.job) → is_finished drop.act.status ≡ true → is_finished act.status ≡ true
    pick_finished k act at kind drop finished =
        let pick = picked_before trip.acts (vehicles.trips key has.0 trip has.1 has.2).well_formed.under_way.in_turn drop.k drop.act drop.here drop.kind_is finished in
        let index : pick.k ≡ k = one_place trip.acts done pick.k k pick.act act pick.here at (pick.pick ∙ sym kind) (pick.of_job ∙ drop.job_is) in
        let same : pick.act ≡ act = same_Some _ _ (sym pick.here ∙ ap (slice_get trip.acts) index ∙ at) in
        sym (ap (λ (a : Act). is_finished a.status) same) ∙ pick.finished

    module _ (k : ℕ) (act : Act) (at : slice_get trip.acts k ≡ Some act) (row : JobRow) (job : IsJob world act.job row) where
      rides : (drop : Act) → HasAct world key trip drop → drop.kind ≡ Drop → drop.job ≡ act.job → is_finished drop.status ≡ false → row.phase ≡ phase.Riding
      rides drop its kind same unfinished = (loads.joined.riding act.job row job).1 (record { key = key; trip = trip; act = drop; has = its; drop = kind; of_job = same; undone = unfinished })

      is_done : (drop : Act) → HasAct world key trip drop → drop.kind ≡ Drop → drop.job ≡ act.job → is_finished drop.status ≡ true → row.phase ≡ phase.Done
      is_done drop its kind same finished = loads.joined.done key trip drop row its kind finished (ap (finite.get world.jobs) same ∙ job)

      -- the phase of a pick's job is that of its drop
      pick_phase : act.kind ≡ Pick → (is_finished act.status ≡ false → row.phase ≡ phase.Riding) × (row.phase ≢ phase.Waiting)
      pick_phase kind =
          let drop = drop_of trip.acts done k act at in
          let its = act_in drop.k drop.act drop.here in
          elim (is_finished drop.act.status) as (λ b. is_finished drop.act.status ≡ b → (is_finished act.status ≡ false → row.phase ≡ phase.Riding) × (row.phase ≢ phase.Waiting)) [
            | false ↦ λ to_do. let on = rides drop.act its drop.kind_is drop.job_is to_do in (λ unfinished. on, λ waits. riding_waits row.phase on waits)
            | true ↦ λ finished.
                let over = is_done drop.act its drop.kind_is drop.job_is finished in
                (λ unfinished. absurd (true≢false (sym (pick_finished k act at kind drop finished) ∙ unfinished)), λ waits. done_waits row.phase over waits)
          ] refl
        where
          riding_waits : (its : Phase) → its ≡ phase.Riding → its ≡ phase.Waiting → ⊥
          riding_waits its e f = cc

          done_waits : (its : Phase) → its ≡ phase.Done → its ≡ phase.Waiting → ⊥
          done_waits its e f = cc

      stands : row.load ≡ act.load → station_for act.kind row ≡ act.station → (kind : ActKind) (finished : Bool) → act.kind ≡ kind → is_finished act.status ≡ finished → ActStands world.places key act.load act.station kind finished row.phase
      stands load station Pick false kind finished =
          let on = (pick_phase kind).0 finished in (
            on,
            ap (finite.get world.places) (sym load)
                ∙ loads.joined.carried key trip act row (act_in k act at) kind job (ap is_live on)
                ∙ ap (λ b. Some (carried_at key row.origin b)) finished
                ∙ ap (λ s. Some (place.Station s)) (sym (origin_of act.kind row act.station kind station)),
          )
      stands load station Pick true kind finished = (
        (pick_phase kind).1,
        λ on.
            ap (finite.get world.places) (sym load)
            ∙ loads.joined.carried key trip act row (act_in k act at) kind job (ap is_live on)
            ∙ ap (λ b. Some (carried_at key row.origin b)) finished,
      )
      stands load station Drop false kind finished = rides act (act_in k act at) kind refl finished
      stands load station Drop true kind finished = is_done act (act_in k act at) kind refl finished

    carried_act : (k : ℕ) (act : Act) → slice_get trip.acts k ≡ Some act → IsCarried world.places world.jobs key (action_view act)
    carried_act k act at =
        let its = loads.joined.acts key trip act (act_in k act at) in
        record { row = its.row; here = its.job; load = its.load; station = its.station; stands = stands k act at its.row its.job its.load its.station act.kind (is_finished act.status) refl refl }

  -- ---- what a vehicle may carry

  within_capacity : (key : VehicleKey) → loads_on_vehicle world.places key + to_pick (action_views_of world key) ≤ capacity_of world key
  within_capacity key = of_vehicle (finite.get world.vehicles key) refl
    where
      add_none : (n m c : ℕ) → n ≡ m → n ≤ c → m + 0 ≤ c
      add_none n m c e f = omega (arith, e, f)

      nothing : (n : ℕ) → n ≡ 0 → n + 0 ≤ 0
      nothing n e = omega (arith, e)

      not_on : finite.get world.vehicles key ≡ None → (load : List ℕ) (where_is : Place) → finite.get world.places load ≡ Some where_is → is_on key where_is ≡ false
      not_on none load (place.Station id) at = refl
      not_on none load (place.Vehicle by) at = false_from_ne_true (key_eq by key) (λ same.
          let known = loads.places load (place.Vehicle by) at in
          no_more known.0 (sym none ∙ ap (finite.get world.vehicles) (sym (is_same key_cmp-IsAntisymmetric by key (sym (key_cmp-ties by key) ∙ same))) ∙ known.1))
      not_on none load place.Checking at = refl
      not_on none load place.Left at = refl

      of_trip : (vehicle : Vehicle) (trip : Option Trip) → IsVehicle world key vehicle → vehicle.trip ≡ trip → loads_on_vehicle world.places key + to_pick (action_views_by trip) ≤ vehicle.row.capacity
      of_trip vehicle None known none = add_none _ _ _ (on_vehicle_is world key) (loads.idle key vehicle known none)
      of_trip vehicle (Some trip) known is_open =
          let has : HasTrip world key trip = (vehicle, known, is_open) in
          let alike = within_capacity_alike world.places world.jobs key laws loads.joined.one_job (λ job row at. (loads.jobs job row at).load) trip.acts (fits key trip has) (carried_act key trip has) in
          subst (λ n. n ≤ vehicle.row.capacity) alike (loads.within_capacity key vehicle trip known is_open)

      of_vehicle : (found : Option Vehicle) → finite.get world.vehicles key ≡ found → loads_on_vehicle world.places key + to_pick (action_views_for (finite.get world.vehicles key)) ≤ capacity_for (finite.get world.vehicles key)
      of_vehicle None none = subst (λ found. loads_on_vehicle world.places key + to_pick (action_views_for found) ≤ capacity_for found) (sym none) (nothing _ (capacity_none world.places key (not_on none)))
      of_vehicle (Some vehicle) known = subst (λ found. loads_on_vehicle world.places key + to_pick (action_views_for found) ≤ capacity_for found) (sym known) (of_trip vehicle vehicle.trip known refl)

  -- ---- actions

  carried : (key : VehicleKey) (k : ℕ) (its : ActionView) → slice_get (action_views_of world key) k ≡ Some its → IsCarried world.places world.jobs key its
  carried key k its at = let of = of_act world key k its at in subst (IsCarried world.places world.jobs key) of.is (carried_act key of.trip of.open_trip k of.act of.here)

  carried_on : (job : List ℕ) (row : JobRow) → IsJob world job row → row.phase ≡ phase.Riding → IsCarriedOn (action_views_of world) job
  carried_on job row known on =
      let its = (loads.joined.riding job row known).0 on in
      let at = action_view_of world its.key its.trip its.act its.has in
      record { key = its.key; k = at.0; action_view = action_view its.act; here = at.1; drop = its.drop; of_job = its.of_job; undone = its.undone }

  once : (one other : VehicleKey) (i k : ℕ) (its more : ActionView) → slice_get (action_views_of world one) i ≡ Some its → slice_get (action_views_of world other) k ≡ Some more → its.job ≡ more.job → (one ≡ other) × (its.kind ≡ more.kind → i ≡ k)
  once one other i k its more at by same =
      let of = of_act world one i its at in
      let too = of_act world other k more by in
      let vehicle : one ≡ other = loads.joined.one_vehicle one other of.trip too.trip of.act too.act (has_act world one i its of) (has_act world other k more too)
      (ap (λ (e : ActionView). e.job) of.is ∙ same ∙ sym (ap (λ (e : ActionView). e.job) too.is)) in (
        vehicle,
        λ kind.
            let here : slice_get (action_views_of world one) k ≡ Some more = subst (λ key. slice_get (action_views_of world key) k ≡ Some more) (sym vehicle) by in
            let next = from_mapped action_view of.trip.acts k more (subst (λ list. slice_get list k ≡ Some more) (action_views_is world one of.trip of.open_trip) here) in
            one_place of.trip.acts (done one of.trip of.open_trip) i k of.act next.0 of.here next.1
            (ap (λ (e : ActionView). e.kind) of.is ∙ kind ∙ sym (ap (λ (e : ActionView). e.kind) next.2))
            (ap (λ (e : ActionView). e.job) of.is ∙ same ∙ sym (ap (λ (e : ActionView). e.job) next.2)),
      )

  pub stock_made : HasStockInvariant world
  stock_made = record {
    few_loads = loads.few_loads;
    few_jobs = loads.few_jobs;
    loads_named = loads.loads_named;
    jobs_named = loads.jobs_named;
    known_places = λ load where_is at. known_place_of where_is (loads.places load where_is at);
    known = λ job row at. let its = loads.jobs job row at in record { load = its.load; origin = its.origin; target = its.target };
    room = λ station site known. roomy _ _ _ _ _ (stored_is world station) (reserved_is world station) (loads.room.room station site known);
    within_capacity = within_capacity;
    one_job = loads.joined.one_job;
    waiting = loads.joined.waiting;
    riding = carried_on;
    carried = carried;
    once = once;
  }
    where
      roomy : (m n m' n' c : ℕ) → m ≡ m' → n ≡ n' → m + n ≤ c → m' + n' ≤ c
      roomy m n m' n' c e f h = omega (arith, e, f, h)
