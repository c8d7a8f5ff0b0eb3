-- The vehicles of a lawful world carry one load each, where each has the capacity 1 and each open trip serves a job.
use Rattle.std.proofs.Common.{◌≡◌, ◌≢◌, ℕ, ◌*◌, ◌≤◌, suc, not, ◌&&◌, nat_eq, true, false, cond, List, [], ◌∷◌, map, filter, length, count_by, Option, Some, None, IsTrue, refl, sym, ap, subst, ◌∙◌, arith}
use Rattle.std.proofs.lemmas.Bool.{and_parts, and_from}
use Rattle.std.proofs.lemmas.List.Sums.{length-filter}
use Rattle.std.proofs.lemmas.Option.{same_Some}
use Rattle.std.specs.Cmp.{Equal-is}
use Rattle.std.specs.Cmp.Lexicographic.{pointwise, nat_list_cmp_total}
use Rattle.std.specs.FinMap as finite
use Rattle.std.specs.List.{Contains}
use Rattle.std.specs.Ordering.{eq_by_cmp}
use Rattle.agv_header.specs.Key.{key_cmp}
use Rattle.agv_header.specs.KeyOrder.{key_cmp-total}
use Rattle.agv_header.specs.Name.{name_cmp}
use Rattle.agv_header.specs.declared.key.VehicleKey.{VehicleKey}
use Rattle.agv_order.specs.StopPlaces.{stop_picks}
use Rattle.agv_order.specs.Stops.{is_drop, is_of, is_pick_then_drop, are_paired}
use Rattle.agv_order.specs.Trips.{stop_of, task_of}
use Rattle.agv_order.specs.declared.act.Act.{Act}
use Rattle.agv_order.specs.declared.stop.Stop.{Stop}
use Rattle.agv_order.specs.declared.trip.Trip.{Trip}
use Rattle.agv_world_core.specs.Lawful.{IsLawful, NamesItsJob, picks, station_for}
use Rattle.agv_world_core.specs.Maps.{Maps, maps_of, vehicle_rows, trip_rows, rows_of_trip, trip_row}
use Rattle.agv_world_core.specs.Worlds.{Vehicle, World}
use Rattle.agv_world_core.specs.declared.row.JobRow.{JobRow}
use Rattle.agv_world_core.specs.declared.row.TripRow.{TripRow}
use Rattle.agv_world_core.specs.declared.row.VehicleRow.{VehicleRow}
use Rattle.agv_store_migrate.specs.FirstRows.{ServesJobs}
use Rattle.agv_store_migrate.specs.TripLines.{acts_of, are_of_one_job, line_of, line_with, trip_told}
use Rattle.agv_store_migrate.specs.declared.trip_line.TripLine.{TripLine}
use Rattle.agv_store_rows.proofs.ListsFollow.{names_apart}
use Rattle.agv_store_schema.proofs.SpreadRows.{spread_from}
use Rattle.agv_store_migrate.proofs.TripLineLemmas.{same_name, own_name, pick_kind, drop_kind}

-- the trip is what its line and the row of its job tell
pub record IsTripOfJob (maps : Maps) (order : List ℕ) (trip : TripRow) : Type 0 where
  pub line : TripLine
  pub is : line_of order trip ≡ Some line
  pub job : JobRow
  pub known : finite.get maps.jobs line.job ≡ Some job
  pub told : trip_told line job ≡ trip

-- each vehicle has the capacity 1, and each open trip is of one job, which is known: the first schema tells no more
pub record CarriesOneEach (maps : Maps) : Type 0 where
  pub vehicles : (key : VehicleKey) (vehicle : VehicleRow) → finite.get maps.vehicles key ≡ Some vehicle → vehicle.capacity ≡ 1
  pub trips : (order : List ℕ) (trip : TripRow) → finite.get maps.trips order ≡ Some trip → IsTripOfJob maps order trip

-- paired stops are twice as many as the picks
abbrev pub StopsTwice : Type 0
StopsTwice = (stops : List Stop) → IsTrue (are_paired stops) → length stops ≡ 2 * length (filter stop_picks stops)

-- ---- two stops that are paired

abbrev stops_of : List Act → List Stop
stops_of acts = map stop_of (map task_of acts)

picks_as_stops : (acts : List Act) → length (filter stop_picks (stops_of acts)) ≡ length (filter picks acts)
picks_as_stops [] = refl
picks_as_stops (act ∷ acts) =
    let more = picks_as_stops acts in
    elim (not (is_drop act.kind)) as (λ b. length (cond b (stop_of (task_of act) ∷ filter stop_picks (stops_of acts)) (filter stop_picks (stops_of acts))) ≡ length (cond b (act ∷ filter picks acts) (filter picks acts))) [
      | true ↦ ap suc more
      | false ↦ more
    ]

one_is_few : (a : Stop) → ¬ (IsTrue (are_paired (a ∷ [])))
one_is_few a fit =
    let kinds = subst (λ t. is_pick_then_drop (map (λ (stop : Stop). stop.kind) (cond t (a ∷ []) [])) ≡ true) (own_name a.job) (and_parts _ _ fit).0 in
    absurd (cc kinds)

two_paired : (a b : Stop) → IsTrue (are_paired (a ∷ b ∷ [])) → ((not (is_drop a.kind) && is_drop b.kind) ≡ true) × (b.job ≡ a.job)
two_paired a b fit =
    elim (pointwise nat_eq b.job a.job)
    as (λ t. pointwise nat_eq b.job a.job ≡ t → is_pick_then_drop (map (λ (stop : Stop). stop.kind) (a ∷ cond t (b ∷ []) [])) ≡ true → ((not (is_drop a.kind) && is_drop b.kind) ≡ true) × (b.job ≡ a.job)) [
      | true ↦ λ is kinds. (kinds, (same_name b.job a.job).0 is)
      | false ↦ λ is kinds. absurd (cc kinds)
    ] refl (subst (λ t. is_pick_then_drop (map (λ (stop : Stop). stop.kind) (cond t (a ∷ filter (is_of a.job) (b ∷ [])) (filter (is_of a.job) (b ∷ [])))) ≡ true) (own_name a.job) (and_parts _ _ fit).0)

-- ---- the trip of one job

-- the acts are the pick and the drop of one job
record IsPair (acts : List Act) : Type 0 where
  pick : Act
  drop : Act
  are : acts ≡ pick ∷ drop ∷ []
  kinds : (not (is_drop pick.kind) && is_drop drop.kind) ≡ true
  job : drop.job ≡ pick.job

pair_of : StopsTwice → (acts : List Act) → acts ≢ [] → IsTrue (are_paired (stops_of acts)) → count_by picks acts ≤ 1 → IsPair acts
pair_of twice [] some fit few = absurd (some refl)
pair_of twice (a ∷ []) some fit few = absurd (one_is_few (stop_of (task_of a)) fit)
pair_of twice (a ∷ (b ∷ [])) some fit few =
    let both = two_paired (stop_of (task_of a)) (stop_of (task_of b)) fit in
    record { pick = a; drop = b; are = refl; kinds = both.0; job = both.1 }
pair_of twice (a ∷ (b ∷ (c ∷ more))) some fit few =
    let many = twice (stops_of (a ∷ b ∷ c ∷ more)) fit in
    let picked = picks_as_stops (a ∷ b ∷ c ∷ more) ∙ length-filter picks (a ∷ b ∷ c ∷ more) in
    absurd (too_many _ _ _ many picked few)
  where
    too_many : (more p q : ℕ) → suc (suc (suc more)) ≡ 2 * p → p ≡ q → q ≤ 1 → ⊥
    too_many more p q many same few = omega arith

-- such a trip is what its line and the row of its job tell
trip_single : (world : World) (key : VehicleKey) (trip : Trip) → IsPair trip.acts → ((act : Act) → Contains trip.acts act → NamesItsJob world act) → IsTripOfJob (maps_of world) trip.order (trip_row key trip)
trip_single world key trip pair named =
    let pick = pair.pick in
    let drop = pair.drop in
    let first = named pick (subst (λ acts. Contains acts pick) (sym pair.are) (0, omega arith, refl)) in
    let second = named drop (subst (λ acts. Contains acts drop) (sym pair.are) (1, omega arith, refl)) in
    let same_row : first.row ≡ second.row = same_Some _ _ (sym first.job ∙ ap (finite.get world.jobs) (sym pair.job) ∙ second.job) in
    let load : second.row.load ≡ first.row.load = ap (λ (row : JobRow). row.load) (sym same_row) in
    let loads : pick.load ≡ drop.load = sym first.load ∙ sym load ∙ second.load in
    let kinds = and_parts _ _ pair.kinds in
    let picks_it = pick_kind pick.kind kinds.0 in
    let drops_it = drop_kind drop.kind kinds.1 in
    let origin : first.row.origin ≡ pick.station = ap (λ kind. station_for kind first.row) picks_it ∙ first.station in
    let target : first.row.target ≡ drop.station = ap (λ (row : JobRow). row.target) same_row ∙ ap (λ kind. station_for kind second.row) drops_it ∙ second.station in
    let one_job : are_of_one_job pick drop ≡ true =
    and_from _ _ (and_from _ _ pair.kinds ((same_name pick.job drop.job).1 (sym pair.job))) ((same_name pick.load drop.load).1 loads) in
    let line = line_with trip.order (trip_row key trip) pick drop in
    let acts : acts_of line first.row ≡ trip.acts = (λ i.
    record { kind = picks_it i; job = pick.job; load = first.load i; station = origin i; place_at = pick.place_at; status = pick.status }
    ∷ record { kind = drops_it i; job = sym pair.job i; load = (first.load ∙ loads) i; station = target i; place_at = drop.place_at; status = drop.status } ∷ []) ∙ sym pair.are in
    record {
      line = line;
      is = ap (λ acts. line_of trip.order (record (trip_row key trip) { acts = acts })) pair.are ∙ ap (λ b. cond b (Some (line_with trip.order (record (trip_row key trip) { acts = pick ∷ drop ∷ [] }) pick drop)) None) one_job;
      job = first.row;
      known = first.job;
      told = ap (λ acts. record (trip_row key trip) { acts = acts }) acts;
    }

-- ---- all rows

of_one : {Y : Type 0} (q k : List ℕ) (x y : Y) → finite.find name_cmp q ((k, x) ∷ []) ≡ Some y → (q ≡ k) × (x ≡ y)
of_one q k x y found =
    elim (eq_by_cmp name_cmp q k) as (λ b. eq_by_cmp name_cmp q k ≡ b → cond b (Some x) None ≡ Some y → (q ≡ k) × (x ≡ y)) [
      | true ↦ λ t is. (names_apart q k ((Equal-is (name_cmp q k)).0 t), same_Some x y is)
      | false ↦ λ t is. absurd (cc is)
    ] refl found

own_row : (q k : VehicleKey) (x y : VehicleRow) → finite.find key_cmp q ((k, x) ∷ []) ≡ Some y → x ≡ y
own_row q k x y found =
    elim (eq_by_cmp key_cmp q k) as (λ b. cond b (Some x) None ≡ Some y → x ≡ y) [
      | true ↦ λ is. same_Some x y is
      | false ↦ λ is. absurd (cc is)
    ] found

squeezed : (n : ℕ) → 1 ≤ n → n ≤ 1 → n ≡ 1
squeezed n low high = omega arith

pub lawful_single : StopsTwice → (world : World) → IsLawful 1 world → ServesJobs world → CarriesOneEach (maps_of world)
lawful_single twice world lawful served = record {
  vehicles = λ key row at.
      let from = spread_from key_cmp-total key_cmp key_cmp-total vehicle_rows world.vehicles key row at in
      let own = own_row key from.0 from.1.row row from.3 in
      subst (λ (row : VehicleRow). row.capacity ≡ 1) own (squeezed from.1.row.capacity (lawful.capacity.carries from.0 from.1 from.2) (lawful.capacity.seated from.0 from.1 from.2));
  trips = λ order row at.
      let from = spread_from key_cmp-total name_cmp nat_list_cmp_total trip_rows world.vehicles order row at in
      trip_at order row from.0 from.1 from.1.trip refl from.2 from.3;
}
  where
    trip_at : (order : List ℕ) (row : TripRow) (key : VehicleKey) (vehicle : Vehicle) (trip : Option Trip) → vehicle.trip ≡ trip → finite.get world.vehicles key ≡ Some vehicle
        → finite.find name_cmp order (rows_of_trip key trip) ≡ Some row → IsTripOfJob (maps_of world) order row
    trip_at order row key vehicle None is at found = absurd (cc found)
    trip_at order row key vehicle (Some trip) is at found =
        let own = of_one order trip.order (trip_row key trip) row found in
        let kept = lawful.trips.open_trips key vehicle trip at is in
        let few : count_by picks trip.acts ≤ 1 = between _ _ (lawful.capacity.picks_fit key vehicle trip at is) (lawful.capacity.seated key vehicle at) in
        let pair = pair_of twice trip.acts (served key trip (vehicle, at, is)) kept.well_formed.planned.stops few in
        subst (λ q. IsTripOfJob (maps_of world) q row) (sym own.0)
        (subst (IsTripOfJob (maps_of world) trip.order) own.1
        (trip_single world key trip pair (λ act among. lawful.jobs.acts key trip act (record { open_trip = (vehicle, at, is); among = among }))))
      where
        between : (a b : ℕ) → a ≤ b → b ≤ 1 → a ≤ 1
        between a b p q = omega arith
