-- The rows of the open trips of a lawful world: whose they are, and what their values are.
use Rattle.std.proofs.Common.{◌≡◌, ℕ, ◌+◌, ◌<◌, ◌≤◌, true, false, cond, List, [], ◌∷◌, map, length, Option, None, Some, IfSome, refl, sym, ap, subst, ◌∙◌, arith}
use Rattle.std.proofs.lemmas.Bool.{and_parts}
use Rattle.std.proofs.lemmas.Option.{same_Some}
use Rattle.std.specs.Cmp.{Equal-is}
use Rattle.std.specs.Cmp.Lexicographic.{nat_list_cmp_total}
use Rattle.std.specs.FinMap as finite
use Rattle.std.specs.List.{AllByRecursion, enumerate_from}
use Rattle.std.specs.Option.{option_map}
use Rattle.std.specs.Ordering.{eq_by_cmp}
use Rattle.agv_header.specs.KeyOrder.{key_cmp-total}
use Rattle.agv_header.specs.Name.{IsName, name_cmp}
use Rattle.agv_header.specs.declared.key.VehicleKey.{VehicleKey}
use Rattle.agv_layout.specs.declared.edge.Edge.{Edge}
use Rattle.agv_layout.specs.declared.edge.EdgeEnds.{EdgeEnds}
use Rattle.agv_order.specs.WellFormed.{IsEdgeOf}
use Rattle.agv_order.specs.declared.trip.Trip.{Trip}
use Rattle.agv_store_rows.specs.RowValues.{IsActKey, IsActValue, IsJourneyValue}
use Rattle.agv_store_rows.specs.TripRows.{journey_of, journeys_of}
use Rattle.agv_store_rows.specs.declared.act_key.ActKey.{ActKey}
use Rattle.agv_store_rows.specs.declared.act_row.ActRow.{ActRow}
use Rattle.agv_store_rows.specs.declared.journey_row.JourneyRow.{JourneyRow}
use Rattle.agv_world_core.specs.ConsistentTrips.{HasConsistentTrips}
use Rattle.agv_world_core.specs.KeyOrders.{leg_cmp-IsAntisymmetric, leg_cmp-total}
use Rattle.agv_world_core.specs.Keys.{leg_cmp}
use Rattle.agv_world_core.specs.Lawful.{IsLawful}
use Rattle.agv_world_core.specs.Maps.{leg_row, leg_rows, legs_of_trip, maps_of, rows_of_trip, trip_row, trip_rows}
use Rattle.agv_world_core.specs.Told.{names_vehicle}
use Rattle.agv_world_core.specs.Worlds.{Vehicle, World}
use Rattle.agv_world_core.specs.declared.key.LegKey.{LegKey}
use Rattle.agv_world_core.specs.declared.row.TripRow.{TripRow}
use Rattle.agv_store_schema.specs.SchemaNumbers.{desk_seats}
use Rattle.agv_store_rows.specs.DecodedTrips.{is_driven_by}
use Rattle.agv_store_rows.specs.TypedRows.{IsActRow, IsActRowKey, IsJourneyRow, IsLegKey, IsNumber}
use Rattle.agv_store_rows.proofs.LawfulValues.{edge_named}
use Rattle.agv_store_schema.proofs.SpreadRows.{spread_from}
use Rattle.agv_store_rows.proofs.TripRowLaws.{JourneysStand}
use Rattle.agv_store_rows.proofs.KeyTests.{names_apart, same_name}

of_one : {Y : Type 0} (q k : List ℕ) (x y : Y) → finite.find name_cmp q ((k, x) ∷ []) ≡ Some y → (q ≡ k) × (x ≡ y)
of_one q k x y found =
    elim (eq_by_cmp name_cmp q k) as (λ b. eq_by_cmp name_cmp q k ≡ b → cond b (Some x) None ≡ Some y → (q ≡ k) × (x ≡ y)) [
      | true ↦ λ t is. (names_apart q k ((Equal-is (name_cmp q k)).0 t), same_Some x y is)
      | false ↦ λ t is. absurd (cc is)
    ] refl found

-- ---- whose a row is

-- the row of a trip is that of the open trip of a vehicle
pub record IsOwn (world : World) (order : List ℕ) (row : TripRow) : Type 0 where
  pub key : VehicleKey
  pub vehicle : Vehicle
  pub trip : Trip
  pub there : finite.get world.vehicles key ≡ Some vehicle
  pub has : vehicle.trip ≡ Some trip
  pub order_is : order ≡ trip.order
  pub row_is : trip_row key trip ≡ row

own_of : (world : World) (order : List ℕ) (row : TripRow) (key : VehicleKey) (vehicle : Vehicle) (o : Option Trip) → vehicle.trip ≡ o → finite.get world.vehicles key ≡ Some vehicle
    → finite.find name_cmp order (rows_of_trip key o) ≡ Some row → IsOwn world order row
own_of world order row key vehicle None is at found = absurd (cc found)
own_of world order row key vehicle (Some trip) is at found =
    let one = of_one order trip.order (trip_row key trip) row found in
    record { key = key; vehicle = vehicle; trip = trip; there = at; has = is; order_is = one.0; row_is = one.1 }

pub trip_own : (world : World) (order : List ℕ) (row : TripRow) → finite.get (maps_of world).trips order ≡ Some row → IsOwn world order row
trip_own world order row at =
    let from = spread_from key_cmp-total name_cmp nat_list_cmp_total trip_rows world.vehicles order row at in
    own_of world order row from.0 from.1 from.1.trip refl from.2 from.3

pub vehicle_is : (key : VehicleKey) (entry : List ℕ × TripRow) → names_vehicle key entry ≡ true → entry.1.vehicle ≡ key
vehicle_is key entry is =
    let both = and_parts _ _ is in
    let manufacturer = (same_name entry.1.vehicle.manufacturer key.manufacturer).0 both.0 in
    let serial = (same_name entry.1.vehicle.serial key.serial).0 both.1 in
    λ i. record { manufacturer = manufacturer i; serial = serial i }

-- rows that name one vehicle are of one order
pub one_order : (world : World) (key : VehicleKey) (a b : List ℕ × TripRow) → finite.get (maps_of world).trips a.0 ≡ Some a.1 → finite.get (maps_of world).trips b.0 ≡ Some b.1
    → names_vehicle key a ≡ true → names_vehicle key b ≡ true → a.0 ≡ b.0
one_order world key a b at bt one two =
    let first = trip_own world a.0 a.1 at in
    let second = trip_own world b.0 b.1 bt in
    let keys : first.key ≡ second.key = ap (λ (row : TripRow). row.vehicle) first.row_is ∙ vehicle_is key a one ∙ sym (vehicle_is key b two) ∙ sym (ap (λ (row : TripRow). row.vehicle) second.row_is) in
    let vehicles : first.vehicle ≡ second.vehicle = same_Some _ _ (sym first.there ∙ ap (finite.get world.vehicles) keys ∙ second.there) in
    let trips : first.trip ≡ second.trip = same_Some _ _ (sym first.has ∙ ap (λ (vehicle : Vehicle). vehicle.trip) vehicles ∙ second.has) in
    first.order_is ∙ ap (λ (trip : Trip). trip.order) trips ∙ sym second.order_is

-- ---- the rows of journeys and acts

journey_from : (o : Option TripRow) (journey : JourneyRow) → option_map journey_of o ≡ Some journey → (trip : TripRow) × (o ≡ Some trip) × (journey_of trip ≡ journey)
journey_from None journey is = absurd (cc is)
journey_from (Some trip) journey is = (trip, refl, same_Some (journey_of trip) journey is)

-- journeys that name one vehicle are of one order
pub one_journey : JourneysStand → (world : World) (key : VehicleKey) (a b : List ℕ × JourneyRow)
    → finite.get (journeys_of (maps_of world).trips) a.0 ≡ Some a.1 → finite.get (journeys_of (maps_of world).trips) b.0 ≡ Some b.1
    → is_driven_by key a ≡ true → is_driven_by key b ≡ true → a.0 ≡ b.0
one_journey stand world key a b at bt one two =
    let trips = (maps_of world).trips in
    let first = journey_from (finite.get trips a.0) a.1 (sym (stand trips a.0) ∙ at) in
    let second = journey_from (finite.get trips b.0) b.1 (sym (stand trips b.0) ∙ bt) in
    one_order world key (a.0, first.0) (b.0, second.0) first.1 second.1
    (ap (λ (journey : JourneyRow). is_driven_by key (a.0, journey)) first.2 ∙ one)
    (ap (λ (journey : JourneyRow). is_driven_by key (b.0, journey)) second.2 ∙ two)

-- ---- their values

small : (n : ℕ) → n ≤ 200 → IsNumber n
small n low = omega arith

few : (n : ℕ) → n < 8 → IsNumber n
few n low = omega arith

confirmed_value : (o : Option ℕ) → ((update : ℕ) → o ≡ Some update → update ≤ 200) → IfSome o IsNumber
confirmed_value None low = tt
confirmed_value (Some update) low = small update (low update refl)

pub journey_typed : (journey : JourneyRow) → IsJourneyValue journey → IsJourneyRow journey
journey_typed journey value = record {
  vehicle = value.vehicle;
  start = value.start;
  first = small journey.first value.first;
  base = small journey.base value.base;
  sent = small journey.sent value.sent;
  confirmed = confirmed_value journey.confirmed value.confirmed;
  seen = small journey.seen value.seen;
}

pub act_key_typed : (key : ActKey) → IsActKey key → IsActRowKey key
act_key_typed key value = (value.order, few key.n value.number)

pub act_typed : (act : ActRow) → IsActValue act → IsActRow act
act_typed act value = record { job = value.job; place_at = small act.place_at value.place_at }

-- ---- the rows of edges

-- the row of an edge is numbered, and names one of the edges
numbered_one : (P : Edge → Type 0) (order : List ℕ) (n : ℕ) (edges : List Edge) → AllByRecursion P edges → (q : LegKey) (id : List ℕ) → finite.find leg_cmp q (map (leg_row order) (enumerate_from n edges)) ≡ Some id
    → (q.order ≡ order) × (q.k ≤ n + length edges) × (edge : Edge) × (edge.id ≡ id) × P edge
numbered_one P order n [] are q id is = absurd (cc is)
numbered_one P order n (edge ∷ edges) are q id is =
    elim (eq_by_cmp leg_cmp q (record { order = order; k = n }))
    as (λ b. eq_by_cmp leg_cmp q (record { order = order; k = n }) ≡ b → cond b (Some edge.id) (finite.find leg_cmp q (map (leg_row order) (enumerate_from (n + 1) edges))) ≡ Some id → (q.order ≡ order) × (q.k ≤ n + length (edge ∷ edges)) × (e : Edge) × (e.id ≡ id) × P e) [
      | true ↦ λ tied found.
          let key : q ≡ record { order = order; k = n } = leg_cmp-IsAntisymmetric q (record { order = order; k = n }) ((Equal-is (leg_cmp q (record { order = order; k = n }))).0 tied) in
          let k : q.k ≡ n = ap (λ (l : LegKey). l.k) key in
          (ap (λ (l : LegKey). l.order) key, omega (arith, k), edge, same_Some _ _ found, are.0)
      | false ↦ λ _ found.
          let later = numbered_one P order (n + 1) edges are.1 q id found in
          let low : q.k ≤ (n + 1) + length edges = later.1 in
          (later.0, omega (arith, low), later.2, later.3, later.4)
    ] refl is

leg_of : (world : World) (good : HasConsistentTrips world) (key : VehicleKey) (vehicle : Vehicle) (o : Option Trip) → vehicle.trip ≡ o → finite.get world.vehicles key ≡ Some vehicle → (q : LegKey) (id : List ℕ) → finite.find leg_cmp q (legs_of_trip o) ≡ Some id
    → (trip : Trip) × (vehicle.trip ≡ Some trip) × (q.order ≡ trip.order) × (q.k ≤ length trip.edges) × (edge : Edge) × (edge.id ≡ id) × IsEdgeOf world.layout edge
leg_of world good key vehicle None is at q id found = absurd (cc found)
leg_of world good key vehicle (Some trip) is at q id found =
    let one = numbered_one (IsEdgeOf world.layout) trip.order 0 trip.edges (good.known key trip (vehicle, at, is)) q id found in
    let low : q.k ≤ 0 + length trip.edges = one.1 in
    (trip, is, one.0, omega (arith, low), one.2, one.3, one.4)

module _ (world : World) (lawful : IsLawful desk_seats world) (good : HasConsistentTrips world) where
  -- the layout has the edge of each row, and the values of the row are in their ranges
  pub leg_value : (q : LegKey) (id : List ℕ) → finite.get (maps_of world).legs q ≡ Some id → IsLegKey q × IsName id × (ends : EdgeEnds) × (finite.get world.layout.edges id ≡ Some ends)
  leg_value q id at =
      let from = spread_from key_cmp-total leg_cmp leg_cmp-total leg_rows world.vehicles q id at in
      let leg = leg_of world good from.0 from.1 from.1.trip refl from.2 q id from.3 in
      let trip = leg.0 in
      let kept = lawful.trips.open_trips from.0 from.1 trip from.2 leg.1 in
      let short = kept.well_formed.planned.short in
      let edge = leg.4 in
      let ends : EdgeEnds = record { start = edge.start; finish = edge.finish } in
      let there : finite.get world.layout.edges id ≡ Some ends = subst (λ name. finite.get world.layout.edges name ≡ Some ends) leg.5 leg.6 in (
        (subst IsName (sym leg.2) (lawful.names.orders_named trip.order (lawful.names.used from.0 trip (from.1, from.2, leg.1))), small q.k (length trip.edges) leg.3 short),
        edge_named world lawful id ends there,
        ends,
        there,
      )
    where
      small : (n edges : ℕ) → n ≤ edges → edges ≤ 200 → IsNumber n
      small n edges p q = omega arith
