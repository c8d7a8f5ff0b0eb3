-- The names and the numbers in the rows of the open trips of a lawful world.
use Rattle.std.proofs.Common.{◌≡◌, ℕ, zero, suc, ◌<◌, ◌≤◌, arith, List, [], ◌∷◌, map, length, true, Option, None, Some, inl, inr, refl, sym, subst, ◌∙◌}
use Rattle.std.proofs.lemmas.List.{length-map}
use Rattle.std.proofs.lemmas.Option.{slice_get_within}
use Rattle.std.specs.FinMap as finite
use Rattle.std.specs.FinSet as set
use Rattle.std.specs.List.{AllByRecursion, slice_get}
use Rattle.std.specs.Option.{option_and_then, option_map}
use Rattle.agv_header.specs.Name.{IsName, name_cmp}
use Rattle.agv_layout.specs.Layout.{IsNode, KeepsRules, Layout}
use Rattle.agv_layout.specs.Walk.{IsWalk}
use Rattle.agv_order.specs.Trips.{task_of}
use Rattle.agv_order.specs.WellFormed.{AreInOrder, IsConfirmed, IsRising}
use Rattle.agv_order.specs.declared.act.Act.{Act}
use Rattle.agv_order.specs.declared.trip.Trip.{Trip}
use Rattle.agv_world_core.specs.Lawful.{IsLawful}
use Rattle.agv_world_core.specs.Maps.{maps_of, trip_row}
use Rattle.agv_world_core.specs.Worlds.{World}
use Rattle.agv_world_core.specs.declared.row.TripRow.{TripRow}
use Rattle.agv_world_core.proofs.lists.Entries.{same_Some}
use Rattle.agv_store_rows.specs.RowValues.{IsActKey, IsActValue, IsJourneyValue}
use Rattle.agv_store_rows.specs.TripRows.{act_row, acts_of, journey_of, journeys_of}
use Rattle.agv_store_rows.specs.TripsTold.{IsOfJob}
use Rattle.agv_store_rows.specs.declared.act_key.ActKey.{ActKey}
use Rattle.agv_store_rows.specs.declared.act_row.ActRow.{ActRow}
use Rattle.agv_store_rows.specs.declared.journey_row.JourneyRow.{JourneyRow}
use Rattle.agv_store_rows.proofs.LawfulTripRows.{IsOwn, lawful_acts, trip_of_row}
use Rattle.agv_store_rows.proofs.RowsAtKeys.{get-acts, get-journeys}

-- no walk has an unknown name at an end
abbrev pub JoinsNodes : Type 0
JoinsNodes = (layout : Layout) → KeepsRules layout → (from to : List ℕ) (ids : List (List ℕ)) → IsWalk layout from ids to → IsNode layout from × IsNode layout to

-- ---- lists and options

at_place : {A : Type 0} (P : A → Type 0) (xs : List A) (k : ℕ) (x : A) → slice_get xs k ≡ Some x → AllByRecursion P xs → P x
at_place P [] k x at all = absurd (cc at)
at_place P (y ∷ xs) zero x at all = subst P (same_Some y x at) all.0
at_place P (y ∷ xs) (suc k) x at all = at_place P xs k x at all.1

mapped : {A B : Type 0} (f : A → B) (o : Option A) (y : B) → option_map f o ≡ Some y → (x : A) × (o ≡ Some x) × (f x ≡ y)
mapped f None y is = absurd (cc is)
mapped f (Some x) y is = (x, refl, same_Some (f x) y is)

chained : {A B : Type 0} (f : A → Option B) (o : Option A) (y : B) → option_and_then f o ≡ Some y → (x : A) × (o ≡ Some x) × (f x ≡ Some y)
chained f None y is = absurd (cc is)
chained f (Some x) y is = (x, refl, is)

-- ---- numbers

at_most : (n base edges : ℕ) → n ≤ base → base ≤ edges → edges ≤ 200 → n ≤ 200
at_most n base edges p q r = omega arith

confirmed_low : (trip : Trip) (o : Option ℕ) → IsConfirmed trip o → trip.sent ≤ 200 → (update : ℕ) → o ≡ Some update → update ≤ 200
confirmed_low trip None is low update at = absurd (cc at)
confirmed_low trip (Some last) (inl same) low update at = let it : last ≡ update = same_Some last update at in omega (arith, same, low, it)
confirmed_low trip (Some last) (inr before) low update at = let it : last ≡ update = same_Some last update at in let next = before.0 in omega (arith, next, low, it)

-- places that rise to the end of the way are on the way
places_low : (from to : ℕ) (acts : List Act) → IsRising from (map task_of acts) to → (from ≤ to) × AllByRecursion (λ (act : Act). act.place_at ≤ to) acts
places_low from to [] rising = (omega (arith, rising), tt)
places_low from to (act ∷ acts) rising =
    let first : from ≤ act.place_at = rising.0 in
    let later = places_low act.place_at to acts rising.1 in
    let low : act.place_at ≤ to = later.0 in
    (omega (arith, first, low), (low, later.1))

-- the acts of a plan are on its way
acts_low : (acts : List Act) (end : ℕ) → AreInOrder (map task_of acts) end → AllByRecursion (λ (act : Act). act.place_at ≤ end) acts
acts_low [] end order = tt
acts_low (act ∷ acts) end order = (places_low 0 end (act ∷ acts) order).1

few_acts : (k many : ℕ) (acts : List Act) → k < length acts → many ≡ length acts → many ≤ 8 → k < 8
few_acts k many acts within is few = omega (arith, within, is, few)

on_way : (place edges : ℕ) → place ≤ edges → edges ≤ 200 → place ≤ 200
on_way place edges low short = omega arith

-- ---- rows

module _ (joins : JoinsNodes) (seats : ℕ) (world : World) (lawful : IsLawful seats world) where
  node_rules : (id : List ℕ) → IsNode world.layout id → KeepsRules world.layout
  node_rules id is = elim lawful.limits.laid [
    | inl none ↦ absurd (let there = subst (λ (layout : Layout). set.contains layout.nodes id ≡ true) none is in let not = set.contains-empty name_cmp id in cc)
    | inr rules ↦ rules
  ]

  own_order : (order : List ℕ) (row : TripRow) → IsOwn world order row → IsName order
  own_order order row own = subst IsName (sym own.order_is) (lawful.names.orders_named own.trip.order (lawful.names.used own.key own.trip (own.vehicle, own.there, own.open_trip)))

  journey_value : (order : List ℕ) (row : TripRow) → IsOwn world order row → IsJourneyValue (journey_of row)
  journey_value order row own =
      let trip = own.trip in
      let kept = lawful.trips.open_trips own.key own.vehicle trip own.there own.open_trip in
      let planned = kept.well_formed.planned in
      let under = kept.well_formed.under_way in
      let rules = node_rules own.vehicle.row.node (lawful.rests.vehicles own.key own.vehicle own.there).node in
      let sent = at_most trip.sent trip.base (length trip.edges) under.sent_released under.on_way planned.short in
      let value : IsJourneyValue (journey_of (trip_row own.key trip)) = record {
        vehicle = lawful.names.vehicles_named own.key own.vehicle own.there;
        start = rules.nodes_named trip.start (joins world.layout rules trip.start planned.walk.0 _ planned.walk.1).0;
        first = at_most trip.first trip.base (length trip.edges) under.in_base under.on_way planned.short;
        base = at_most trip.base trip.base (length trip.edges) (omega arith) under.on_way planned.short;
        sent = sent;
        confirmed = confirmed_low trip trip.confirmed under.confirmed sent;
        seen = at_most trip.seen trip.base (length trip.edges) under.seen_released under.on_way planned.short;
      } in
      subst (λ (r : TripRow). IsJourneyValue (journey_of r)) own.row_is value

  pub journey_values : (order : List ℕ) (row : JourneyRow) → finite.get (journeys_of (maps_of world).trips) order ≡ Some row → IsName order × IsJourneyValue row
  journey_values order row at =
      let from = mapped journey_of (finite.get (maps_of world).trips order) row (sym (get-journeys (maps_of world).trips order) ∙ at) in
      let own = trip_of_row world order from.0 from.1 in
      (own_order order from.0 own, subst IsJourneyValue from.2 (journey_value order from.0 own))

  -- the acts of an open trip are few, and on its way
  few : (order : List ℕ) (row : TripRow) → IsOwn world order row → (k : ℕ) → k < length row.acts → k < 8
  few order row own k within =
      let planned = (lawful.trips.open_trips own.key own.vehicle own.trip own.there own.open_trip).well_formed.planned in
      few_acts k (length (map task_of own.trip.acts)) own.trip.acts (subst (λ (r : TripRow). k < length r.acts) (sym own.row_is) within) (length-map own.trip.acts task_of) planned.few

  places : (order : List ℕ) (row : TripRow) → IsOwn world order row → (k : ℕ) (act : Act) → slice_get row.acts k ≡ Some act → act.place_at ≤ 200
  places order row own k act at =
      let planned = (lawful.trips.open_trips own.key own.vehicle own.trip own.there own.open_trip).well_formed.planned in
      let low = acts_low own.trip.acts (length own.trip.edges) planned.rising in
      on_way act.place_at (length own.trip.edges) (at_place (λ (a : Act). a.place_at ≤ length own.trip.edges) own.trip.acts k act (subst (λ (r : TripRow). slice_get r.acts k ≡ Some act) (sym own.row_is) at) low) planned.short

  pub act_values : (key : ActKey) (row : ActRow) → finite.get (acts_of (maps_of world).trips) key ≡ Some row → IsActKey key × IsActValue row
  act_values key row at =
      let from = chained (λ (trip : TripRow). option_map act_row (slice_get trip.acts key.n)) (finite.get (maps_of world).trips key.order) row (sym (get-acts (maps_of world).trips key) ∙ at) in
      let trip = from.0 in
      let found = mapped act_row (slice_get trip.acts key.n) row from.2 in
      let act = found.0 in
      let own = trip_of_row world key.order trip from.1 in
      let of_job = at_place (IsOfJob (maps_of world).jobs) trip.acts key.n act found.1 (lawful_acts seats world lawful key.order trip from.1) in
      let value : IsActValue (act_row act) = record { job = lawful.names.jobs_named act.job of_job.job of_job.known; place_at = places key.order trip own key.n act found.1 } in
      (record { order = own_order key.order trip own; number = few key.order trip own key.n (slice_get_within trip.acts key.n act found.1) }, subst IsActValue found.2 value)
