-- The values of a lawful world's rows: names are names, and numbers are in their ranges.
use Rattle.std.proofs.Common.{◌≡◌, ℕ, ◌≤◌, ◌||◌, Bool, true, false, cond, List, [], ◌∷◌, map, flat_map, Option, None, Some, inl, inr, refl, sym, ap, subst, ◌∙◌, arith}
use Rattle.std.proofs.lemmas.List.Folds.{list_any-append}
use Rattle.std.specs.FinMap as finite
use Rattle.std.specs.FinSet as set
use Rattle.std.specs.List.{list_any}
use Rattle.std.specs.Option.{option_map}
use Rattle.std.specs.Ordering.{eq_by_cmp}
use Rattle.agv_header.specs.Key.{key_cmp, thing_cmp}
use Rattle.agv_header.specs.KeyOrder.{key_cmp-total}
use Rattle.agv_header.specs.Name.{IsName, name_cmp}
use Rattle.agv_header.specs.ThingOrder.{thing_cmp-total}
use Rattle.agv_header.specs.declared.key.Thing.{Thing}
use Rattle.agv_header.specs.declared.key.VehicleKey.{VehicleKey}
use Rattle.agv_layout.specs.Layout.{IsEdge, IsNode, IsStation, KeepsRules, Layout}
use Rattle.agv_layout.specs.declared.edge.EdgeEnds.{EdgeEnds}
use Rattle.agv_layout.specs.declared.station.StationSite.{StationSite}
use Rattle.agv_stock.specs.declared.place.Place.{Place}
use Rattle.agv_stock.specs.declared.place.Place.TheVariants as place
use Rattle.agv_world_core.specs.KeyOrders.{use_cmp-total}
use Rattle.agv_world_core.specs.Keys.{use_cmp}
use Rattle.agv_world_core.specs.Lawful.{HasRestAndCounters, IsKey, IsLawful, IsPlaceIn, IsRestAt}
use Rattle.agv_world_core.specs.Questions.{is_used, row_of}
use Rattle.agv_world_core.specs.Maps.{hold_rows, maps_of, standing_of, used_names, vehicle_rows}
use Rattle.agv_header.specs.Spread.{spread}
use Rattle.agv_world_core.specs.Worlds.{Vehicle, World}
use Rattle.agv_world_core.specs.declared.key.UseKey.{UseKey}
use Rattle.agv_world_core.specs.declared.key.UseKind.{UseKind}
use Rattle.agv_world_core.specs.declared.key.UseKind.TheVariants as used
use Rattle.agv_world_core.specs.declared.row.JobRow.{JobRow}
use Rattle.agv_world_core.specs.declared.row.VehicleRow.{VehicleRow}
use Rattle.agv_track_holds.specs.Footprints.{footprint_of}
use Rattle.agv_store_schema.specs.SchemaNumbers.{desk_seats}
use Rattle.agv_store_rows.specs.TypedRows.{AreEnds, IsJobRow, IsPlace, IsStationSite, IsVehicleRow}
use Rattle.agv_store_schema.proofs.SpreadRows.{spread_from}

-- ---- used names

abbrev order_key : List ℕ → UseKey
order_key name = record { kind = used.Order; name = name }

abbrev reference_key : List ℕ → UseKey
reference_key name = record { kind = used.Reference; name = name }

abbrev among : UseKey → List UseKey → Bool
among key keys = list_any (eq_by_cmp use_cmp key) keys

or_none : (b : Bool) → (b || false) ≡ b
or_none true = refl
or_none false = refl

orders_any : (name : List ℕ) (names : List (List ℕ)) → among (order_key name) (map order_key names) ≡ list_any (eq_by_cmp name_cmp name) names
orders_any name [] = refl
orders_any name (x ∷ names) = ap (λ b. eq_by_cmp name_cmp name x || b) (orders_any name names)

orders_none : (name : List ℕ) (names : List (List ℕ)) → among (order_key name) (map reference_key names) ≡ false
orders_none name [] = refl
orders_none name (x ∷ names) = orders_none name names

references_any : (name : List ℕ) (names : List (List ℕ)) → among (reference_key name) (map reference_key names) ≡ list_any (eq_by_cmp name_cmp name) names
references_any name [] = refl
references_any name (x ∷ names) = ap (λ b. eq_by_cmp name_cmp name x || b) (references_any name names)

references_none : (name : List ℕ) (names : List (List ℕ)) → among (reference_key name) (map order_key names) ≡ false
references_none name [] = refl
references_none name (x ∷ names) = references_none name names

among_used : (world : World) (kind : UseKind) (name : List ℕ) → among (record { kind = kind; name = name }) (used_names world) ≡ is_used world kind name
unfolding is_used
among_used world used.Order name =
    list_any-append (eq_by_cmp use_cmp (order_key name)) (map order_key (set.items world.orders)) (map reference_key (set.items world.references))
    ∙ ap (λ b. among (order_key name) (map order_key (set.items world.orders)) || b) (orders_none name (set.items world.references))
    ∙ or_none _
    ∙ orders_any name (set.items world.orders)
    ∙ sym (set.contains-items world.orders name)
among_used world used.Reference name =
    list_any-append (eq_by_cmp use_cmp (reference_key name)) (map order_key (set.items world.orders)) (map reference_key (set.items world.references))
    ∙ ap (λ b. b || among (reference_key name) (map reference_key (set.items world.references))) (references_none name (set.items world.orders))
    ∙ references_any name (set.items world.references)
    ∙ sym (set.contains-items world.references name)

-- the table has a name just where it was used
pub used_is : (world : World) (kind : UseKind) (name : List ℕ) → set.contains (maps_of world).used (record { kind = kind; name = name }) ≡ is_used world kind name
used_is world kind name = set.contains-from_list use_cmp-total (used_names world) (record { kind = kind; name = name }) ∙ among_used world kind name

-- ---- the rows of vehicles

own_found : (q : VehicleKey) (es : List (VehicleKey × Vehicle)) → finite.find key_cmp q (flat_map (λ (e : VehicleKey × Vehicle). vehicle_rows e.0 e.1) es) ≡ option_map (λ (vehicle : Vehicle). vehicle.row) (finite.find key_cmp q es)
own_found q [] = refl
own_found q (e ∷ es) =
    elim (eq_by_cmp key_cmp q e.0) as (λ b. cond b (Some e.1.row) (finite.find key_cmp q (flat_map (λ (f : VehicleKey × Vehicle). vehicle_rows f.0 f.1) es)) ≡ option_map (λ (vehicle : Vehicle). vehicle.row) (cond b (Some e.1) (finite.find key_cmp q es))) [
      | true ↦ refl
      | false ↦ own_found q es
    ]

pub row_at : (world : World) (key : VehicleKey) → finite.get (maps_of world).vehicles key ≡ row_of world key
unfolding spread
row_at world key =
    finite.get-from_entries key_cmp-total (flat_map (λ (e : VehicleKey × Vehicle). vehicle_rows e.0 e.1) (finite.entries world.vehicles)) key
    ∙ own_found key (finite.entries world.vehicles)
    ∙ ap (option_map (λ (vehicle : Vehicle). vehicle.row)) (sym (finite.get-entries world.vehicles key))

holder_found : (q : Thing) (key other : VehicleKey) (things : List Thing) → finite.find thing_cmp q (map (λ thing. (thing, key)) things) ≡ Some other → key ≡ other
holder_found q key other [] found = absurd (cc found)
holder_found q key other (thing ∷ things) found =
    elim (eq_by_cmp thing_cmp q thing) as (λ b. cond b (Some key) (finite.find thing_cmp q (map (λ thing. (thing, key)) things)) ≡ Some other → key ≡ other) [
      | true ↦ λ is. cc is
      | false ↦ λ is. holder_found q key other things is
    ] found

row_from : (o : Option Vehicle) (row : VehicleRow) → option_map (λ (vehicle : Vehicle). vehicle.row) o ≡ Some row → (vehicle : Vehicle) × (o ≡ Some vehicle) × (vehicle.row ≡ row)
row_from None row is = absurd (cc is)
row_from (Some vehicle) row is = (vehicle, refl, cc is)

few_places : (n : ℕ) → n ≤ desk_seats → n ≤ 4294967295
few_places n low = omega arith

few_enough : (n : ℕ) → n ≤ 999 → n ≤ 4294967295
few_enough n low = omega arith

-- ---- values

module _ (world : World) (lawful : IsLawful desk_seats world) where
  pub node_rules : (id : List ℕ) → IsNode world.layout id → KeepsRules world.layout
  node_rules id is = elim lawful.limits.laid [
    | inl none ↦ absurd (let there = subst (λ (layout : Layout). set.contains layout.nodes id ≡ true) none is in let not = set.contains-empty name_cmp id in cc)
    | inr rules ↦ rules
  ]

  station_rules : (id : List ℕ) (site : StationSite) → IsStation world.layout id site → KeepsRules world.layout
  station_rules id site is = elim lawful.limits.laid [
    | inl none ↦ absurd (let there = subst (λ (layout : Layout). finite.get layout.stations id ≡ Some site) none is in let not = finite.get-empty {X = StationSite} name_cmp id in cc)
    | inr rules ↦ rules
  ]

  edge_rules : (id : List ℕ) (ends : EdgeEnds) → IsEdge world.layout id ends → KeepsRules world.layout
  edge_rules id ends is = elim lawful.limits.laid [
    | inl none ↦ absurd (let there = subst (λ (layout : Layout). finite.get layout.edges id ≡ Some ends) none is in let not = finite.get-empty {X = EdgeEnds} name_cmp id in cc)
    | inr rules ↦ rules
  ]

  pub node_named : (id : List ℕ) → IsNode world.layout id → IsName id
  node_named id is = (node_rules id is).nodes_named id is

  pub station_named : (id : List ℕ) (site : StationSite) → IsStation world.layout id site → IsName id
  station_named id site is = (station_rules id site is).stations_named id site is

  pub edge_named : (id : List ℕ) (ends : EdgeEnds) → IsEdge world.layout id ends → IsName id
  edge_named id ends is = (edge_rules id ends is).edges_named id ends is

  pub site_value : (id : List ℕ) (site : StationSite) → IsStation world.layout id site → IsStationSite site
  site_value id site is =
      let stands = (station_rules id site is).stands id site is in (node_named site.node stands.0, few_enough site.capacity stands.2)

  pub ends_value : (id : List ℕ) (ends : EdgeEnds) → IsEdge world.layout id ends → AreEnds ends
  ends_value id ends is = let leads = (edge_rules id ends is).leads id ends is in (node_named ends.start leads.0, node_named ends.finish leads.1)

  place_in : (where_is : Place) → IsPlaceIn world where_is → IsPlace where_is
  place_in (place.Station id) is = station_named id is.0 is.1
  place_in (place.Vehicle key) is = lawful.names.vehicles_named key is.0 is.1
  place_in place.Checking is = tt
  place_in place.Left is = tt

  pub place_value : (id : List ℕ) (where_is : Place) → finite.get world.places id ≡ Some where_is → IsPlace where_is
  place_value id where_is is = place_in where_is (lawful.names.places id where_is is)

  pub job_value : (id : List ℕ) (job : JobRow) → finite.get world.jobs id ≡ Some job → IsJobRow job
  job_value id job is =
      let known = lawful.names.jobs id job is in
      record {
        load = lawful.names.loads_named job.load known.load.0 known.load.1;
        origin = station_named job.origin known.origin.0 known.origin.1;
        target = station_named job.target known.target.0 known.target.1;
      }

  pub rest_value : (node : List ℕ) (rest : Option (List ℕ × List ℕ)) → IsRestAt world.layout node rest → (one : List ℕ × List ℕ) → rest ≡ Some one → IsName one.0 × IsName one.1
  rest_value node None at one is = absurd (cc is)
  rest_value node (Some rest) at one is =
      let same : rest ≡ one = cc is in
      subst (λ (r : List ℕ × List ℕ). IsName r.0 × IsName r.1) same (edge_named rest.0 _ at, (ends_value rest.0 _ at).1)

  vehicle_of : (vehicle : VehicleRow) → vehicle.capacity ≤ desk_seats → HasRestAndCounters world.layout vehicle → IsVehicleRow vehicle
  vehicle_of vehicle seated is = record {
    capacity = few_places vehicle.capacity seated;
    node = node_named vehicle.node is.node;
    rest = at_some vehicle.rest (rest_value vehicle.node vehicle.rest is.rest);
    last_header = at_some vehicle.last_header is.header;
    reported = at_some vehicle.reported is.reported;
    orders = (is.orders.number, is.orders.moment);
    instants = (is.instants.number, is.instants.moment);
  }
    where
      at_some : {X : Type 0} {P : X → Type 0} (o : Option X) → ((x : X) → o ≡ Some x → P x) → Rattle.std.specs.Prelude.IfSome o P
      at_some None so = tt
      at_some (Some x) so = so x refl

  pub vehicle_value : (key : VehicleKey) (row : VehicleRow) → row_of world key ≡ Some row → IsKey key × IsVehicleRow row
  vehicle_value key row is =
      let from = row_from (finite.get world.vehicles key) row is in
      (lawful.names.vehicles_named key from.0 from.1, subst IsVehicleRow from.2 (vehicle_of from.0.row (lawful.capacity.seated key from.0 from.1) (lawful.rests.vehicles key from.0 from.1)))

  pub holder_value : (thing : Thing) (key : VehicleKey) → finite.get (maps_of world).holds thing ≡ Some key → IsKey key
  holder_value thing key is =
      let from = spread_from key_cmp-total thing_cmp thing_cmp-total hold_rows world.vehicles thing key is in
      subst IsKey (holder_found thing from.0 key (footprint_of (standing_of from.1)) from.3) (lawful.names.vehicles_named from.0 from.1 from.2)

  -- a used name is a name
  pub used_named : (kind : UseKind) (name : List ℕ) → is_used world kind name ≡ true → IsName name
  unfolding is_used
  used_named used.Order name is = lawful.names.orders_named name is
  used_named used.Reference name is = lawful.names.references_named name is
