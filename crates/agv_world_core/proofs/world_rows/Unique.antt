-- The maps of a world with consistent trips tell which world it is.
use Rattle.std.proofs.Common.{◌≡◌, ℕ, ◌+◌, List, [], ◌∷◌, Some, refl, sym, ap, subst, ◌∙◌}
use Rattle.std.specs.FinMap.{FinMap, get, find, same_map}
use Rattle.std.specs.FinSet as set
use Rattle.std.specs.List.{AllByRecursion}
use Rattle.agv_header.specs.Key.{key_cmp}
use Rattle.agv_header.specs.KeyOrder.{key_cmp-total, key_cmp-IsAntisymmetric}
use Rattle.agv_header.specs.Name.{name_cmp}
use Rattle.agv_header.specs.declared.key.VehicleKey.{VehicleKey}
use Rattle.agv_layout.specs.Layout.{Layout}
use Rattle.agv_layout.specs.declared.edge.Edge.{Edge}
use Rattle.agv_layout.specs.declared.edge.EdgeEnds.{EdgeEnds}
use Rattle.agv_order.specs.WellFormed.{IsEdgeOf}
use Rattle.agv_order.specs.declared.trip.Trip.{Trip}
use Rattle.agv_world_core.specs.ConsistentTrips.{HasConsistentTrips, HasTrip}
use Rattle.agv_world_core.specs.KeyOrders.{leg_cmp-total}
use Rattle.agv_world_core.specs.Keys.{leg_cmp}
use Rattle.agv_world_core.specs.Maps.{Maps, maps_of, vehicle_rows, trip_rows, rows_of_trip, trip_row, leg_rows, legs_of_trip}
use Rattle.agv_header.specs.Spread.{spread}
use Rattle.agv_world_core.specs.Worlds.{Vehicle, World}
use Rattle.agv_world_core.specs.declared.key.LegKey.{LegKey}
use Rattle.agv_world_core.specs.declared.row.TripRow.{TripRow}
use Rattle.agv_world_core.proofs.world_rows.Apart.{vehicles_apart, trips_apart, legs_apart}
use Rattle.agv_world_core.proofs.lists.Entries.{no_more, same_Some, alike}
use Rattle.agv_world_core.proofs.lists.Orders.{names_total, names_apart}
use Rattle.agv_world_core.proofs.world_rows.RowKeys.{one_key, own_key, trip_at, numbered, leg_at, number_key, leg_of, first_leg, later_leg}
use Rattle.agv_world_core.proofs.world_rows.UsedKeys.{order_key, reference_key, used_order, used_reference}
use Rattle.agv_world_core.proofs.world_rows.Spreads.{IsSpread, spread_is}

-- ---- the tables that come from the vehicles
pub vehicles_of : (world : World) → IsSpread key_cmp vehicle_rows world.vehicles
vehicles_of world = spread_is key_cmp-total key_cmp-IsAntisymmetric key_cmp key_cmp-total vehicle_rows world.vehicles (vehicles_apart world)

pub trips_of : (world : World) → HasConsistentTrips world → IsSpread name_cmp trip_rows world.vehicles
trips_of world good = spread_is key_cmp-total key_cmp-IsAntisymmetric name_cmp names_total trip_rows world.vehicles (trips_apart world good.one_trip)

pub legs_of : (world : World) → HasConsistentTrips world → IsSpread leg_cmp leg_rows world.vehicles
legs_of world good = spread_is key_cmp-total key_cmp-IsAntisymmetric leg_cmp leg_cmp-total leg_rows world.vehicles (legs_apart world good.one_trip)

-- ---- edges
one_edge : (layout : Layout) (x y : Edge) → IsEdgeOf layout x → IsEdgeOf layout y → x.id ≡ y.id → x ≡ y
one_edge layout x y p q e =
    let ends : ◌≡◌ {A = EdgeEnds} (record { start = x.start; finish = x.finish }) (record { start = y.start; finish = y.finish }) = same_Some _ _ (sym p ∙ ap (get layout.edges) e ∙ q) in
    λ i. record { id = e i; start = (ends i).start; finish = (ends i).finish }

abbrev Among : List ℕ → ℕ → List Edge → List Edge → Type 0
Among order i xs ys = (q : LegKey) (id : List ℕ) → find leg_cmp q (numbered order i xs) ≡ Some id → find leg_cmp q (numbered order i ys) ≡ Some id

same_edges : (layout : Layout) (order : List ℕ) (i : ℕ) (xs ys : List Edge) → AllByRecursion (IsEdgeOf layout) xs → AllByRecursion (IsEdgeOf layout) ys → Among order i xs ys → Among order i ys xs → xs ≡ ys
same_edges layout order i [] [] h k f g = refl
same_edges layout order i [] (y ∷ ys) h k f g = absurd (no_more y.id (g (leg_at order i) y.id (first_leg order i y ys)))
same_edges layout order i (x ∷ xs) [] h k f g = absurd (no_more x.id (f (leg_at order i) x.id (first_leg order i x xs)))
same_edges layout order i (x ∷ xs) (y ∷ ys) h k f g =
    let id : y.id ≡ x.id = same_Some _ _ (sym (first_leg order i y ys) ∙ f (leg_at order i) x.id (first_leg order i x xs)) in
    let head : x ≡ y = one_edge layout x y h.0 k.0 (sym id) in
    let tail : xs ≡ ys = same_edges layout order (i + 1) xs ys h.1 k.1
    (λ q n e. sym (later_leg order i y ys xs q n e) ∙ f q n (later_leg order i x xs xs q n e ∙ e))
    (λ q n e. sym (later_leg order i x xs ys q n e) ∙ g q n (later_leg order i y ys ys q n e ∙ e)) in
    λ j. head j ∷ tail j

-- ---- trips
module _ (w v : World) (W : HasConsistentTrips w) (V : HasConsistentTrips v) (e : maps_of w ≡ maps_of v) where
  -- the rows of a trip's edges stand in the other world too
  legs_over : (a b : VehicleKey) (t u : Trip) → HasTrip w a t → HasTrip v b u → t.order ≡ u.order → Among t.order 0 t.edges u.edges
  legs_over a b t u h k s q n f =
      let here : get (spread leg_cmp leg_rows w.vehicles) q ≡ Some n = (legs_of w W).into a h.0 q n h.1 (ap (λ o. find leg_cmp q (legs_of_trip o)) h.2 ∙ f) in
      let there : get (spread leg_cmp leg_rows v.vehicles) q ≡ Some n = sym (ap (λ (r : Maps). get r.legs q) e) ∙ here in
      let g = (legs_of v V).from q n there in
      let key = leg_of g.1.trip q n g.3 in
      let order : q.order ≡ t.order = (number_key t.order 0 t.edges q n f).0 in
      let owner : g.0 ≡ b = V.one_trip g.0 b key.0 u (g.1, g.2, key.1) k (sym key.2 ∙ order ∙ s) in
      let vehicle : g.1 ≡ k.0 = same_Some _ _ (sym g.2 ∙ ap (get v.vehicles) owner ∙ k.1) in
      ap (λ o. find leg_cmp q (numbered o 0 u.edges)) s ∙ sym (ap (λ o. find leg_cmp q (legs_of_trip o)) (ap (λ (x : Vehicle). x.trip) vehicle ∙ k.2)) ∙ g.3

module _ (w v : World) (W : HasConsistentTrips w) (V : HasConsistentTrips v) (e : maps_of w ≡ maps_of v) where
  trip_over : (a : VehicleKey) (x y : Vehicle) (t : Trip) → get w.vehicles a ≡ Some x → get v.vehicles a ≡ Some y → x.trip ≡ Some t → y.trip ≡ Some t
  trip_over a x y t g h s =
      let here : get (spread name_cmp trip_rows w.vehicles) t.order ≡ Some (trip_row a t) = (trips_of w W).into a x t.order (trip_row a t) g (ap (λ o. find name_cmp t.order (rows_of_trip a o)) s ∙ own_key names_total t.order (trip_row a t)) in
      let there : get (spread name_cmp trip_rows v.vehicles) t.order ≡ Some (trip_row a t) = sym (ap (λ (r : Maps). get r.trips t.order) e) ∙ here in
      let f = (trips_of v V).from t.order (trip_row a t) there in
      let r = trip_at f.0 f.1.trip t.order (trip_row a t) f.3 in
      let u = r.0 in
      let order : t.order ≡ u.order = r.2 in
      let row : trip_row a t ≡ trip_row f.0 u = r.3 in
      let owner : a ≡ f.0 = ap (λ (y : TripRow). y.vehicle) row in
      let vehicle : f.1 ≡ y = same_Some _ _ (sym f.2 ∙ sym (ap (get v.vehicles) owner) ∙ h) in
      let own : t.vehicle ≡ u.vehicle = W.own a t (x, g, s) ∙ owner ∙ sym (V.own f.0 u (f.1, f.2, r.1)) in
      let edges : t.edges ≡ u.edges = same_edges w.layout t.order 0 t.edges u.edges (W.known a t (x, g, s))
      (subst (λ (edges : FinMap name_cmp EdgeEnds). AllByRecursion (λ (edge : Edge). get edges edge.id ≡ Some (record { start = edge.start; finish = edge.finish })) u.edges) (sym (ap (λ (r : Maps). r.edges) e)) (V.known f.0 u (f.1, f.2, r.1)))
      (legs_over w v W V e a f.0 t u (x, g, s) (f.1, f.2, r.1) order)
      (subst (λ o. Among o 0 u.edges t.edges) (sym order) (legs_over v w V W (sym e) f.0 a u t (f.1, f.2, r.1) (x, g, s) (sym order))) in
      let trip : t ≡ u = λ i. record {
        order = order i;
        vehicle = own i;
        start = (row i).start;
        edges = edges i;
        first = (row i).first;
        base = (row i).base;
        sent = (row i).sent;
        confirmed = (row i).confirmed;
        seen = (row i).seen;
        acts = (row i).acts;
      } in
      sym (ap (λ (x : Vehicle). x.trip) vehicle) ∙ r.1 ∙ ap Some (sym trip)

-- ---- vehicles
module _ (w v : World) (W : HasConsistentTrips w) (V : HasConsistentTrips v) (e : maps_of w ≡ maps_of v) where
  vehicle_over : (a : VehicleKey) (x : Vehicle) → get w.vehicles a ≡ Some x → get v.vehicles a ≡ Some x
  vehicle_over a x g =
      let here : get (spread key_cmp vehicle_rows w.vehicles) a ≡ Some x.row = (vehicles_of w).into a x a x.row g (own_key key_cmp-total a x.row) in
      let there : get (spread key_cmp vehicle_rows v.vehicles) a ≡ Some x.row = sym (ap (λ (r : Maps). get r.vehicles a) e) ∙ here in
      let f = (vehicles_of v).from a x.row there in
      let y = f.1 in
      let one = one_key key_cmp-IsAntisymmetric a f.0 y.row x.row f.3 in
      let row : x.row ≡ y.row = one.1 in
      let at : get v.vehicles a ≡ Some y = ap (get v.vehicles) one.0 ∙ f.2 in
      let trip : x.trip ≡ y.trip = alike x.trip y.trip (λ t s. trip_over w v W V e a x y t g at s) (λ t s. trip_over v w V W (sym e) a y x t at g s) in
      let vehicle : x ≡ y = λ i. record { row = row i; trip = trip i } in
      at ∙ ap Some (sym vehicle)

-- ---- worlds
pub one_world : (w v : World) → HasConsistentTrips w → HasConsistentTrips v → maps_of w ≡ maps_of v → w ≡ v
one_world w v W V e =
    let vehicles : w.vehicles ≡ v.vehicles = same_map key_cmp-total key_cmp-IsAntisymmetric w.vehicles v.vehicles (λ a. alike (get w.vehicles a) (get v.vehicles a) (vehicle_over w v W V e a) (vehicle_over v w V W (sym e) a)) in
    let orders : w.orders ≡ v.orders = set.same_set names_total names_apart w.orders v.orders (λ name. sym (used_order w name) ∙ ap (λ (r : Maps). set.contains r.used (order_key name)) e ∙ used_order v name) in
    let references : w.references ≡ v.references = set.same_set names_total names_apart w.references v.references (λ name. sym (used_reference w name) ∙ ap (λ (r : Maps). set.contains r.used (reference_key name)) e ∙ used_reference v name) in
    λ i. record {
      layout = record { nodes = (e i).nodes; edges = (e i).edges; stations = (e i).stations };
      vehicles = vehicles i;
      places = (e i).loads;
      jobs = (e i).jobs;
      orders = orders i;
      references = references i;
    }
