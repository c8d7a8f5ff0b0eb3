-- What vehicles of a lawful world hold has names that are names.
use Rattle.std.proofs.Common.{◌≡◌, ℕ, zero, suc, ◌-◌, not, true, false, cond, List, [], ◌∷◌, drop, map, take, Option, None, Some, refl, sym, subst}
use Rattle.std.proofs.lemmas.Option.{same_Some}
use Rattle.std.specs.Cmp.{Equal-is}
use Rattle.std.specs.FinMap as finite
use Rattle.std.specs.List.{AllByRecursion}
use Rattle.std.specs.Ordering.{eq_by_cmp}
use Rattle.agv_header.specs.Key.{thing_cmp}
use Rattle.agv_header.specs.KeyOrder.{key_cmp-total}
use Rattle.agv_header.specs.Name.{IsName}
use Rattle.agv_header.specs.ThingOrder.{thing_cmp-IsAntisymmetric, thing_cmp-total, thing_eq}
use Rattle.agv_header.specs.declared.key.Thing.{Thing}
use Rattle.agv_header.specs.declared.key.VehicleKey.{VehicleKey}
use Rattle.agv_layout.specs.declared.edge.Edge.{Edge}
use Rattle.agv_layout.specs.declared.edge.EdgeEnds.{EdgeEnds}
use Rattle.agv_order.specs.Trips.{node_at}
use Rattle.agv_order.specs.WellFormed.{IsEdgeOf}
use Rattle.agv_order.specs.declared.trip.Trip.{Trip}
use Rattle.agv_track_holds.specs.Footprints.{along, footprint_of, from_node, once, rest_things, things_by}
use Rattle.agv_world_core.specs.ConsistentTrips.{HasConsistentTrips}
use Rattle.agv_world_core.specs.Lawful.{IsLawful}
use Rattle.agv_world_core.specs.Maps.{hold_rows, maps_of, standing_of}
use Rattle.agv_world_core.specs.Worlds.{Vehicle, World}
use Rattle.agv_store_schema.specs.SchemaNumbers.{desk_seats}
use Rattle.agv_store_rows.specs.TypedRows.{IsThing}
use Rattle.agv_store_rows.proofs.LawfulValues.{edge_named, ends_value, node_named, rest_value}
use Rattle.agv_store_schema.proofs.SpreadRows.{spread_from}
use Rattle.sqlite_trees.proofs.ListLemmas.{all-filter}

-- ---- lists

all-drop : {A : Type 0} (P : A → Type 0) (n : ℕ) (xs : List A) → AllByRecursion P xs → AllByRecursion P (drop n xs)
all-drop P zero xs are = are
all-drop P (suc n) [] are = tt
all-drop P (suc n) (x ∷ xs) are = all-drop P n xs are.1

all-take : {A : Type 0} (P : A → Type 0) (n : ℕ) (xs : List A) → AllByRecursion P xs → AllByRecursion P (take n xs)
all-take P zero xs are = tt
all-take P (suc n) [] are = tt
all-take P (suc n) (x ∷ xs) are = (are.0, all-take P n xs are.1)

named_once : (things : List Thing) → AllByRecursion IsThing things → AllByRecursion IsThing (once things)
named_once [] are = tt
named_once (first ∷ things) are = (are.0, all-filter IsThing (λ (other : Thing). not (thing_eq first other)) (once things) (named_once things are.1))

-- ---- footprints

module _ (world : World) (lawful : IsLawful desk_seats world) (good : HasConsistentTrips world) where
  named_along : (edges : List Edge) → AllByRecursion (IsEdgeOf world.layout) edges → AllByRecursion IsThing (along edges)
  named_along [] are = tt
  named_along (edge ∷ edges) are =
      let ends : EdgeEnds = record { start = edge.start; finish = edge.finish } in
      (edge_named world lawful edge.id ends are.0, ((ends_value world lawful edge.id ends are.0).1, named_along edges are.1))

  named_from : (o : Option (List ℕ)) (node : List ℕ) → o ≡ Some node → IsName node → (edges : List Edge) → AllByRecursion IsThing (along edges) → AllByRecursion IsThing (from_node o edges)
  named_from None node is named edges are = absurd (cc is)
  named_from (Some other) node is named edges are = (subst IsName (sym (same_Some other node is)) named, are)

  named_rest : (o : Option (List ℕ × List ℕ)) → ((rest : List ℕ × List ℕ) → o ≡ Some rest → IsName rest.0 × IsName rest.1) → AllByRecursion IsThing (rest_things o)
  named_rest None named = tt
  named_rest (Some rest) named = let both = named rest refl in (both.0, (both.1, tt))

  named_by : (key : VehicleKey) (vehicle : Vehicle) → finite.get world.vehicles key ≡ Some vehicle → (o : Option Trip) → vehicle.trip ≡ o → AllByRecursion IsThing (things_by vehicle.row.node vehicle.row.rest o)
  named_by key vehicle at None is =
      let kept = lawful.rests.vehicles key vehicle at in
      (node_named world lawful vehicle.row.node kept.node, named_rest vehicle.row.rest (rest_value world lawful vehicle.row.node vehicle.row.rest kept.rest))
  named_by key vehicle at (Some trip) is =
      let kept = lawful.rests.vehicles key vehicle at in
      let going = lawful.trips.open_trips key vehicle trip at is in
      let known = good.known key trip (vehicle, at, is) in
      named_from (node_at trip trip.seen) vehicle.row.node going.stands (node_named world lawful vehicle.row.node kept.node) _
      (named_along _ (all-take (IsEdgeOf world.layout) (trip.base - trip.seen) _ (all-drop (IsEdgeOf world.layout) trip.seen trip.edges known)))

  named_footprint : (key : VehicleKey) (vehicle : Vehicle) → finite.get world.vehicles key ≡ Some vehicle → AllByRecursion IsThing (footprint_of (standing_of vehicle))
  unfolding footprint_of
  named_footprint key vehicle at = named_once _ (named_by key vehicle at vehicle.trip refl)

  named_found : (q : Thing) (key other : VehicleKey) (things : List Thing) → AllByRecursion IsThing things → finite.find thing_cmp q (map (λ thing. (thing, key)) things) ≡ Some other → IsThing q
  named_found q key other [] are found = absurd (cc found)
  named_found q key other (thing ∷ things) are found =
      elim (eq_by_cmp thing_cmp q thing) as (λ b. eq_by_cmp thing_cmp q thing ≡ b → cond b (Some key) (finite.find thing_cmp q (map (λ thing. (thing, key)) things)) ≡ Some other → IsThing q) [
        | true ↦ λ tied _. subst IsThing (sym (thing_cmp-IsAntisymmetric q thing ((Equal-is (thing_cmp q thing)).0 tied))) are.0
        | false ↦ λ _ is. named_found q key other things are.1 is
      ] refl found

  -- what is held has a name that is one
  pub held_value : (thing : Thing) (key : VehicleKey) → finite.get (maps_of world).holds thing ≡ Some key → IsThing thing
  held_value thing key is =
      let from = spread_from key_cmp-total thing_cmp thing_cmp-total hold_rows world.vehicles thing key is in
      named_found thing from.0 key (footprint_of (standing_of from.1)) (named_footprint from.0 from.1 from.2) from.3
