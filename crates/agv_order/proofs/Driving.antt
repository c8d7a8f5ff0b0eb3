-- A drive that is planned goes by the route of the layout, and is well formed.
use Rattle.std.proofs.Common.{arith, ◌≡◌, ◌↔◌, ℕ, ◌<◌, ◌≤◌, nat_lt, Bool, true, false, List, [], ◌∷◌, length, All, Option, None, Some, Result, Ok, Err, refl, sym, ap, subst, ◌∙◌}
use Rattle.std.specs.Prelude.{if◌then◌else◌}
use Rattle.std.specs.Option.{option_map}
use Rattle.std.proofs.lemmas.Bool.Decides.{nat_tests}
use Rattle.std.proofs.lemmas.List.{length-map}
use Rattle.std.proofs.lemmas.List.Elements.{All-nil}
use Rattle.agv_header.specs.declared.key.VehicleKey.{VehicleKey}
use Rattle.agv_layout.specs.Layout.{Layout, Name}
use Rattle.agv_layout.specs.RouteOf.{route_of}
use Rattle.agv_layout.specs.Walk.{IsRoute, IsWayTo}
use Rattle.agv_layout.specs.declared.edge.Edge.{Edge}
use Rattle.agv_layout.proofs.RouteFound.{exact_way, route_is_found}
use Rattle.agv_order.specs.Drives.{drive_edges, drive_over, drive_along, drive_planned, IsDriveTo}
use Rattle.agv_order.specs.Plans.{edges_named}
use Rattle.agv_order.specs.Trips.{plan_of}
use Rattle.agv_order.specs.WellFormed.{IsAtStation, IsEdgeOf, ids_of, IsWellFormed}
use Rattle.agv_order.specs.declared.fault.PlanFault.{PlanFault}
use Rattle.agv_order.specs.declared.fault.PlanFault.TheVariants as fault
use Rattle.agv_order.specs.declared.trip.Trip.{Trip}
use Rattle.agv_order.proofs.NewTrips.{by_bools, not_above}
use Rattle.agv_order.proofs.Walked.{are_edges, mapped}

-- ---- tests of numbers

above : (n m : ℕ) → nat_lt n m ≡ true → n < m
above n m e = grind (arith, nat_tests)

below : (n m : ℕ) → n < m → nat_lt n m ≡ true
below n m e = grind (arith, nat_tests)

not_below : (n m : ℕ) → m ≤ n → nat_lt n m ≡ false
not_below n m e = grind (arith, nat_tests)

abbrev edge_id : Edge → Name
edge_id edge = edge.id

module _ (layout : Layout) (vehicle : VehicleKey) (order at to : List ℕ) (base : ℕ) where
  -- a trip over some edges, of which the route consists
  record IsMade (edges : List Edge) (trip : Trip) : Type 0 where
    pub short : length edges ≤ 200
    pub within : base ≤ length edges
    pub moves : 0 < length edges
    pub is : drive_over vehicle order at base edges ≡ trip

  by_edges : (found : Option (List Edge)) (trip : Trip) → drive_along vehicle order at base found ≡ Ok trip → (edges : List Edge) × (found ≡ Some edges) × IsMade edges trip
  by_edges None trip e = cc
  by_edges (Some []) trip e = cc
  by_edges (Some (edge ∷ edges)) trip e =
      let tests = by_bools (nat_lt 200 (length (edge ∷ edges))) (nat_lt (length (edge ∷ edges)) base) (drive_over vehicle order at base (edge ∷ edges)) trip e in (
        edge ∷ edges,
        refl,
        record {
          short = not_above 200 (length (edge ∷ edges)) tests.0;
          within = not_above (length (edge ∷ edges)) base tests.1;
          moves = omega arith;
          is = tests.2;
        },
      )

  -- the edges that are found are those of the route
  record AreOfRoute (edges : List Edge) : Type 0 where
    pub route : IsRoute layout at to (ids_of edges)
    pub known : All (IsEdgeOf layout) edges

  of_route : (edges : List Edge) → drive_edges layout at to ≡ Some edges → AreOfRoute edges
  of_route edges found =
      let ids = mapped (edges_named layout) (route_of layout at to) edges found in
      let route = subst (IsWayTo layout at to) ids.here (route_is_found layout at to) in
      let are = are_edges layout at to ids.value route.walk in
      subst AreOfRoute ids.gives (record {
        route = subst (IsRoute layout at to) (sym are.named) route;
        known = are.known;
      })

  pub goes_by_the_route : (trip : Trip) → drive_planned layout vehicle order at to base ≡ Ok trip → IsDriveTo layout vehicle order at to base trip × (0 < length trip.edges)
  goes_by_the_route trip e =
      let made = by_edges (drive_edges layout at to) trip e in
      let are = of_route made.0 made.1 in
      subst (λ (t : Trip). IsDriveTo layout vehicle order at to base t × (0 < length t.edges)) made.2.is (
        record {
          named = refl;
          driver = refl;
          start = refl;
          route = are.route;
          known = are.known;
          does = refl;
          short = made.2.short;
          released = refl;
          within = made.2.within;
          first = refl;
          sent = refl;
          confirmed = refl;
          seen = refl;
        },
        made.2.moves,
      )

  -- ---- which refusal comes when

  -- a route is found, and has an edge for each name
  by_route : (ids : List Name) → IsRoute layout at to ids → drive_planned layout vehicle order at to base ≡ drive_along vehicle order at base (Some (edges_named layout ids))
  by_route ids route = ap (λ found. drive_along vehicle order at base (option_map (edges_named layout) found)) (sym (exact_way layout at to (Some ids) route))

  as_many : (ids : List Name) → IsRoute layout at to ids → length (edges_named layout ids) ≡ length ids
  as_many ids route = sym (length-map (edges_named layout ids) edge_id) ∙ ap length (are_edges layout at to ids route.walk).named

  -- the route of which edges were found
  record IsFoundOn (edges : List Edge) : Type 0 where
    pub ids : List Name
    pub route : IsRoute layout at to ids
    pub many : length edges ≡ length ids

  found_on : (edges : List Edge) → drive_edges layout at to ≡ Some edges → IsFoundOn edges
  found_on edges found =
      let ids = mapped (edges_named layout) (route_of layout at to) edges found in
      let route = subst (IsWayTo layout at to) ids.here (route_is_found layout at to) in
      record { ids = ids.value; route = route; many = ap length (sym ids.gives) ∙ as_many ids.value route }

  -- ---- what the tests of a drive over some edges say

  abbrev tested : (long beyond : Bool) → List Edge → Result Trip PlanFault
  tested long beyond edges = if long then Err fault.TooLong else (if beyond then Err fault.Beyond else Ok (drive_over vehicle order at base edges))

  long_test : (long beyond : Bool) (edges : List Edge) → tested long beyond edges ≡ Err fault.TooLong → long ≡ true
  long_test true beyond edges e = refl
  long_test false true edges e = cc
  long_test false false edges e = cc

  beyond_test : (long beyond : Bool) (edges : List Edge) → tested long beyond edges ≡ Err fault.Beyond → (long ≡ false) × (beyond ≡ true)
  beyond_test true beyond edges e = cc
  beyond_test false true edges e = (refl, refl)
  beyond_test false false edges e = cc

  no_walk_test : (long beyond : Bool) (edges : List Edge) → tested long beyond edges ≡ Err fault.NoWalk → ⊥
  no_walk_test true beyond edges e = cc
  no_walk_test false true edges e = cc
  no_walk_test false false edges e = cc

  long_found : (found : Option (List Edge)) → drive_along vehicle order at base found ≡ Err fault.TooLong → (edges : List Edge) × (found ≡ Some edges) × (200 < length edges)
  long_found None e = cc
  long_found (Some []) e = cc
  long_found (Some (edge ∷ edges)) e =
      let all : List Edge = edge ∷ edges in
      (all, refl, above 200 (length all) (long_test (nat_lt 200 (length all)) (nat_lt (length all) base) all e))

  beyond_found : (found : Option (List Edge)) → drive_along vehicle order at base found ≡ Err fault.Beyond
      → (edges : List Edge) × (found ≡ Some edges) × (0 < length edges) × (length edges ≤ 200) × (length edges < base)
  beyond_found None e = cc
  beyond_found (Some []) e = cc
  beyond_found (Some (edge ∷ edges)) e =
      let all : List Edge = edge ∷ edges in
      let tests = beyond_test (nat_lt 200 (length all)) (nat_lt (length all) base) all e in
      (all, refl, omega arith, not_above 200 (length all) tests.0, above (length all) base tests.1)

  none_found : (found : Option (List Edge)) → drive_along vehicle order at base found ≡ Err fault.NoWalk → (edges : List Edge) → found ≡ Some edges → edges ≡ []
  none_found None e edges is = cc
  none_found (Some []) e edges is = cc
  none_found (Some (edge ∷ more)) e edges is = absurd (no_walk_test (nat_lt 200 (length (edge ∷ more))) (nat_lt (length (edge ∷ more)) base) (edge ∷ more) e)

  -- ---- and the other way round

  made_along : (edges : List Edge) → 0 < length edges → length edges ≤ 200 → base ≤ length edges → drive_along vehicle order at base (Some edges) ≡ Ok (drive_over vehicle order at base edges)
  made_along [] some short within = absurd (omega (arith, some))
  made_along (edge ∷ edges) some short within =
      let all : List Edge = edge ∷ edges in
      ap (λ long. tested long (nat_lt (length all) base) all) (not_below 200 (length all) short) ∙ ap (λ beyond. tested false beyond all) (not_below (length all) base within)

  long_along : (edges : List Edge) → 200 < length edges → drive_along vehicle order at base (Some edges) ≡ Err fault.TooLong
  long_along [] many = absurd (omega (arith, many))
  long_along (edge ∷ edges) many =
      let all : List Edge = edge ∷ edges in
      ap (λ long. tested long (nat_lt (length all) base) all) (below 200 (length all) many)

  beyond_along : (edges : List Edge) → 0 < length edges → length edges ≤ 200 → length edges < base → drive_along vehicle order at base (Some edges) ≡ Err fault.Beyond
  beyond_along [] some short past = absurd (omega (arith, some))
  beyond_along (edge ∷ edges) some short past =
      let all : List Edge = edge ∷ edges in
      ap (λ long. tested long (nat_lt (length all) base) all) (not_below 200 (length all) short) ∙ ap (λ beyond. tested false beyond all) (below (length all) base past)

  -- there is none exactly where no route with an edge leads there
  pub none_by_the_route : (drive_planned layout vehicle order at to base ≡ Err fault.NoWalk) ↔ ((ids : List Name) → IsRoute layout at to ids → ids ≡ [])
  none_by_the_route = (
    λ e ids route. nothing ids (sym (as_many ids route) ∙ ap length (none_found (drive_edges layout at to) e (edges_named layout ids) (edges_of ids route))),
    λ none. nowhere (route_of layout at to) refl none,
  )
    where
      edges_of : (ids : List Name) → IsRoute layout at to ids → drive_edges layout at to ≡ Some (edges_named layout ids)
      edges_of ids route = ap (option_map (edges_named layout)) (sym (exact_way layout at to (Some ids) route))

      nothing : (ids : List Name) → length ids ≡ 0 → ids ≡ []
      nothing [] e = refl
      nothing (id ∷ ids) e = absurd (omega (arith, e))

      nowhere : (way : Option (List Name)) → route_of layout at to ≡ way → ((ids : List Name) → IsRoute layout at to ids → ids ≡ []) → drive_planned layout vehicle order at to base ≡ Err fault.NoWalk
      nowhere None is none = ap (λ found. drive_along vehicle order at base (option_map (edges_named layout) found)) is
      nowhere (Some ids) is none =
          let route = subst (IsWayTo layout at to) is (route_is_found layout at to) in
          by_route ids route ∙ ap (λ some. drive_along vehicle order at base (Some (edges_named layout some))) (none ids route)

  pub made_by_the_route : (ids : List Name) → IsRoute layout at to ids → 0 < length ids → length ids ≤ 200 → base ≤ length ids → (trip : Trip) × (drive_planned layout vehicle order at to base ≡ Ok trip)
  made_by_the_route ids route some short within =
      let many = as_many ids route in
      (drive_over vehicle order at base (edges_named layout ids), by_route ids route ∙ made_along (edges_named layout ids) (omega (arith, many, some)) (omega (arith, many, short)) (omega (arith, many, within)))

  pub long_by_the_route : (drive_planned layout vehicle order at to base ≡ Err fault.TooLong) ↔ ((ids : List Name) × IsRoute layout at to ids × (200 < length ids))
  long_by_the_route = (
    λ e. (let found = long_found (drive_edges layout at to) e in let on = found_on found.0 found.1 in (on.ids, on.route, omega (arith, found.2, on.many))),
    λ is. (let many = as_many is.0 is.1 in by_route is.0 is.1 ∙ long_along (edges_named layout is.0) (omega (arith, many, is.2))),
  )

  pub beyond_by_the_route : (drive_planned layout vehicle order at to base ≡ Err fault.Beyond)
      ↔ ((ids : List Name) × IsRoute layout at to ids × (0 < length ids) × (length ids ≤ 200) × (length ids < base))
  beyond_by_the_route = (
    λ e. (
        let found = beyond_found (drive_edges layout at to) e in
        let on = found_on found.0 found.1 in
        (on.ids, on.route, omega (arith, found.2, on.many), omega (arith, found.3, on.many), omega (arith, found.4, on.many))),
    λ is. (
        let many = as_many is.0 is.1 in
        by_route is.0 is.1 ∙ beyond_along (edges_named layout is.0) (omega (arith, many, is.2)) (omega (arith, many, is.3)) (omega (arith, many, is.4))),
  )

  pub drive_well : (trip : Trip) → drive_planned layout vehicle order at to base ≡ Ok trip → IsWellFormed layout trip
  drive_well trip e =
      let made = by_edges (drive_edges layout at to) trip e in
      let are = of_route made.0 made.1 in
      subst (IsWellFormed layout) made.2.is (record {
        planned = record {
          walk = (to, are.route.walk);
          edges = are.known;
          short = made.2.short;
          stops = refl;
          few = omega arith;
          rising = tt;
          stations = All-nil (IsAtStation layout (plan_of (drive_over vehicle order at base made.0)));
        };
        under_way = record {
          in_base = omega arith;
          on_way = made.2.within;
          seen_released = omega arith;
          sent_released = omega arith;
          begins = λ _. refl;
          grows = λ none. absurd (omega (arith, none));
          confirmed = (refl, refl, refl, refl);
          reached = refl;
          in_turn = refl;
          is_open = λ ended. omega (arith, ended.0, made.2.moves);
        };
      })
