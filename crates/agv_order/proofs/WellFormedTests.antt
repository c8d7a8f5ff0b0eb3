-- The test of a well-formed trip says what a well-formed trip is.
use Rattle.std.proofs.Common.{arith, ◌≡◌, ℕ, ◌+◌, ◌<◌, ◌≤◌, ◌&&◌, ◌↔◌, nat_eq, nat_le, Bool, true, List, [], ◌∷◌, length, map, All, Option, None, Some, refl, sym, ap, subst, ◌∙◌}
use Rattle.std.specs.Prelude.{IsTrue}
use Rattle.std.specs.Bool.{Decides}
use Rattle.std.specs.List.{list_all}
use Rattle.std.specs.FinMap as finite
use Rattle.std.specs.Cmp.Lexicographic.{pointwise, bytes_decides}
use Rattle.std.proofs.lemmas.Bool.{false≢true, and_parts, and_from, le-leb, leb-true}
use Rattle.std.proofs.lemmas.Bool.Decides.{Decides-eqb, Decides-and, Decides-or, Decides-not, Decides-like, nat_tests}
use Rattle.std.proofs.lemmas.List.{length-map}
use Rattle.std.proofs.lemmas.List.Elements.{All-nil, All-cons, All-head, All-tail}
use Rattle.std.proofs.lemmas.Option.{none-some, same_Some}
use Rattle.agv_layout.specs.Layout.{Layout, IsEdge}
use Rattle.agv_layout.specs.Walk.{IsWalk}
use Rattle.agv_layout.specs.declared.edge.Edge.{Edge}
use Rattle.agv_layout.specs.declared.edge.EdgeEnds.{EdgeEnds}
use Rattle.agv_layout.specs.declared.station.StationSite.{StationSite}
use Rattle.agv_order.specs.Stops.{are_paired}
use Rattle.agv_order.specs.Trips.{task_of, plan_of, node_at}
use Rattle.agv_order.specs.WellFormed.{IsEdgeOf, ids_of, IsRising, AreInOrder, IsAtStation, IsPlanned, is_reached, is_in_turn, has_not_begun, is_over, IsConfirmed, IsUnderWay, IsWellFormed}
use Rattle.agv_order.specs.WellFormedTest.{has_ends, is_edge_of, is_way_of, stops_of, is_rising, are_in_order, is_site_at, is_at_station, is_planned, is_in_base, is_growing, is_confirmed, has_ended, is_under_way, is_well_formed}
use Rattle.agv_order.specs.declared.act.Act.{Act}
use Rattle.agv_order.specs.declared.trip.Trip.{Trip}

at_most : (a b : ℕ) → Decides (nat_le a b) (a ≤ b)
at_most a b = (leb-true a b, le-leb a b)

itself : (b : Bool) → Decides b (IsTrue b)
itself b = (λ e. e, λ e. e)

-- ---- the way

-- the ends of an edge
ends_said : (edge : Edge) (ends : Option EdgeEnds) → Decides (has_ends edge ends) (ends ≡ Some (record { start = edge.start; finish = edge.finish }))
ends_said edge None = (λ e. absurd (false≢true e), λ e. absurd (none-some _ e))
ends_said edge (Some ends) =
    let both = Decides-and _ _ (bytes_decides ends.start edge.start) (bytes_decides ends.finish edge.finish) in (
      λ e. let same : (ends.start ≡ edge.start) × (ends.finish ≡ edge.finish) = both.0 e in λ i. Some (record { start = same.0 i; finish = same.1 i }),
      λ e. let same : ends ≡ record { start = edge.start; finish = edge.finish } = same_Some _ _ e in
          both.1 (ap (λ (x : EdgeEnds). x.start) same, ap (λ (x : EdgeEnds). x.finish) same),
    )

module _ (layout : Layout) where
  edge_said : (edge : Edge) → Decides (is_edge_of layout edge) (IsEdgeOf layout edge)
  edge_said edge = ends_said edge (finite.get layout.edges edge.id)

  -- a walk over edges that lead as the layout says
  abbrev IsWay : List ℕ → List Edge → Type 0
  IsWay at edges = ((finish : List ℕ) × IsWalk layout at (ids_of edges) finish) × All (IsEdgeOf layout) edges

  way_from : (at : List ℕ) (edges : List Edge) → is_way_of layout at edges ≡ true → IsWay at edges
  way_from at [] e = ((at, (e, refl)), All-nil (IsEdgeOf layout))
  way_from at (edge ∷ edges) e =
      let parts = and_parts (pointwise nat_eq edge.start at && is_edge_of layout edge) (is_way_of layout edge.finish edges) e in
      let first = and_parts (pointwise nat_eq edge.start at) (is_edge_of layout edge) parts.0 in
      let starts : edge.start ≡ at = (bytes_decides edge.start at).0 first.0 in
      let known : IsEdgeOf layout edge = (edge_said edge).0 first.1 in
      let rest : IsWay edge.finish edges = way_from edge.finish edges parts.1 in (
        (rest.0.0, (edge.finish, subst (λ start. IsEdge layout edge.id (record { start = start; finish = edge.finish })) starts known, rest.0.1)),
        All-cons (IsEdgeOf layout) edge edges known rest.1,
      )

  way_to : (at : List ℕ) (edges : List Edge) → IsWay at edges → is_way_of layout at edges ≡ true
  way_to at [] way = way.0.1.0
  way_to at (edge ∷ edges) way =
      let walk = way.0.1 in
      let known : IsEdgeOf layout edge = All-head (IsEdgeOf layout) edge edges way.1 in
      let same : record { start = edge.start; finish = edge.finish } ≡ record { start = at; finish = walk.0 } = same_Some _ _ (sym known ∙ walk.1) in
      let starts : edge.start ≡ at = ap (λ (x : EdgeEnds). x.start) same in
      let goes : walk.0 ≡ edge.finish = ap (λ (x : EdgeEnds). x.finish) (sym same) in
      let rest : IsWay edge.finish edges =
      ((way.0.0, subst (λ next. IsWalk layout next (ids_of edges) way.0.0) goes walk.2), All-tail (IsEdgeOf layout) edge edges way.1) in
      and_from _ _ (and_from _ _ ((bytes_decides edge.start at).1 starts) ((edge_said edge).1 known)) (way_to edge.finish edges rest)

  -- ---- the acts

  rising_said : (from : ℕ) (acts : List Act) (to : ℕ) → Decides (is_rising from acts to) (IsRising from (map task_of acts) to)
  rising_said from [] to = Decides-eqb from to
  rising_said from (act ∷ acts) to = Decides-and _ _ (at_most from act.place_at) (rising_said act.place_at acts to)

  order_said : (acts : List Act) (end : ℕ) → Decides (are_in_order acts end) (AreInOrder (map task_of acts) end)
  order_said [] end = (λ e. tt, λ all. refl)
  order_said (act ∷ acts) end = rising_said 0 (act ∷ acts) end

  -- a site at a node
  abbrev IsSiteAt : Option (List ℕ) → Option StationSite → Type 0
  IsSiteAt node found = (site : StationSite) × (found ≡ Some site) × (node ≡ Some site.node)

  site_said : (node : Option (List ℕ)) (found : Option StationSite) → Decides (is_site_at node found) (IsSiteAt node found)
  site_said None found = (λ e. absurd (false≢true e), λ at. absurd (none-some _ at.2))
  site_said (Some node) None = (λ e. absurd (false≢true e), λ at. absurd (none-some _ at.1))
  site_said (Some node) (Some site) = (
    λ e. (site, refl, ap Some (sym ((bytes_decides site.node node).0 e))),
    λ at. let same : site ≡ at.0 = same_Some _ _ at.1 in
        let here : node ≡ at.0.node = same_Some _ _ at.2 in
        (bytes_decides site.node node).1 (ap (λ (s : StationSite). s.node) same ∙ sym here),
  )

  station_said : (trip : Trip) (act : Act) → Decides (is_at_station layout trip act) (IsAtStation layout (plan_of trip) (task_of act))
  station_said trip act = site_said (node_at trip act.place_at) (finite.get layout.stations act.station)

  stations_said : (trip : Trip) (acts : List Act) → Decides (list_all (is_at_station layout trip) acts) (All (IsAtStation layout (plan_of trip)) (map task_of acts))
  stations_said trip [] = (λ e. All-nil (IsAtStation layout (plan_of trip)), λ all. refl)
  stations_said trip (act ∷ acts) =
      let one = station_said trip act in
      let rest = stations_said trip acts in (
        λ e. let parts = and_parts (is_at_station layout trip act) (list_all (is_at_station layout trip) acts) e in
            All-cons (IsAtStation layout (plan_of trip)) (task_of act) (map task_of acts) (one.0 parts.0) (rest.0 parts.1),
        λ all. and_from _ _ (one.1 (All-head (IsAtStation layout (plan_of trip)) (task_of act) (map task_of acts) all))
            (rest.1 (All-tail (IsAtStation layout (plan_of trip)) (task_of act) (map task_of acts) all)),
      )

  -- ---- the plan

  few_said : (acts : List Act) → Decides (nat_le (length acts) 8) (length (map task_of acts) ≤ 8)
  few_said acts =
      (λ e. let few : length acts ≤ 8 = leb-true (length acts) 8 e in omega (arith, length-map acts task_of), λ few. le-leb (length acts) 8 (omega (arith, length-map acts task_of)))

  -- what the tests of a plan say, in their order
  abbrev PlanTests : Trip → Type 0
  PlanTests trip =
      (((((length trip.edges ≤ 200) × (length (map task_of trip.acts) ≤ 8)) × IsWay trip.start trip.edges)
      × IsTrue (are_paired (stops_of trip.acts)))
      × AreInOrder (map task_of trip.acts) (length trip.edges))
      × All (IsAtStation layout (plan_of trip)) (map task_of trip.acts)

  planned_said : (trip : Trip) → Decides (is_planned layout trip) (IsPlanned layout (plan_of trip))
  planned_said trip = Decides-like (is_planned layout trip) to from tests
    where
      tests : Decides (is_planned layout trip) (PlanTests trip)
      tests =
          Decides-and _ _ (Decides-and _ _ (Decides-and _ _ (Decides-and _ _ (Decides-and _ _
          (at_most (length trip.edges) 200)
          (few_said trip.acts))
          (way_from trip.start trip.edges, way_to trip.start trip.edges))
          (λ fit. fit, λ fit. fit))
          (order_said trip.acts (length trip.edges)))
          (stations_said trip trip.acts)

      to : PlanTests trip → IsPlanned layout (plan_of trip)
      to parts = record {
        walk = parts.0.0.0.1.0;
        edges = parts.0.0.0.1.1;
        short = parts.0.0.0.0.0;
        stops = parts.0.0.1;
        few = parts.0.0.0.0.1;
        rising = parts.0.1;
        stations = parts.1;
      }

      from : IsPlanned layout (plan_of trip) → PlanTests trip
      from planned = (((((planned.short, planned.few), (planned.walk, planned.edges)), planned.stops), planned.rising), planned.stations)

-- ---- where it stands

in_base_said : (trip : Trip)
    → Decides (is_in_base trip) ((((trip.first ≤ trip.base) × (trip.base ≤ length trip.edges)) × (trip.seen ≤ trip.base)) × (trip.sent ≤ trip.base))
in_base_said trip =
    Decides-and _ _ (Decides-and _ _ (Decides-and _ _ (at_most trip.first trip.base) (at_most trip.base (length trip.edges))) (at_most trip.seen trip.base))
    (at_most trip.sent trip.base)

growing_said : (trip : Trip) → Decides (is_growing trip) ((trip.sent ≡ 0 → trip.first ≡ 0) × (0 < trip.sent → trip.first < trip.base))
growing_said trip = (λ e. (λ none. grind (arith, nat_tests), λ some. grind (arith, nat_tests)), λ grows. grind (arith, nat_tests))

confirmed_said : (trip : Trip) (confirmed : Option ℕ) → Decides (is_confirmed trip confirmed) (IsConfirmed trip confirmed)
confirmed_said trip None =
    let parts = Decides-and _ _ (Decides-and _ _ (Decides-and _ _ (Decides-eqb trip.sent 0) (Decides-eqb trip.first 0)) (Decides-eqb trip.seen 0)) (itself (list_all has_not_begun trip.acts)) in
    (λ e. let p = parts.0 e in (p.0.0.0, p.0.0.1, p.0.1, p.1), λ c. parts.1 (((c.0, c.1), c.2), c.3))
confirmed_said trip (Some update) =
    Decides-or _ _ (Decides-eqb update trip.sent) (Decides-and _ _ (Decides-eqb (update + 1) trip.sent) (at_most trip.seen trip.first))

ended_said : (trip : Trip) → Decides (has_ended trip) ((trip.seen ≡ length trip.edges) × IsTrue (list_all is_over trip.acts))
ended_said trip = Decides-and _ _ (Decides-eqb trip.seen (length trip.edges)) (itself (list_all is_over trip.acts))

-- what the tests of a trip under way say, in their order
abbrev WayTests : Trip → Type 0
WayTests trip =
    ((((((((trip.first ≤ trip.base) × (trip.base ≤ length trip.edges)) × (trip.seen ≤ trip.base)) × (trip.sent ≤ trip.base))
    × ((trip.sent ≡ 0 → trip.first ≡ 0) × (0 < trip.sent → trip.first < trip.base)))
    × IsConfirmed trip trip.confirmed)
    × IsTrue (list_all (is_reached trip.seen) trip.acts))
    × IsTrue (list_all (is_in_turn trip.acts) trip.acts))
    × (¬ ((trip.seen ≡ length trip.edges) × IsTrue (list_all is_over trip.acts)))

under_way_said : (trip : Trip) → Decides (is_under_way trip) (IsUnderWay trip)
under_way_said trip = Decides-like (is_under_way trip) to from tests
  where
    tests : Decides (is_under_way trip) (WayTests trip)
    tests =
        Decides-and _ _ (Decides-and _ _ (Decides-and _ _ (Decides-and _ _ (Decides-and _ _
        (in_base_said trip)
        (growing_said trip))
        (confirmed_said trip trip.confirmed))
        (itself (list_all (is_reached trip.seen) trip.acts)))
        (itself (list_all (is_in_turn trip.acts) trip.acts)))
        (Decides-not (has_ended trip) (ended_said trip))

    to : WayTests trip → IsUnderWay trip
    to parts = record {
      in_base = parts.0.0.0.0.0.0.0.0;
      on_way = parts.0.0.0.0.0.0.0.1;
      seen_released = parts.0.0.0.0.0.0.1;
      sent_released = parts.0.0.0.0.0.1;
      begins = parts.0.0.0.0.1.0;
      grows = parts.0.0.0.0.1.1;
      confirmed = parts.0.0.0.1;
      reached = parts.0.0.1;
      in_turn = parts.0.1;
      is_open = parts.1;
    }

    from : IsUnderWay trip → WayTests trip
    from way =
        ((((((((way.in_base, way.on_way), way.seen_released), way.sent_released), (way.begins, way.grows)), way.confirmed), way.reached), way.in_turn), way.is_open)

-- ---- both

pub tests_well_formed : (layout : Layout) (trip : Trip) → IsTrue (is_well_formed layout trip) ↔ IsWellFormed layout trip
tests_well_formed layout trip =
    let both = Decides-and (is_planned layout trip) (is_under_way trip) (planned_said layout trip) (under_way_said trip) in (
      λ e. let parts = both.0 e in record { planned = parts.0; under_way = parts.1 },
      λ formed. both.1 (formed.planned, formed.under_way),
    )
