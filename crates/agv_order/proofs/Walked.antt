-- Each route of a plan leads by a walk from the stop before it to its own.
use Rattle.std.proofs.Common.{◌≡◌, ℕ, List, [], ◌∷◌, All, Option, None, Some, refl, sym, ap, subst, ◌∙◌}
use Rattle.std.specs.List.{cons_option}
use Rattle.std.specs.Option.{option_map, option_and_then}
use Rattle.std.specs.FinMap as finite
use Rattle.std.proofs.lemmas.Option.{same_Some}
use Rattle.std.proofs.lemmas.List.Elements.{All-nil, All-cons}
use Rattle.agv_layout.specs.Layout.{Layout, IsStation, edge_of}
use Rattle.agv_layout.specs.Walk.{IsWalk, IsRoute, IsWayTo}
use Rattle.agv_layout.specs.declared.edge.Edge.{Edge}
use Rattle.agv_layout.specs.declared.edge.EdgeEnds.{EdgeEnds}
use Rattle.agv_layout.specs.declared.station.StationSite.{StationSite}
use Rattle.agv_stock.specs.declared.job.Job.{Job}
use Rattle.agv_order.specs.Plans.{job_named, stop_station, edges_named, stop_route_over, stop_route_for, stop_route_to, stop_routes_to}
use Rattle.agv_layout.specs.RouteOf.{route_of}
use Rattle.agv_layout.proofs.RouteFound.{route_is_found}
use Rattle.agv_order.specs.WellFormed.{IsEdgeOf, ids_of}
use Rattle.agv_order.specs.declared.stop_route.StopRoute.{StopRoute}
use Rattle.agv_order.specs.declared.stop.Stop.{Stop}

-- what is chained to a value that is there
pub record Chained (A B : Type 0) (f : A → Option B) (o : Option A) (b : B) : Type 0 where
  pub value : A
  pub here : o ≡ Some value
  pub gives : f value ≡ Some b

pub chained : {A B : Type 0} (f : A → Option B) (o : Option A) (b : B) → option_and_then f o ≡ Some b → Chained A B f o b
chained f None b e = cc
chained f (Some a) b e = record { value = a; here = refl; gives = e }

pub record Mapped (A B : Type 0) (f : A → B) (o : Option A) (b : B) : Type 0 where
  pub value : A
  pub here : o ≡ Some value
  pub gives : f value ≡ b

pub mapped : {A B : Type 0} (f : A → B) (o : Option A) (b : B) → option_map f o ≡ Some b → Mapped A B f o b
mapped f None b e = cc
mapped f (Some a) b e = record { value = a; here = refl; gives = same_Some _ _ e }

module _ (layout : Layout) where
  -- the edges of a walk have its names, and lead as the layout says
  pub record AreEdges (ids : List (List ℕ)) (edges : List Edge) : Type 0 where
    pub named : ids_of edges ≡ ids
    pub known : All (IsEdgeOf layout) edges

  one_more : (id : List ℕ) (ends : EdgeEnds) (ids : List (List ℕ)) (edges more : List Edge) → finite.get layout.edges id ≡ Some ends
      → AreEdges ids edges → cons_option (option_map (edge_of id) (finite.get layout.edges id)) edges ≡ more → AreEdges (id ∷ ids) more
  one_more id ends ids edges more e are same =
      let first : edge_of id ends ∷ edges ≡ more = ap (λ o. cons_option (option_map (edge_of id) o) edges) (sym e) ∙ same in
      subst (AreEdges (id ∷ ids)) first (record {
        named = ap (λ names. id ∷ names) are.named;
        known = All-cons (IsEdgeOf layout) (edge_of id ends) edges e are.known;
      })

  pub are_edges : (from to : List ℕ) (ids : List (List ℕ)) → IsWalk layout from ids to → AreEdges ids (edges_named layout ids)
  are_edges from to [] walk = record { named = refl; known = All-nil (IsEdgeOf layout) }
  are_edges from to (id ∷ ids) walk =
      one_more id _ ids (edges_named layout ids) (edges_named layout (id ∷ ids)) walk.1 (are_edges walk.0 to ids walk.2) refl

  -- a route: for its stop, by a walk from a node to the node of its station, over edges of the layout
  pub record IsStopRoute (jobs : List Job) (at : List ℕ) (stop : Stop) (stop_route : StopRoute) : Type 0 where
    pub made : stop_route.stop ≡ stop
    pub named : job_named jobs stop_route.stop.job ≡ Some stop_route.job
    pub walk : IsWalk layout at (ids_of stop_route.edges) stop_route.goal
    pub route : IsRoute layout at stop_route.goal (ids_of stop_route.edges)
    pub known : All (IsEdgeOf layout) stop_route.edges
    pub site : StationSite
    pub station : IsStation layout (stop_station stop_route.stop.kind stop_route.job) site
    pub stands : site.node ≡ stop_route.goal

  leg_by : (jobs : List Job) (at : List ℕ) (stop : Stop) (job : Job) (site : StationSite) (ids : List (List ℕ)) → job_named jobs stop.job ≡ Some job → finite.get layout.stations (stop_station stop.kind job) ≡ Some site
      → route_of layout at site.node ≡ Some ids → IsStopRoute jobs at stop (stop_route_over layout stop job site.node ids)
  leg_by jobs at stop job site ids j e r =
      let route = subst (IsWayTo layout at site.node) r (route_is_found layout at site.node) in
      let are = are_edges at site.node ids route.walk in
      record {
        made = refl;
        named = j;
        walk = subst (λ names. IsWalk layout at names site.node) (sym are.named) route.walk;
        route = subst (IsRoute layout at site.node) (sym are.named) route;
        known = are.known;
        site = site;
        station = e;
        stands = refl;
      }

  pub is_leg : (jobs : List Job) (at : List ℕ) (stop : Stop) (stop_route : StopRoute) → stop_route_to layout jobs at stop ≡ Some stop_route → IsStopRoute jobs at stop stop_route
  unfolding stop_route_to
  is_leg jobs at stop stop_route e =
      let job = chained (stop_route_for layout at stop) (job_named jobs stop.job) stop_route e in
      let site = chained (λ (site : StationSite). option_map (stop_route_over layout stop job.value site.node) (route_of layout at site.node)) (finite.get layout.stations (stop_station stop.kind job.value)) stop_route job.gives in
      let ids = mapped (stop_route_over layout stop job.value site.value.node) (route_of layout at site.value.node) stop_route site.gives in
      subst (IsStopRoute jobs at stop) ids.gives (leg_by jobs at stop job.value site.value ids.value job.here site.here ids.here)

  -- the routes lead on from one to the next, a route for each stop
  abbrev pub AreStopRoutes : List Job → List ℕ → List Stop → List StopRoute → Type 0
  AreStopRoutes jobs at [] [] = Unit {0}
  AreStopRoutes jobs at [] (stop_route ∷ stop_routes) = ⊥
  AreStopRoutes jobs at (stop ∷ stops) [] = ⊥
  AreStopRoutes jobs at (stop ∷ stops) (stop_route ∷ stop_routes) = IsStopRoute jobs at stop stop_route × AreStopRoutes jobs stop_route.goal stops stop_routes

  pub are_legs : (jobs : List Job) (at : List ℕ) (stops : List Stop) (stop_routes : List StopRoute) → stop_routes_to layout jobs at stops ≡ Some stop_routes → AreStopRoutes jobs at stops stop_routes
  are_legs jobs at [] stop_routes e = subst (AreStopRoutes jobs at []) (same_Some _ _ e) tt
  are_legs jobs at (stop ∷ stops) stop_routes e =
      let stop_route = chained (λ (stop_route : StopRoute). option_map (λ (others : List StopRoute). stop_route ∷ others) (stop_routes_to layout jobs stop_route.goal stops)) (stop_route_to layout jobs at stop) stop_routes e in
      let rest = mapped (λ (others : List StopRoute). stop_route.value ∷ others) (stop_routes_to layout jobs stop_route.value.goal stops) stop_routes stop_route.gives in
      subst (AreStopRoutes jobs at (stop ∷ stops)) rest.gives
      (is_leg jobs at stop stop_route.value stop_route.here, are_legs jobs stop_route.value.goal stops rest.value rest.here)
