-- A plan goes from stop to stop by the routes of the layout, and where there is none, nothing does.
use Rattle.std.proofs.Common.{◌≡◌, ◌≢◌, ℕ, ◌+◌, nat_lt, Bool, true, false, List, [], ◌∷◌, length, Option, None, Some, Ok, Err, refl, sym, ap, subst, ◌∙◌}
use Rattle.std.specs.Prelude.{if◌then◌else◌}
use Rattle.std.specs.Option.{option_map, option_and_then}
use Rattle.agv_header.specs.declared.key.VehicleKey.{VehicleKey}
use Rattle.agv_layout.specs.Layout.{Layout}
use Rattle.agv_layout.specs.Walk.{IsRoute}
use Rattle.agv_layout.specs.RouteOf.{route_of}
use Rattle.agv_layout.proofs.RouteFound.{exact_way}
use Rattle.agv_layout.specs.declared.edge.Edge.{Edge}
use Rattle.agv_layout.specs.declared.station.StationSite.{StationSite}
use Rattle.agv_stock.specs.declared.job.Job.{Job}
use Rattle.agv_order.specs.Plans.{stop_route_over, stop_route_for, stop_route_to, stop_routes_to, way_of, act_at, acts_along, trip_over, trip_along, planned}
use Rattle.agv_order.specs.Tours.{MakesStop, MakesStops, IsPlanOf}
use Rattle.agv_order.specs.WellFormed.{ids_of}
use Rattle.agv_order.specs.declared.act.Act.{Act}
use Rattle.agv_order.specs.declared.fault.PlanFault.TheVariants as fault
use Rattle.agv_order.specs.declared.stop_route.StopRoute.{StopRoute}
use Rattle.agv_order.specs.declared.stop.Stop.{Stop}
use Rattle.agv_order.specs.declared.trip.Trip.{Trip}
use Rattle.agv_order.proofs.NewTrips.{by_tests}
use Rattle.agv_order.proofs.Walked.{IsStopRoute, AreStopRoutes, are_legs}

module _ (layout : Layout) (jobs : List Job) where
  -- ---- the routes of a plan make the stops
  -- the route makes its stop, at its goal
  abbrev Made : (at : List ℕ) (place : ℕ) (stop_route : StopRoute) (stop : Stop) → Type 0
  Made at place stop_route stop =
      (made : MakesStop layout jobs at place stop stop_route.edges (act_at stop_route (place + length stop_route.edges))) × (made.site.node ≡ stop_route.goal)

  made_by : (at : List ℕ) (place : ℕ) (stop : Stop) (stop_route : StopRoute) → IsStopRoute layout jobs at stop stop_route → Made at place stop_route stop
  made_by at place stop stop_route is = subst (Made at place stop_route) is.made (
    record {
      job = stop_route.job;
      named = is.named;
      site = is.site;
      station = is.station;
      route = subst (λ node. IsRoute layout at node (ids_of stop_route.edges)) (sym is.stands) is.route;
      known = is.known;
      does = refl;
    },
    is.stands,
  )

  pub makes_stops : (at : List ℕ) (place : ℕ) (stops : List Stop) (stop_routes : List StopRoute) → AreStopRoutes layout jobs at stops stop_routes
      → MakesStops layout jobs at place stops (way_of stop_routes) (acts_along place stop_routes)
  makes_stops at place [] [] are = refl
  makes_stops at place [] (stop_route ∷ stop_routes) are = elim are [ ]
  makes_stops at place (stop ∷ stops) [] are = elim are [ ]
  makes_stops at place (stop ∷ stops) (stop_route ∷ stop_routes) are = (
    stop_route.edges,
    way_of stop_routes,
    refl,
    (
      (made_by at place stop stop_route are.0).0,
      subst (λ node. MakesStops layout jobs node (place + length stop_route.edges) stops (way_of stop_routes) (acts_along (place + length stop_route.edges) stop_routes)) (sym (made_by at place stop stop_route are.0).1)
          (makes_stops stop_route.goal (place + length stop_route.edges) stops stop_routes are.1),
    ),
  )

  -- ---- what makes the stops is a plan
  -- there is a route, to this node
  record HasLeg (at goal : List ℕ) (stop : Stop) : Type 0 where
    stop_route : StopRoute
    found : stop_route_to layout jobs at stop ≡ Some stop_route
    leads : stop_route.goal ≡ goal

  stop_there : (at : List ℕ) (place : ℕ) (stop : Stop) (edges : List Edge) (act : Act) (made : MakesStop layout jobs at place stop edges act)
      → HasLeg at made.site.node stop
  unfolding stop_route_to
  stop_there at place stop edges act made = record {
    stop_route = stop_route_over layout stop made.job made.site.node (ids_of edges);
    found =
        ap (option_and_then (stop_route_for layout at stop)) made.named
        ∙ ap (option_and_then (λ (site : StationSite). option_map (stop_route_over layout stop made.job site.node) (route_of layout at site.node))) made.station
        ∙ ap (option_map (stop_route_over layout stop made.job made.site.node)) (sym (exact_way layout at made.site.node (Some (ids_of edges)) made.route));
    leads = refl;
  }

  some_more : (stop_route : StopRoute) (others : Option (List StopRoute)) → others ≢ None → option_map (λ (stop_routes : List StopRoute). stop_route ∷ stop_routes) others ≢ None
  some_more stop_route None there e = there refl
  some_more stop_route (Some stop_routes) there e = cc

  -- so there are routes to all of the stops
  legs_there : (at : List ℕ) (place : ℕ) (stops : List Stop) (edges : List Edge) (acts : List Act) → MakesStops layout jobs at place stops edges acts
      → stop_routes_to layout jobs at stops ≢ None
  legs_there at place [] edges [] made e = cc
  legs_there at place [] edges (act ∷ acts) made e = elim made [ ]
  legs_there at place (stop ∷ stops) edges [] made e = elim made [ ]
  legs_there at place (stop ∷ stops) edges (act ∷ acts) made e =
      let has = stop_there at place stop made.0 act made.3.0 in
      let more : stop_routes_to layout jobs has.stop_route.goal stops ≢ None =
      subst (λ node. stop_routes_to layout jobs node stops ≢ None) (sym has.leads) (legs_there made.3.0.site.node (place + length made.0) stops made.1 acts made.3.1) in
      some_more has.stop_route (stop_routes_to layout jobs has.stop_route.goal stops) more
      (sym (ap (option_and_then (λ (stop_route : StopRoute). option_map (λ (stop_routes : List StopRoute). stop_route ∷ stop_routes) (stop_routes_to layout jobs stop_route.goal stops))) has.found) ∙ e)

-- ---- plans
module _ (layout : Layout) (jobs : List Job) (vehicle : VehicleKey) (stops : List Stop) (order at : List ℕ) (base : ℕ) where
  by_found : (found : Option (List StopRoute)) (trip : Trip) → ((stop_routes : List StopRoute) → found ≡ Some stop_routes → AreStopRoutes layout jobs at stops stop_routes)
      → trip_along vehicle order at base found ≡ Ok trip → IsPlanOf layout jobs stops at base trip
  by_found None trip are e = cc
  by_found (Some stop_routes) trip are e =
      let tests = by_tests layout jobs vehicle order at base stop_routes trip e in
      subst (IsPlanOf layout jobs stops at base) tests.2 (record {
        start = refl;
        goes = makes_stops layout jobs at 0 stops stop_routes (are stop_routes refl);
        short = tests.0;
        released = refl;
        within = tests.1;
      })

  -- a planned trip goes by the routes
  pub goes_by_routes : (trip : Trip) → planned layout vehicle jobs stops order at base ≡ Ok trip → IsPlanOf layout jobs stops at base trip
  goes_by_routes trip e = by_found (stop_routes_to layout jobs at stops) trip (λ stop_routes f. are_legs layout jobs at stops stop_routes f) e

  not_none : (found : Option (List StopRoute)) → trip_along vehicle order at base found ≡ Err fault.NoWalk → found ≡ None
  not_none None e = refl
  not_none (Some stop_routes) e = by_bools (nat_lt 200 (length (way_of stop_routes))) (nat_lt (length (way_of stop_routes)) base) e
    where
      by_bools : (long beyond : Bool) → (if long then Err fault.TooLong else (if beyond then Err fault.Beyond else Ok (trip_over vehicle order at base stop_routes))) ≡ Err fault.NoWalk → Some stop_routes ≡ None
      by_bools true beyond e = cc
      by_bools false true e = cc
      by_bools false false e = cc

  -- where there is none, nothing goes from stop to stop by the routes
  pub none_goes : planned layout vehicle jobs stops order at base ≡ Err fault.NoWalk → (edges : List Edge) (acts : List Act) → ¬ MakesStops layout jobs at 0 stops edges acts
  none_goes e edges acts made = legs_there layout jobs at 0 stops edges acts made (not_none (stop_routes_to layout jobs at stops) e)
