-- The way of all routes: it is a walk, the acts rise along it, and each is done at the node of its station.
use Rattle.std.proofs.Common.{arith, ◌≡◌, ℕ, suc, ◌+◌, List, [], ◌∷◌, ◌++◌, length, map, All, Some, refl, sym, ap, subst, ◌∙◌, append_assoc, length-append}
use Rattle.std.specs.List.{slice_get}
use Rattle.std.proofs.lemmas.List.{map-append}
use Rattle.std.proofs.lemmas.List.Elements.{All-nil, All-cons, All-head, All-tail, All-append}
use Rattle.std.proofs.lemmas.Option.{same_Some}
use Rattle.agv_layout.specs.Layout.{Layout, IsNode}
use Rattle.agv_layout.specs.Walk.{IsWalk}
use Rattle.agv_layout.proofs.Walking.{walks_join, ends_at_node}
use Rattle.agv_layout.specs.declared.edge.Edge.{Edge}
use Rattle.agv_layout.specs.declared.edge.EdgeEnds.{EdgeEnds}
use Rattle.agv_stock.specs.declared.job.Job.{Job}
use Rattle.agv_order.specs.Plans.{way_of, act_at, acts_along}
use Rattle.agv_order.specs.Trips.{Task, task_of, stop_of, Plan, nodes_on}
use Rattle.agv_order.specs.WellFormed.{IsEdgeOf, ids_of, IsRising, IsAtStation}
use Rattle.agv_order.specs.declared.stop_route.StopRoute.{StopRoute}
use Rattle.agv_order.specs.declared.stop.Stop.{Stop}
use Rattle.agv_order.proofs.Walked.{AreStopRoutes}

-- the tasks at the ends of the routes
abbrev pub tasks_along : ℕ → List StopRoute → List Task
tasks_along from stop_routes = map task_of (acts_along from stop_routes)

-- ---- the node where edges end
abbrev end_of : List ℕ → List Edge → List ℕ
end_of at [] = at
end_of at (edge ∷ edges) = end_of edge.finish edges

end_of-append : (at : List ℕ) (edges others : List Edge) → end_of at (edges ++ others) ≡ end_of (end_of at edges) others
end_of-append at [] others = refl
end_of-append at (edge ∷ edges) others = end_of-append edge.finish edges others

-- behind the first edges stands the node where they end
node_past : (at : List ℕ) (edges others : List Edge) → slice_get (nodes_on at (edges ++ others)) (length edges) ≡ Some (end_of at edges)
node_past at [] others = refl
node_past at (edge ∷ edges) others = node_past edge.finish edges others

module _ (layout : Layout) (jobs : List Job) where
  -- the edges of a walk end where it ends
  ends_there : (at to : List ℕ) (edges : List Edge) → IsWalk layout at (ids_of edges) to → All (IsEdgeOf layout) edges → end_of at edges ≡ to
  ends_there at to [] walk known = walk.1
  ends_there at to (edge ∷ edges) walk known =
      let here : edge.finish ≡ walk.0 = ap (λ (ends : EdgeEnds). ends.finish) (same_Some _ _ (sym (All-head (IsEdgeOf layout) edge edges known) ∙ walk.1)) in
      ends_there edge.finish to edges (subst (λ next. IsWalk layout next (ids_of edges) to) (sym here) walk.2) (All-tail (IsEdgeOf layout) edge edges known)

  -- ---- all routes
  pub way_known : (at : List ℕ) (stops : List Stop) (stop_routes : List StopRoute) → AreStopRoutes layout jobs at stops stop_routes → All (IsEdgeOf layout) (way_of stop_routes)
  way_known at [] [] are = All-nil (IsEdgeOf layout)
  way_known at [] (stop_route ∷ stop_routes) are = elim are [ ]
  way_known at (stop ∷ stops) [] are = elim are [ ]
  way_known at (stop ∷ stops) (stop_route ∷ stop_routes) are =
      All-append (IsEdgeOf layout) stop_route.edges (way_of stop_routes) are.0.known (way_known stop_route.goal stops stop_routes are.1)

  rest_walk : (at : List ℕ) (stops : List Stop) (stop_routes : List StopRoute) → IsNode layout at → AreStopRoutes layout jobs at stops stop_routes
      → (finish : List ℕ) × IsWalk layout at (ids_of (way_of stop_routes)) finish
  rest_walk at [] [] node are = (at, (node, refl))
  rest_walk at [] (stop_route ∷ stop_routes) node are = elim are [ ]
  rest_walk at (stop ∷ stops) [] node are = elim are [ ]
  rest_walk at (stop ∷ stops) (stop_route ∷ stop_routes) node are =
      let rest = rest_walk stop_route.goal stops stop_routes (ends_at_node layout at stop_route.goal (ids_of stop_route.edges) are.0.walk) are.1 in (
        rest.0,
        subst (λ ids. IsWalk layout at ids rest.0) (sym (map-append (λ (edge : Edge). edge.id) stop_route.edges (way_of stop_routes)))
            (walks_join layout at stop_route.goal rest.0 (ids_of stop_route.edges) (ids_of (way_of stop_routes)) are.0.walk rest.1),
      )

  pub whole_walk : (at : List ℕ) (stop : Stop) (stops : List Stop) (stop_routes : List StopRoute) → AreStopRoutes layout jobs at (stop ∷ stops) stop_routes
      → (finish : List ℕ) × IsWalk layout at (ids_of (way_of stop_routes)) finish
  whole_walk at stop stops [] are = elim are [ ]
  whole_walk at stop stops (stop_route ∷ stop_routes) are =
      let rest = rest_walk stop_route.goal stops stop_routes (ends_at_node layout at stop_route.goal (ids_of stop_route.edges) are.0.walk) are.1 in (
        rest.0,
        subst (λ ids. IsWalk layout at ids rest.0) (sym (map-append (λ (edge : Edge). edge.id) stop_route.edges (way_of stop_routes)))
            (walks_join layout at stop_route.goal rest.0 (ids_of stop_route.edges) (ids_of (way_of stop_routes)) are.0.walk rest.1),
      )

  -- ---- the tasks
  pub tasks_stops : (from : ℕ) (at : List ℕ) (stops : List Stop) (stop_routes : List StopRoute) → AreStopRoutes layout jobs at stops stop_routes → map stop_of (tasks_along from stop_routes) ≡ stops
  tasks_stops from at [] [] are = refl
  tasks_stops from at [] (stop_route ∷ stop_routes) are = elim are [ ]
  tasks_stops from at (stop ∷ stops) [] are = elim are [ ]
  tasks_stops from at (stop ∷ stops) (stop_route ∷ stop_routes) are =
      let first = are.0.made in
      let rest = tasks_stops (from + length stop_route.edges) stop_route.goal stops stop_routes are.1 in
      λ i. first i ∷ rest i

  -- the station of each task is at the node where its route ends
  stations_past : (start : List ℕ) (before : List Edge) (at : List ℕ) (stops : List Stop) (stop_routes : List StopRoute) → end_of start before ≡ at → AreStopRoutes layout jobs at stops stop_routes
      → (plan : Plan) → plan.start ≡ start → plan.edges ≡ before ++ way_of stop_routes → All (IsAtStation layout plan) (tasks_along (length before) stop_routes)
  stations_past start before at [] [] here are plan s e = All-nil (IsAtStation layout plan)
  stations_past start before at [] (stop_route ∷ stop_routes) here are plan s e = elim are [ ]
  stations_past start before at (stop ∷ stops) [] here are plan s e = elim are [ ]
  stations_past start before at (stop ∷ stops) (stop_route ∷ stop_routes) here are plan s e =
      All-cons (IsAtStation layout plan) (task_of (act_at stop_route (length before + length stop_route.edges))) (tasks_along (length before + length stop_route.edges) stop_routes)
      (are.0.site, are.0.station, node ∙ ap Some (there ∙ sym are.0.stands))
      (subst (λ n. All (IsAtStation layout plan) (tasks_along n stop_routes)) longer
      (stations_past start (before ++ stop_route.edges) stop_route.goal stops stop_routes there are.1 plan s (e ∙ sym (append_assoc before stop_route.edges (way_of stop_routes)))))
    where
      longer : length (before ++ stop_route.edges) ≡ length before + length stop_route.edges
      longer = length-append before stop_route.edges

      there : end_of start (before ++ stop_route.edges) ≡ stop_route.goal
      there = end_of-append start before stop_route.edges ∙ ap (λ from. end_of from stop_route.edges) here ∙ ends_there at stop_route.goal stop_route.edges are.0.walk are.0.known

      node : slice_get (nodes_on plan.start plan.edges) (length before + length stop_route.edges) ≡ Some (end_of start (before ++ stop_route.edges))
      node =
          (λ i. slice_get (nodes_on (s i) ((e ∙ sym (append_assoc before stop_route.edges (way_of stop_routes))) i)) (sym longer i))
          ∙ node_past start (before ++ stop_route.edges) (way_of stop_routes)

  pub stations : (at : List ℕ) (stops : List Stop) (stop_routes : List StopRoute) (plan : Plan) → AreStopRoutes layout jobs at stops stop_routes → plan.start ≡ at → plan.edges ≡ way_of stop_routes
      → All (IsAtStation layout plan) (tasks_along 0 stop_routes)
  stations at stops stop_routes plan are s e = stations_past at [] at stops stop_routes refl are plan s e

-- the acts don't fall, and the last is done at the end
pub rising : (from : ℕ) (stop_routes : List StopRoute) → IsRising from (tasks_along from stop_routes) (from + length (way_of stop_routes))
rising from [] = omega arith
rising from (stop_route ∷ stop_routes) = (
  omega arith,
  subst (IsRising (from + length stop_route.edges) (tasks_along (from + length stop_route.edges) stop_routes)) longer (rising (from + length stop_route.edges) stop_routes),
)
  where
    longer : (from + length stop_route.edges) + length (way_of stop_routes) ≡ from + length (stop_route.edges ++ way_of stop_routes)
    longer = omega (arith, length-append stop_route.edges (way_of stop_routes))

-- an act for each route
pub length-tasks_along : (from : ℕ) (stop_routes : List StopRoute) → length (tasks_along from stop_routes) ≡ length stop_routes
length-tasks_along from [] = refl
length-tasks_along from (stop_route ∷ stop_routes) = ap suc (length-tasks_along (from + length stop_route.edges) stop_routes)
