-- A trip on its layout: its nodes are nodes of the layout and its edges begin where the one before ended; and as many loads are picked after a state as before, and by a plan as by its stops.
use Rattle.std.proofs.Common.{◌≡◌, ◌+◌, ℕ, zero, suc, not, cond, List, [], ◌∷◌, map, count_by, sum_by, length, All, Some, refl, sym, ap, subst, ◌∙◌}
use Rattle.std.proofs.lemmas.List.Elements.{All-head, All-tail}
use Rattle.std.proofs.lemmas.List.Sums.{sum_by-cons}
use Rattle.std.specs.List.{slice_get}
use Rattle.agv_layout.specs.Layout.{Layout, IsEdge, IsNode, KeepsRules}
use Rattle.agv_layout.specs.Walk.{IsWalk}
use Rattle.agv_layout.specs.declared.edge.Edge.{Edge}
use Rattle.agv_layout.specs.declared.edge.EdgeEnds.{EdgeEnds}
use Rattle.agv_order.specs.StopPlaces.{stop_picks}
use Rattle.agv_order.specs.Stops.{is_drop}
use Rattle.agv_order.specs.Tours.{MakesStops}
use Rattle.agv_order.specs.Trips.{Task, nodes_on, task_of}
use Rattle.agv_order.specs.WellFormed.{IsEdgeOf, ids_of}
use Rattle.agv_order.specs.declared.act.Act.{Act}
use Rattle.agv_order.specs.declared.stop.Stop.{Stop}
use Rattle.agv_order.specs.declared.trip.Trip.{Trip}
use Rattle.agv_stock.specs.declared.job.Job.{Job}
use Rattle.agv_track.specs.Progressed.{IsNextOf}
use Rattle.agv_world_core.specs.Lawful.{IsRestAt, picks}
use Rattle.agv_desk.proofs.outcomes.Known.{none_some, same_some}

-- ---- nodes and edges of a walk

module _ (layout : Layout) where
  -- an edge of the layout has one pair of ends
  same_end : (id : List ℕ) (ends others : EdgeEnds) → IsEdge layout id ends → IsEdge layout id others → ends.finish ≡ others.finish
  same_end id ends others a b = ap (λ (e : EdgeEnds). e.finish) (same_some (sym a ∙ b))

  -- the walk goes on at the finish of its first edge
  goes_on : (start finish : List ℕ) (edge : Edge) (edges : List Edge) → All (IsEdgeOf layout) (edge ∷ edges) → IsWalk layout start (ids_of (edge ∷ edges)) finish
      → IsWalk layout edge.finish (ids_of edges) finish
  goes_on start finish edge edges known walk =
      subst (λ next. IsWalk layout next (ids_of edges) finish) (same_end edge.id _ _ walk.1 (All-head (IsEdgeOf layout) edge edges known)) walk.2

  -- it starts at a node
  start_node : KeepsRules layout → (start finish : List ℕ) (edges : List Edge) → IsWalk layout start (ids_of edges) finish → IsNode layout start
  start_node keeps start finish [] walk = walk.0
  start_node keeps start finish (edge ∷ edges) walk = (keeps.leads edge.id _ walk.1).0

  -- each node on the way is a node of the layout
  pub way_nodes : KeepsRules layout → (start finish : List ℕ) (edges : List Edge) → All (IsEdgeOf layout) edges → IsWalk layout start (ids_of edges) finish
      → (k : ℕ) (name : List ℕ) → slice_get (nodes_on start edges) k ≡ Some name → IsNode layout name
  way_nodes keeps start finish edges known walk zero name is = subst (IsNode layout) (same_some is) (start_node keeps start finish edges walk)
  way_nodes keeps start finish [] known walk (suc k) name is = none_some is
  way_nodes keeps start finish (edge ∷ edges) known walk (suc k) name is =
      way_nodes keeps edge.finish finish edges (All-tail (IsEdgeOf layout) edge edges known) (goes_on start finish edge edges known walk) k name is

  -- edge k begins at node k
  pub way_edges : (start finish : List ℕ) (edges : List Edge) → All (IsEdgeOf layout) edges → IsWalk layout start (ids_of edges) finish
      → (k : ℕ) (name : List ℕ) (edge : Edge) → slice_get (nodes_on start edges) k ≡ Some name → slice_get edges k ≡ Some edge
      → IsEdge layout edge.id (record { start = name; finish = edge.finish })
  way_edges start finish [] known walk k name edge is there = none_some there
  way_edges start finish (first ∷ edges) known walk zero name edge is there =
      let here : first ≡ edge = same_some there in
      let at : start ≡ name = same_some is in
      let ends : ◌≡◌ {A = EdgeEnds} (record { start = start; finish = walk.0 }) (record { start = start; finish = first.finish }) =
      ap (λ finish. record { start = start; finish = finish }) (same_end first.id _ _ walk.1 (All-head (IsEdgeOf layout) first edges known)) in
      subst (λ (e : Edge). IsEdge layout e.id (record { start = name; finish = e.finish })) here
      (subst (λ from. IsEdge layout first.id (record { start = from; finish = first.finish })) at (walk.1 ∙ ap Some ends))
  way_edges start finish (first ∷ edges) known walk (suc k) name edge is there =
      way_edges first.finish finish edges (All-tail (IsEdgeOf layout) first edges known) (goes_on start finish first edges known walk) k name edge is there

  -- the next edge and node of a trip are a rest of a vehicle that stands before them
  pub next_is_rest : (trip : Trip) (finish : List ℕ) → All (IsEdgeOf layout) trip.edges → IsWalk layout trip.start (ids_of trip.edges) finish
      → (k : ℕ) (name : List ℕ) → slice_get (nodes_on trip.start trip.edges) k ≡ Some name → (rest : List ℕ × List ℕ) → IsNextOf trip k rest → IsRestAt layout name (Some rest)
  next_is_rest trip finish known walk k name is rest next =
      subst (λ id. IsEdge layout id (record { start = name; finish = rest.1 })) (sym next.id)
      (subst (λ to. IsEdge layout next.edge.id (record { start = name; finish = to })) (sym next.finish)
      (way_edges trip.start finish trip.edges known walk k name next.edge is next.there))

-- ---- how many loads are picked

abbrev picks_by : Task → ℕ
picks_by task = cond (not (is_drop task.kind)) 1 0

-- it stands in the tasks
picked_by_tasks : (acts : List Act) → count_by picks acts ≡ sum_by picks_by (map task_of acts)
picked_by_tasks [] = refl
picked_by_tasks (act ∷ acts) =
    sum_by-cons (λ (a : Act). cond (picks a) 1 0) act acts
    ∙ ap (λ n. cond (picks act) 1 0 + n) (picked_by_tasks acts)
    ∙ sym (sum_by-cons picks_by (task_of act) (map task_of acts))

-- acts with the same tasks pick as many
pub same_picks : (acts others : List Act) → map task_of acts ≡ map task_of others → count_by picks acts ≡ count_by picks others
same_picks acts others same = picked_by_tasks acts ∙ ap (sum_by picks_by) same ∙ sym (picked_by_tasks others)

module _ (layout : Layout) (jobs : List Job) where
  -- the acts of a plan pick as many as its stops
  pub planned_picks : (at : List ℕ) (place : ℕ) (stops : List Stop) (edges : List Edge) (acts : List Act) → MakesStops layout jobs at place stops edges acts → count_by picks acts ≡ count_by stop_picks stops
  planned_picks at place [] edges [] makes = refl
  planned_picks at place [] edges (act ∷ acts) makes = absurd makes
  planned_picks at place (stop ∷ stops) edges [] makes = absurd makes
  planned_picks at place (stop ∷ stops) edges (act ∷ acts) makes =
      let made = makes.3.0 in
      sum_by-cons (λ (a : Act). cond (picks a) 1 0) act acts
      ∙ (λ i. cond (picks (made.does i)) 1 0 + planned_picks made.site.node (place + length makes.0) stops makes.1 acts makes.3.1 i)
      ∙ sym (sum_by-cons (λ (s : Stop). cond (stop_picks s) 1 0) stop stops)
