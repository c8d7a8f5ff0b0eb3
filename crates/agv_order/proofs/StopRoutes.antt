-- The routes of a plan, stop by stop.
use Rattle.std.proofs.Common.{◌≡◌, ℕ, ◌+◌, ◌<◌, ◌≤◌, get_or, take, List, [], ◌∷◌, ◌++◌, length, Option, None, Some, refl, sym, ap, subst, ◌∙◌, append-nil, append_assoc}
use Rattle.std.specs.Option.{option_map, option_and_then}
use Rattle.agv_layout.specs.Layout.{Layout}
use Rattle.agv_stock.specs.declared.job.Job.{Job}
use Rattle.std.proofs.lemmas.List.Folds.{length-flat_map-take}
use Rattle.agv_order.specs.Plans.{stop_route_to, stop_routes_to, way_of}
use Rattle.agv_order.specs.declared.stop_route.StopRoute.{StopRoute}
use Rattle.agv_order.specs.declared.stop.Stop.{Stop}

-- these routes, and then the others if there are any
abbrev pub after : List StopRoute → Option (List StopRoute) → Option (List StopRoute)
after stop_routes others = option_map (λ (rest : List StopRoute). stop_routes ++ rest) others

-- one route more
abbrev with_route : StopRoute → Option (List StopRoute) → Option (List StopRoute)
with_route stop_route others = option_map (λ (stop_routes : List StopRoute). stop_route ∷ stop_routes) others

after-with_route : (stop_routes : List StopRoute) (stop_route : StopRoute) (others : Option (List StopRoute)) → after stop_routes (with_route stop_route others) ≡ after (stop_routes ++ stop_route ∷ []) others
after-with_route stop_routes stop_route None = refl
after-with_route stop_routes stop_route (Some rest) = ap Some (sym (append_assoc stop_routes (stop_route ∷ []) rest))

module _ (layout : Layout) (jobs : List Job) where
  -- the routes to this stop and the others: the route that is there, and those from its end
  pub after-more : (stop_routes : List StopRoute) (at : List ℕ) (stop : Stop) (stops : List Stop) (stop_route : StopRoute) → stop_route_to layout jobs at stop ≡ Some stop_route
      → after stop_routes (stop_routes_to layout jobs at (stop ∷ stops)) ≡ after (stop_routes ++ stop_route ∷ []) (stop_routes_to layout jobs stop_route.goal stops)
  after-more stop_routes at stop stops stop_route e =
      ap (λ o. after stop_routes (option_and_then (λ (one : StopRoute). with_route one (stop_routes_to layout jobs one.goal stops)) o)) e
      ∙ after-with_route stop_routes stop_route (stop_routes_to layout jobs stop_route.goal stops)

  -- none where there is no route to this stop
  pub after-none : (stop_routes : List StopRoute) (at : List ℕ) (stop : Stop) (stops : List Stop) → stop_route_to layout jobs at stop ≡ None
      → after stop_routes (stop_routes_to layout jobs at (stop ∷ stops)) ≡ None
  after-none stop_routes at stop stops e =
      ap (λ o. after stop_routes (option_and_then (λ (one : StopRoute). with_route one (stop_routes_to layout jobs one.goal stops)) o)) e

-- all routes are there
pub after-all : (stop_routes : List StopRoute) → after stop_routes (Some []) ≡ Some stop_routes
after-all stop_routes = ap Some (append-nil stop_routes)

-- the routes up to one and that one are no longer than all
pub place_within : (stop_routes : List StopRoute) (i : ℕ) (stop_route : StopRoute) → i < length stop_routes → stop_route ≡ get_or stop_routes i stop_route
    → length (way_of (take i stop_routes)) + length stop_route.edges ≤ length (way_of stop_routes)
place_within stop_routes i stop_route h e =
    let P : StopRoute → Type 0 = λ (one : StopRoute). length (way_of (take i stop_routes)) + length one.edges ≤ length (way_of stop_routes) in
    subst P (sym e) (length-flat_map-take (λ (one : StopRoute). one.edges) stop_routes i stop_route h)
