-- The plan of a trip: from the vehicle's node to the node of each stop in turn (this project's profile).
use Rattle.std.specs.Prelude.{ℕ, ◌+◌, nat_eq, nat_lt, if◌then◌else◌, List, [], ◌∷◌, length, find, Option, None, Some, Result, Ok, Err}
use Rattle.std.specs.Option.{option_map, option_and_then}
use Rattle.std.specs.List.{filter_map, flat_map}
use Rattle.std.specs.FinMap as finite
use Rattle.std.specs.Cmp.Lexicographic.{pointwise}
use Rattle.agv_header.specs.declared.key.VehicleKey.{VehicleKey}
use Rattle.agv_layout.specs.Layout.{Layout, edge_of}
use Rattle.agv_layout.specs.declared.edge.Edge.{Edge}
use Rattle.agv_layout.specs.declared.station.StationSite.{StationSite}
use Rattle.agv_message_core.specs.declared.order.ActKind.{ActKind}
use Rattle.agv_message_core.specs.declared.order.ActKind.TheVariants.{Pick, Drop}
use Rattle.agv_message_core.specs.declared.status.Status.TheVariants.{Waiting}
use Rattle.agv_stock.specs.declared.job.Job.{Job}
use Rattle.agv_layout.specs.RouteOf.{route_of}
use Rattle.agv_order.specs.declared.act.Act.{Act}
use Rattle.agv_order.specs.declared.fault.PlanFault.{PlanFault}
use Rattle.agv_order.specs.declared.fault.PlanFault.TheVariants as fault
use Rattle.agv_order.specs.declared.stop_route.StopRoute.{StopRoute}
use Rattle.agv_order.specs.declared.stop.Stop.{Stop}
use Rattle.agv_order.specs.declared.trip.Trip.{Trip}

-- the first job of this name
abbrev pub job_named : List Job → List ℕ → Option Job
job_named jobs name = find (λ (job : Job). pointwise nat_eq job.name name) jobs

-- the station of a stop: the job's origin for a pick, its target for a drop
abbrev pub stop_station : ActKind → Job → List ℕ
stop_station Pick job = job.origin
stop_station Drop job = job.target

-- the edges of these names that the layout has
abbrev pub edges_named : Layout → List (List ℕ) → List Edge
edges_named layout ids = filter_map (λ id. option_map (edge_of id) (finite.get layout.edges id)) ids

-- the stop route with this stop, job, goal node and edges
abbrev pub stop_route_over : Layout → Stop → Job → List ℕ → List (List ℕ) → StopRoute
stop_route_over layout stop job goal ids = record { stop = stop; job = job; goal = goal; edges = edges_named layout ids }

-- the stop route for a stop of a job: the layout's route from a node to the node of the stop's station
abbrev pub stop_route_for : Layout → List ℕ → Stop → Job → Option StopRoute
stop_route_for layout at stop job =
    option_and_then (λ (site : StationSite). option_map (stop_route_over layout stop job site.node) (route_of layout at site.node)) (finite.get layout.stations (stop_station stop.kind job))

-- the route to a stop; none if its job or its station is unknown, or no walk leads there
unfoldable pub stop_route_to : Layout → List Job → List ℕ → Stop → Option StopRoute
stop_route_to layout jobs at stop = option_and_then (stop_route_for layout at stop) (job_named jobs stop.job)

-- the routes from a node to each stop in turn; none if one of them does not exist
abbrev pub stop_routes_to : Layout → List Job → List ℕ → List Stop → Option (List StopRoute)
stop_routes_to layout jobs at [] = Some []
stop_routes_to layout jobs at (stop ∷ stops) =
    option_and_then (λ (stop_route : StopRoute). option_map (λ (stop_routes : List StopRoute). stop_route ∷ stop_routes) (stop_routes_to layout jobs stop_route.goal stops)) (stop_route_to layout jobs at stop)

-- the edges of all routes, one after another
abbrev pub way_of : List StopRoute → List Edge
way_of stop_routes = flat_map (λ (stop_route : StopRoute). stop_route.edges) stop_routes

-- the act at the end of a route, at this place of the way: with the load of its job, at its stop's station, not yet begun
abbrev pub act_at : StopRoute → ℕ → Act
act_at stop_route place = record {
  kind = stop_route.stop.kind;
  job = stop_route.stop.job;
  load = stop_route.job.load;
  station = stop_station stop_route.stop.kind stop_route.job;
  place_at = place;
  status = Waiting;
}

-- the acts at the ends of the routes, of which the first starts at this place of the way
abbrev pub acts_along : ℕ → List StopRoute → List Act
acts_along from [] = []
acts_along from (stop_route ∷ stop_routes) = act_at stop_route (from + length stop_route.edges) ∷ acts_along (from + length stop_route.edges) stop_routes

module _ (vehicle : VehicleKey) (order : List ℕ) (at : List ℕ) (base : ℕ) where
  -- the trip over these routes, as it begins: nothing is confirmed
  abbrev pub trip_over : List StopRoute → Trip
  trip_over stop_routes = record {
    order = order;
    vehicle = vehicle;
    start = at;
    edges = way_of stop_routes;
    first = 0;
    base = base;
    sent = 0;
    confirmed = None;
    seen = 0;
    acts = acts_along 0 stop_routes;
  }

  -- the trip over these routes, or why there is none: a missing route, more than 200 edges, or a base past the end
  abbrev pub trip_along : Option (List StopRoute) → Result Trip PlanFault
  trip_along None = Err fault.NoWalk
  trip_along (Some stop_routes) =
      if nat_lt 200 (length (way_of stop_routes)) then Err fault.TooLong
      else (if nat_lt (length (way_of stop_routes)) base then Err fault.Beyond
      else Ok (trip_over stop_routes))

-- the trip of a vehicle at a node that makes these stops for these jobs, with the first `base` edges released, or why there is none
abbrev pub planned : Layout → VehicleKey → List Job → List Stop → List ℕ → List ℕ → ℕ → Result Trip PlanFault
planned layout vehicle jobs stops order at base = trip_along vehicle order at base (stop_routes_to layout jobs at stops)
