-- What a plan is, by the layout's routes: it takes the route from each stop to the next (this project's profile).
use Rattle.std.specs.Prelude.{◌≡◌, ℕ, ◌+◌, ◌≤◌, List, [], ◌∷◌, ◌++◌, length, All, Some}
use Rattle.agv_layout.specs.Layout.{Layout, IsStation}
use Rattle.agv_layout.specs.Walk.{IsRoute}
use Rattle.agv_layout.specs.declared.edge.Edge.{Edge}
use Rattle.agv_layout.specs.declared.station.StationSite.{StationSite}
use Rattle.agv_message_core.specs.declared.status.Status.TheVariants.{Waiting}
use Rattle.agv_stock.specs.declared.job.Job.{Job}
use Rattle.agv_order.specs.Plans.{job_named, stop_station}
use Rattle.agv_order.specs.WellFormed.{IsEdgeOf, ids_of}
use Rattle.agv_order.specs.declared.act.Act.{Act}
use Rattle.agv_order.specs.declared.stop.Stop.{Stop}
use Rattle.agv_order.specs.declared.trip.Trip.{Trip}

module _ (layout : Layout) (jobs : List Job) where
  -- these edges are the route from a node to the node of the stop's station, and the act is at their end: with the load of the stop's job, at its origin for a pick and at its target for a drop
  pub record MakesStop (at : List ℕ) (place : ℕ) (stop : Stop) (edges : List Edge) (act : Act) : Type 0 where
    pub job : Job
    pub named : job_named jobs stop.job ≡ Some job
    pub site : StationSite
    pub station : IsStation layout (stop_station stop.kind job) site
    pub route : IsRoute layout at site.node (ids_of edges)
    pub known : All (IsEdgeOf layout) edges
    pub does : act ≡ record {
      kind = stop.kind;
      job = stop.job;
      load = job.load;
      station = stop_station stop.kind job;
      place_at = place + length edges;
      status = Waiting;
    }

  -- from a node at this place of the way, the edges lead to each stop in turn, each time by the route, and the acts are those of the stops
  abbrev pub MakesStops : List ℕ → ℕ → List Stop → List Edge → List Act → Type 0
  MakesStops at place [] edges [] = edges ≡ []
  MakesStops at place [] edges (act ∷ acts) = ⊥
  MakesStops at place (stop ∷ stops) edges [] = ⊥
  MakesStops at place (stop ∷ stops) edges (act ∷ acts) =
      (stop_route : List Edge) × (rest : List Edge) × (edges ≡ stop_route ++ rest)
      × ((made : MakesStop at place stop stop_route act) × MakesStops made.site.node (place + length stop_route) stops rest acts)

  -- the trip starts at the given node and goes from stop to stop by the routes, over at most 200 edges, of which the first `base` are released
  pub record IsPlanOf (stops : List Stop) (at : List ℕ) (base : ℕ) (trip : Trip) : Type 0 where
    pub start : trip.start ≡ at
    pub goes : MakesStops at 0 stops trip.edges trip.acts
    pub short : length trip.edges ≤ 200
    pub released : trip.base ≡ base
    pub within : base ≤ length trip.edges
