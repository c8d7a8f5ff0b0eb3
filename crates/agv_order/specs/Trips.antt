-- The way of a trip, and the part of a trip that never changes (VDA 5050 2.0, order).
use Rattle.std.specs.Prelude.{ℕ, List, ◌∷◌, map, Option}
use Rattle.std.specs.List.{slice_get}
use Rattle.agv_layout.specs.declared.edge.Edge.{Edge}
use Rattle.agv_message_core.specs.declared.order.ActKind.{ActKind}
use Rattle.agv_order.specs.declared.act.Act.{Act}
use Rattle.agv_order.specs.declared.stop.Stop.{Stop}
use Rattle.agv_order.specs.declared.trip.Trip.{Trip}

-- an act without its status, the only part of it that changes
pub record Task : Type 0 where
  pub kind : ActKind
  pub job : List ℕ
  pub load : List ℕ
  pub station : List ℕ
  pub place_at : ℕ

-- the task of an act
abbrev pub task_of : Act → Task
task_of act = record { kind = act.kind; job = act.job; load = act.load; station = act.station; place_at = act.place_at }

-- the stop of a task
abbrev pub stop_of : Task → Stop
stop_of task = record { kind = task.kind; job = task.job }

-- the part of a trip that never changes: its start, its edges, and its tasks on the way
pub record Plan : Type 0 where
  pub start : List ℕ
  pub edges : List Edge
  pub tasks : List Task

-- the plan of a trip
abbrev pub plan_of : Trip → Plan
plan_of trip = record { start = trip.start; edges = trip.edges; tasks = map task_of trip.acts }

-- the nodes of a way: the start, and then the finish of each edge
abbrev pub nodes_on : List ℕ → List Edge → List (List ℕ)
nodes_on start edges = start ∷ map (λ (edge : Edge). edge.finish) edges

-- the nodes of a trip
abbrev pub nodes_of : Trip → List (List ℕ)
nodes_of trip = nodes_on trip.start trip.edges

-- node k of a trip's way; none past its end
abbrev pub node_at : Trip → ℕ → Option (List ℕ)
node_at trip k = slice_get (nodes_of trip) k
