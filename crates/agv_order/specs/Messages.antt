-- The order message of a trip (VDA 5050 2.0, order: sequenceId, base, horizon; this project's profile).
use Rattle.std.specs.Prelude.{ℕ, ◌+◌, ◌*◌, ◌==◌, nat_le, nat_lt, List, map, filter, drop}
use Rattle.std.specs.List.{enumerate_from}
use Rattle.agv_layout.specs.declared.edge.Edge.{Edge}
use Rattle.agv_message_core.specs.declared.order.OrderAct.{OrderAct}
use Rattle.agv_message_core.specs.declared.order.OrderEdge.{OrderEdge}
use Rattle.agv_message_core.specs.declared.order.OrderMessage.{OrderMessage}
use Rattle.agv_message_core.specs.declared.order.OrderNode.{OrderNode}
use Rattle.agv_order.specs.Trips.{nodes_of}
use Rattle.agv_order.specs.declared.act.Act.{Act}
use Rattle.agv_order.specs.declared.trip.Trip.{Trip}

-- act n as an action of the message
abbrev pub order_act : ℕ × Act → OrderAct
order_act numbered = record { n = numbered.0; kind = numbered.1.kind; station = numbered.1.station; load = numbered.1.load }

-- the actions at place k of the way, in their order
abbrev pub acts_at : List Act → ℕ → List OrderAct
acts_at acts k = map order_act (filter (λ (numbered : ℕ × Act). numbered.1.place_at == k) (enumerate_from 0 acts))

-- node k of the way: it has the sequence number 2k, is released up to the base, and has its actions
abbrev pub order_node : Trip → ℕ × List ℕ → OrderNode
order_node trip numbered = record {
  id = numbered.1;
  seq = 2 * numbered.0;
  released = nat_le numbered.0 trip.base;
  acts = acts_at trip.acts numbered.0;
}

-- edge k, from node k to node k + 1: it has the sequence number 2k + 1, and is released if node k + 1 is
abbrev pub order_edge : Trip → ℕ × Edge → OrderEdge
order_edge trip numbered = record {
  id = numbered.1.id;
  start = numbered.1.start;
  finish = numbered.1.finish;
  seq = 2 * numbered.0 + 1;
  released = nat_lt numbered.0 trip.base;
}

-- all nodes of the trip
abbrev pub order_nodes : Trip → List OrderNode
order_nodes trip = map (order_node trip) (enumerate_from 0 (nodes_of trip))

-- all edges of the trip
abbrev pub order_edges : Trip → List OrderEdge
order_edges trip = map (order_edge trip) (enumerate_from 0 trip.edges)

-- the whole order as it stands: all nodes and edges, and the number of the last update
abbrev pub whole_of : Trip → OrderMessage
whole_of trip = record { order = trip.order; update = trip.sent; nodes = order_nodes trip; edges = order_edges trip }

-- the last message: the nodes and edges from node `first` on, which is the stitching node of an update
abbrev pub message_of : Trip → OrderMessage
message_of trip = record {
  order = trip.order;
  update = trip.sent;
  nodes = drop trip.first (order_nodes trip);
  edges = drop trip.first (order_edges trip);
}
