-- The order message as a JSON value (VDA 5050 2.0, order; this project's profile).
use Rattle.std.specs.Prelude.{List, ℕ, [], ◌∷◌, map, codes}
use Rattle.serde_json.specs.Data.{Data}
use Rattle.agv_header.specs.Stamp.{stamp_of}
use Rattle.agv_message_json.specs.Action.{action_data, parameter}
use Rattle.agv_message_json.specs.Json.{field, object_of, list, text, whole, truth}
use Rattle.agv_message_core.specs.Order.{act_name, act_id}
use Rattle.agv_message_core.specs.declared.header.Header.{Header}
use Rattle.agv_message_core.specs.declared.order.OrderAct.{OrderAct}
use Rattle.agv_message_core.specs.declared.order.OrderEdge.{OrderEdge}
use Rattle.agv_message_core.specs.declared.order.OrderMessage.{OrderMessage}
use Rattle.agv_message_core.specs.declared.order.OrderNode.{OrderNode}

-- the parameters of an action: the station where the load is picked or dropped, and the load
abbrev pub parameters : OrderAct → List Data
parameters act =
    parameter (codes "stationType") (codes "station")
    ∷ parameter (codes "stationName") act.station
    ∷ parameter (codes "loadType") (codes "load")
    ∷ parameter (codes "loadId") act.load
    ∷ []

-- an action of the order as a JSON value
abbrev pub act_data : List ℕ → OrderAct → Data
act_data order act = action_data (act_id order act.n) (act_name act.kind) (parameters act)

-- a node with its actions, in their order
unfoldable pub node_data : List ℕ → OrderNode → Data
node_data order node = object_of (
    field "actions" (list (map (act_data order) node.acts))
    ∷ field "nodeId" (text node.id)
    ∷ field "released" (truth node.released)
    ∷ field "sequenceId" (whole node.seq)
    ∷ [])

-- an edge, which has no actions
unfoldable pub edge_data : OrderEdge → Data
edge_data edge = object_of (
    field "actions" (list [])
    ∷ field "edgeId" (text edge.id)
    ∷ field "endNodeId" (text edge.finish)
    ∷ field "released" (truth edge.released)
    ∷ field "sequenceId" (whole edge.seq)
    ∷ field "startNodeId" (text edge.start)
    ∷ [])

-- the message as a JSON object
unfoldable pub order_data : Header → OrderMessage → Data
order_data header order = object_of (
    field "edges" (list (map edge_data order.edges))
    ∷ field "headerId" (whole header.number)
    ∷ field "manufacturer" (text header.key.manufacturer)
    ∷ field "nodes" (list (map (node_data order.order) order.nodes))
    ∷ field "orderId" (text order.order)
    ∷ field "orderUpdateId" (whole order.update)
    ∷ field "serialNumber" (text header.key.serial)
    ∷ field "timestamp" (text (stamp_of header.at))
    ∷ field "version" (text (codes "2.0.0"))
    ∷ [])
