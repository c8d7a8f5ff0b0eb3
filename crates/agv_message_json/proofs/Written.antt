-- No value that the desk writes has a number with a fraction.
use Rattle.std.proofs.Common.{◌≡◌, ℕ, ◌+◌, ◌≤◌, List, [], ◌∷◌, false, ◌||◌, map, refl, ap, arith, lit≤}
use Rattle.serde_json.specs.Data.{Data, depth}
use Rattle.serde_json.specs.Written.{has_float}
use Rattle.agv_message_json.specs.Action.{action_data}
use Rattle.agv_message_json.specs.InstantData.{instant_data}
use Rattle.agv_message_json.specs.Json.{list}
use Rattle.agv_message_json.specs.OrderData.{act_data, edge_data, node_data, order_data}
use Rattle.agv_message_core.specs.declared.header.Header.{Header}
use Rattle.agv_message_core.specs.declared.instant.InstantMessage.{InstantMessage}
use Rattle.agv_message_core.specs.declared.order.OrderAct.{OrderAct}
use Rattle.agv_message_core.specs.declared.order.OrderEdge.{OrderEdge}
use Rattle.agv_message_core.specs.declared.order.OrderMessage.{OrderMessage}
use Rattle.agv_message_core.specs.declared.order.OrderNode.{OrderNode}

has_float-list : {A : Type 0} (f : A → Data) → ((x : A) → has_float (f x) ≡ false) → (xs : List A) → has_float (list (map f xs)) ≡ false
has_float-list f none [] = refl
has_float-list f none (x ∷ xs) = λ i. none x i || has_float-list f none xs i

has_float-act_data : (order : List ℕ) (act : OrderAct) → has_float (act_data order act) ≡ false
unfolding action_data
has_float-act_data order act = refl

has_float-node_data : (order : List ℕ) (node : OrderNode) → has_float (node_data order node) ≡ false
unfolding node_data
has_float-node_data order node =
    ap (λ b. b || false) (has_float-list (act_data order) (has_float-act_data order) node.acts)

has_float-edge_data : (edge : OrderEdge) → has_float (edge_data edge) ≡ false
unfolding edge_data
has_float-edge_data edge = refl

pub has_float-order_data : (header : Header) (order : OrderMessage) → has_float (order_data header order) ≡ false
unfolding order_data
has_float-order_data header order =
    let edges = has_float-list edge_data has_float-edge_data order.edges in
    let nodes = has_float-list (node_data order.order) (has_float-node_data order.order) order.nodes in
    λ i. edges i || (nodes i || false)

pub has_float-instant_data : (header : Header) (message : InstantMessage) → has_float (instant_data header message) ≡ false
unfolding action_data instant_data
has_float-instant_data header message = refl

-- None is nested deeper than JSON's reader allows.
depth-list : {A : Type 0} (f : A → Data) (k : ℕ) → ((x : A) → depth (f x) ≤ k) → (xs : List A) → depth (list (map f xs)) ≤ k + 1
depth-list f k below [] = omega arith
depth-list f k below (x ∷ xs) = omega (arith, below x, depth-list f k below xs)

depth-act_data : (order : List ℕ) (act : OrderAct) → depth (act_data order act) ≤ 3
unfolding action_data
depth-act_data order act = lit≤ tt

depth-node_data : (order : List ℕ) (node : OrderNode) → depth (node_data order node) ≤ 5
unfolding node_data
depth-node_data order node =
    omega (arith, depth-list (act_data order) 3 (depth-act_data order) node.acts)

depth-edge_data : (edge : OrderEdge) → depth (edge_data edge) ≤ 5
unfolding edge_data
depth-edge_data edge = lit≤ tt

pub depth-order_data : (header : Header) (order : OrderMessage) → depth (order_data header order) ≤ 127
unfolding order_data
depth-order_data header order =
    let edges = depth-list edge_data 5 depth-edge_data order.edges in
    let nodes = depth-list (node_data order.order) 5 (depth-node_data order.order) order.nodes in
    omega arith

pub depth-instant_data : (header : Header) (message : InstantMessage) → depth (instant_data header message) ≤ 127
unfolding action_data instant_data
depth-instant_data header message = lit≤ tt
