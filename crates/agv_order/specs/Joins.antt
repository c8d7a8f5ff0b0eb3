-- How a vehicle joins an order message to the order that it holds (VDA 5050 2.0, order updates).
use Rattle.std.specs.Prelude.{◌≡◌, ◌⊎◌, ◌&&◌, ◌==◌, ◌++◌, nat_eq, nat_lt, Bool, false, if◌then◌else◌, List, [], ◌∷◌, Option, None, Some, Result, Ok, Err, filter}
use Rattle.std.specs.Cmp.Lexicographic.{pointwise}
use Rattle.std.specs.List.{slice_get}
use Rattle.agv_message_core.specs.declared.order.OrderEdge.{OrderEdge}
use Rattle.agv_message_core.specs.declared.order.OrderMessage.{OrderMessage}
use Rattle.agv_message_core.specs.declared.order.OrderNode.{OrderNode}
use Rattle.agv_order.specs.declared.joins.Joined.{Joined}
use Rattle.agv_order.specs.declared.joins.Joined.TheVariants.{Taken, Same}
use Rattle.agv_order.specs.declared.joins.JoinRefusal.{JoinRefusal}
use Rattle.agv_order.specs.declared.joins.JoinRefusal.TheVariants as refusal

-- the nodes of the base: the released ones
abbrev pub base_nodes : OrderMessage → List OrderNode
base_nodes order = filter (λ (node : OrderNode). node.released) order.nodes

-- the edges of the base: the released ones
abbrev pub base_edges : OrderMessage → List OrderEdge
base_edges order = filter (λ (edge : OrderEdge). edge.released) order.edges

-- a list without its last item
abbrev pub front_of : {A : Type 0} → List A → List A
front_of [] = []
front_of (x ∷ []) = []
front_of (x ∷ (y ∷ ys)) = x ∷ front_of (y ∷ ys)

-- the last item of a list, if there is one
abbrev pub last_of : {A : Type 0} → List A → Option A
last_of [] = None
last_of (x ∷ []) = Some x
last_of (x ∷ (y ∷ ys)) = last_of (y ∷ ys)

-- both nodes have the same id and the same sequence number
abbrev pub is_same_node : OrderNode → OrderNode → Bool
is_same_node one other = pointwise nat_eq one.id other.id && one.seq == other.seq

-- both nodes are there, and the last node of the base is the first of the update: the stitching node
abbrev pub is_stitching_node : Option OrderNode → Option OrderNode → Bool
is_stitching_node None first = false
is_stitching_node (Some last) None = false
is_stitching_node (Some last) (Some first) = is_same_node last first

-- the update's first node is the last node of the base
abbrev pub is_stitched : List OrderNode → List OrderNode → Bool
is_stitched base nodes = is_stitching_node (last_of base) (slice_get nodes 0)

-- the message with the base before it: the base's nodes but the last, and the base's edges
abbrev pub stitched : OrderMessage → OrderMessage → OrderMessage
stitched held message = record message {
  nodes = front_of (base_nodes held) ++ message.nodes;
  edges = base_edges held ++ message.edges;
}

-- what a vehicle that holds an order does with a message of the same order: discards the same update, refuses an earlier one, and takes a later one that begins at the stitching node
abbrev pub update_of : OrderMessage → OrderMessage → Result Joined JoinRefusal
update_of held message =
    if held.update == message.update then Ok Same
    else (if nat_lt message.update held.update then Err refusal.Lower
    else (if is_stitched (base_nodes held) message.nodes then Ok (Taken (stitched held message))
    else Err refusal.NotStitched))

-- what a vehicle does with a message: the order that it then holds, or why it refuses the message
abbrev pub join_of : Option OrderMessage → OrderMessage → Result Joined JoinRefusal
join_of None message = if message.update == 0 then Ok (Taken message) else Err refusal.NotFirst
join_of (Some held) message =
    if pointwise nat_eq held.order message.order then update_of held message else Err refusal.OtherOrder

-- the vehicle gives the first answer; `Memory` may come in its place only if it takes an order
abbrev pub IsAnswer : Result Joined JoinRefusal → Result Joined JoinRefusal → Type 0
IsAnswer (Ok (Taken order)) given = (given ≡ Ok (Taken order)) ⊎ (given ≡ Err refusal.Memory)
IsAnswer (Ok Same) given = given ≡ Ok Same
IsAnswer (Err fault) given = given ≡ Err fault
