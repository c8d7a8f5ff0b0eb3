-- The pieces of an order or instantActions message. No public clause cites this.
use Rattle.std.specs.Prelude.{ℕ, List, ◌∷◌, ◌++◌, codes, map}
use Rattle.std.specs.List.{flat_map}
use Rattle.serde_json.specs.Data.{Data}
use Rattle.serde_json.specs.Written.{compact_text}
use Rattle.agv_header.specs.Stamp.{stamp_of}
use Rattle.agv_message_core.specs.Instant.{instant_id, instant_name}
use Rattle.agv_message_json.specs.Json.{list, text, truth, whole}
use Rattle.agv_message_core.specs.Order.{act_id}
use Rattle.agv_message_json.specs.OrderData.{edge_data}
use Rattle.agv_message_core.specs.declared.header.Header.{Header}
use Rattle.agv_message_core.specs.declared.order.OrderEdge.{OrderEdge}
use Rattle.agv_message_core.specs.declared.order.OrderMessage.{OrderMessage}
use Rattle.agv_message_core.specs.declared.order.OrderNode.{OrderNode}
use Rattle.agv_message_json.specs.declared.piece.Piece.{Piece}
use Rattle.agv_message_json.specs.declared.piece.Piece.TheVariants as piece

-- values as JSON, each after a comma
abbrev pub more_values : {A : Type 0} → (A → Data) → List A → List ℕ
more_values data_of = flat_map (λ x. 44 ∷ compact_text (data_of x))

-- the bytes of a piece
abbrev pub piece_text : Piece → List ℕ
piece_text (piece.Text text) = text.now
piece_text (piece.Number n) = compact_text (whole n)
piece_text (piece.Truth is_so) = compact_text (truth is_so)
piece_text (piece.Name name) = compact_text (text name.now)
piece_text (piece.Kind kind) = compact_text (text (instant_name kind))
piece_text (piece.ActionId n) = compact_text (text (instant_id n))
piece_text (piece.ActId order n) = compact_text (text (act_id order.now n))
piece_text (piece.Stamp at) = compact_text (text (stamp_of at))

-- the bytes of a node before its actions, after the given bytes
abbrev pub node_front : List ℕ → List ℕ
node_front before = before ++ codes "{\"actions\":"

-- the bytes of a node after its actions
abbrev pub node_end : OrderNode → List ℕ
node_end node =
    codes ",\"nodeId\":" ++ (compact_text (text node.id)
    ++ (codes ",\"released\":" ++ (compact_text (truth node.released)
    ++ (codes ",\"sequenceId\":" ++ (compact_text (whole node.seq) ++ codes "}")))))

-- the bytes of an order up to its edges
abbrev pub order_front : List OrderEdge → List ℕ
order_front edges = codes "{\"edges\":" ++ compact_text (list (map edge_data edges))

-- the bytes between the edges and the nodes
abbrev pub order_middle : Header → List ℕ
order_middle header =
    codes ",\"headerId\":" ++ (compact_text (whole header.number)
    ++ (codes ",\"manufacturer\":" ++ (compact_text (text header.key.manufacturer) ++ codes ",\"nodes\":")))

-- the bytes after the nodes
abbrev pub order_end : Header → OrderMessage → List ℕ
order_end header order =
    codes ",\"orderId\":" ++ (compact_text (text order.order)
    ++ (codes ",\"orderUpdateId\":" ++ (compact_text (whole order.update)
    ++ (codes ",\"serialNumber\":" ++ (compact_text (text header.key.serial)
    ++ (codes ",\"timestamp\":" ++ (compact_text (text (stamp_of header.at)) ++ codes ",\"version\":\"2.0.0\"}")))))))
