-- The texts of messages, put together.
use Rattle.std.proofs.Common.{◌≡◌, true, List, [], ◌∷◌, ◌++◌, ℕ, refl, sym, ap, ◌∙◌, append_assoc, codes, map}
use Rattle.json.specs.Print.{escape, escape_byte}
use Rattle.serde_json.specs.Data.{Data}
use Rattle.serde_json.specs.View.{items_of}
use Rattle.serde_json.specs.Written.{compact_text, items_text}
use Rattle.agv_header.specs.Stamp.{stamp_of}
use Rattle.agv_message_json.specs.Action.{action_data}
use Rattle.agv_message_core.specs.Instant.{instant_id, instant_name}
use Rattle.agv_message_json.specs.InstantData.{instant_data}
use Rattle.agv_message_json.specs.Json.{list, text, truth, whole}
use Rattle.agv_message_core.specs.Order.{act_id, act_name}
use Rattle.agv_message_json.specs.OrderData.{act_data, edge_data, node_data, order_data}
use Rattle.agv_message_core.specs.declared.header.Header.{Header}
use Rattle.agv_message_core.specs.declared.instant.InstantMessage.{InstantMessage}
use Rattle.agv_message_core.specs.declared.order.ActKind.{ActKind}
use Rattle.agv_message_core.specs.declared.order.ActKind.TheVariants.{Pick, Drop}
use Rattle.agv_message_core.specs.declared.order.OrderAct.{OrderAct}
use Rattle.agv_message_core.specs.declared.order.OrderEdge.{OrderEdge}
use Rattle.agv_message_core.specs.declared.order.OrderMessage.{OrderMessage}
use Rattle.agv_message_core.specs.declared.order.OrderNode.{OrderNode}
use Rattle.agv_message_json.specs.Pieces.{more_values, node_front, node_end, order_front, order_middle, order_end}

-- ---- arrays

-- the rest of an array
module _ {A : Type 0} (data_of : A → Data) where
  more_values-items : (xs : List A) → more_values data_of xs ++ 93 ∷ [] ≡ items_text true (items_of (map data_of xs))
  more_values-items [] = refl
  more_values-items (x ∷ xs) =
      append_assoc (44 ∷ compact_text (data_of x)) (more_values data_of xs) (93 ∷ [])
      ∙ ap (λ (l : List ℕ). 44 ∷ (compact_text (data_of x) ++ l)) (more_values-items xs)

  -- an array, of which this is the first value
  pub values_text : (first : A) (more xs : List A) → xs ≡ first ∷ more
      → (91 ∷ compact_text (data_of first)) ++ (more_values data_of more ++ 93 ∷ []) ≡ compact_text (list (map data_of xs))
  values_text first more xs is =
      ap (λ (l : List ℕ). 91 ∷ (compact_text (data_of first) ++ l)) (more_values-items more)
      ∙ ap (λ (all : List A). compact_text (list (map data_of all))) (sym is)

-- ---- an action

escape-act_name : (kind : ActKind) → escape (act_name kind) ≡ act_name kind
unfolding escape_byte
escape-act_name Pick = refl
escape-act_name Drop = refl

-- ---- an instantActions message

-- the members of its action, of which these are the values, and what follows the array
nested : (a b r : List ℕ)
    → a ++ (codes ",\"actionParameters\":[],\"actionType\":" ++ (b ++ (codes ",\"blockingType\":\"HARD\"}]" ++ r)))
    ≡ ((a ++ (codes ",\"actionParameters\":[],\"actionType\":" ++ (b ++ codes ",\"blockingType\":\"HARD\"}"))) ++ 93 ∷ []) ++ r
nested a b r =
    let kind : List ℕ = b ++ codes ",\"blockingType\":\"HARD\"}" in
    let members : List ℕ = a ++ (codes ",\"actionParameters\":[],\"actionType\":" ++ kind) in
    sym (append_assoc members (93 ∷ []) r
    ∙ append_assoc a (codes ",\"actionParameters\":[],\"actionType\":" ++ kind) (93 ∷ r)
    ∙ ap (λ (l : List ℕ). a ++ (codes ",\"actionParameters\":[],\"actionType\":" ++ l)) (append_assoc b (codes ",\"blockingType\":\"HARD\"}") (93 ∷ r)))

-- what follows the actions
abbrev pub instant_rest : Header → ℕ → List ℕ
instant_rest header n =
    codes ",\"headerId\":" ++ (compact_text (whole n)
    ++ (codes ",\"manufacturer\":" ++ (compact_text (text header.key.manufacturer)
    ++ (codes ",\"serialNumber\":" ++ (compact_text (text header.key.serial)
    ++ (codes ",\"timestamp\":" ++ (compact_text (text (stamp_of header.at)) ++ codes ",\"version\":\"2.0.0\"}")))))))

pub instant_text : (header : Header) (instant : InstantMessage) (n : ℕ) → n ≡ header.number
    → codes "{\"actions\":[{\"actionId\":" ++ (compact_text (text (instant_id header.number)) ++ (codes ",\"actionParameters\":[],\"actionType\":"
    ++ (compact_text (text (instant_name instant.kind)) ++ (codes ",\"blockingType\":\"HARD\"}]" ++ instant_rest header n))))
    ≡ compact_text (instant_data header instant)
unfolding escape_byte action_data instant_data
instant_text header instant n is =
    ap (λ (m : ℕ). codes "{\"actions\":[{\"actionId\":" ++ (compact_text (text (instant_id header.number)) ++ (codes ",\"actionParameters\":[],\"actionType\":"
    ++ (compact_text (text (instant_name instant.kind)) ++ (codes ",\"blockingType\":\"HARD\"}]" ++ instant_rest header m))))) is
    ∙ ap (λ (l : List ℕ). codes "{\"actions\":[{\"actionId\":" ++ l) (nested (compact_text (text (instant_id header.number))) (compact_text (text (instant_name instant.kind))) (instant_rest header header.number))

-- ---- an action of an order

-- the parameters, of which these are the values, and what follows them
parameters_text : (a b r : List ℕ)
    → a ++ (codes "},{\"key\":\"loadType\",\"value\":\"load\"},{\"key\":\"loadId\",\"value\":" ++ (b ++ (codes "}]" ++ r)))
    ≡ ((a ++ codes "}") ++ (codes ",{\"key\":\"loadType\",\"value\":\"load\"},{\"key\":\"loadId\",\"value\":" ++ ((b ++ codes "}") ++ codes "]"))) ++ r
parameters_text a b r =
    let last : List ℕ = codes ",{\"key\":\"loadType\",\"value\":\"load\"},{\"key\":\"loadId\",\"value\":" ++ ((b ++ codes "}") ++ codes "]") in
    let inner : ((b ++ codes "}") ++ codes "]") ++ r ≡ b ++ (codes "}]" ++ r) = append_assoc (b ++ codes "}") (codes "]") r ∙ append_assoc b (codes "}") (93 ∷ r) in
    sym (append_assoc (a ++ codes "}") last r ∙ append_assoc a (codes "}") (last ++ r)
    ∙ ap (λ (l : List ℕ). a ++ (codes "},{\"key\":\"loadType\",\"value\":\"load\"},{\"key\":\"loadId\",\"value\":" ++ l)) inner)

pub act_text : (before order : List ℕ) (act : OrderAct) (kind : List ℕ) → kind ≡ act_name act.kind
    → before ++ (codes "{\"actionId\":" ++ (compact_text (text (act_id order act.n))
    ++ (codes ",\"actionParameters\":[{\"key\":\"stationType\",\"value\":\"station\"},{\"key\":\"stationName\",\"value\":" ++ (compact_text (text act.station)
    ++ (codes "},{\"key\":\"loadType\",\"value\":\"load\"},{\"key\":\"loadId\",\"value\":" ++ (compact_text (text act.load)
    ++ (codes "}],\"actionType\":\"" ++ (kind ++ codes "\",\"blockingType\":\"HARD\"}"))))))))
    ≡ before ++ compact_text (act_data order act)
unfolding escape_byte action_data
act_text before order act kind is =
    let plain : kind ≡ escape (act_name act.kind) = is ∙ sym (escape-act_name act.kind) in
    let front : List ℕ → List ℕ = λ l. before ++ (codes "{\"actionId\":" ++ (compact_text (text (act_id order act.n))
    ++ (codes ",\"actionParameters\":[{\"key\":\"stationType\",\"value\":\"station\"},{\"key\":\"stationName\",\"value\":" ++ l))) in
    let middle : List ℕ → List ℕ = λ l. compact_text (text act.station)
    ++ (codes "},{\"key\":\"loadType\",\"value\":\"load\"},{\"key\":\"loadId\",\"value\":" ++ (compact_text (text act.load) ++ (codes "}],\"actionType\":\"" ++ l))) in
    let named : kind ++ codes "\",\"blockingType\":\"HARD\"}" ≡ (escape (act_name act.kind) ++ codes "\"") ++ codes ",\"blockingType\":\"HARD\"}" =
    ap (λ (l : List ℕ). l ++ codes "\",\"blockingType\":\"HARD\"}") plain ∙ sym (append_assoc (escape (act_name act.kind)) (codes "\"") (codes ",\"blockingType\":\"HARD\"}")) in
    let rest : List ℕ = codes ",\"actionType\":\"" ++ ((escape (act_name act.kind) ++ codes "\"") ++ codes ",\"blockingType\":\"HARD\"}") in
    ap (λ (l : List ℕ). front (middle l)) named ∙ ap front (parameters_text (compact_text (text act.station)) (compact_text (text act.load)) rest)

-- ---- an edge and a node

pub edge_text : (before : List ℕ) (edge : OrderEdge) (n : ℕ) → n ≡ edge.seq
    → before ++ (codes "{\"actions\":[],\"edgeId\":" ++ (compact_text (text edge.id)
    ++ (codes ",\"endNodeId\":" ++ (compact_text (text edge.finish)
    ++ (codes ",\"released\":" ++ (compact_text (truth edge.released)
    ++ (codes ",\"sequenceId\":" ++ (compact_text (whole n)
    ++ (codes ",\"startNodeId\":" ++ (compact_text (text edge.start) ++ codes "}"))))))))))
    ≡ before ++ compact_text (edge_data edge)
unfolding escape_byte edge_data
edge_text before edge n is =
    ap (λ (m : ℕ). before ++ (codes "{\"actions\":[],\"edgeId\":" ++ (compact_text (text edge.id)
    ++ (codes ",\"endNodeId\":" ++ (compact_text (text edge.finish)
    ++ (codes ",\"released\":" ++ (compact_text (truth edge.released)
    ++ (codes ",\"sequenceId\":" ++ (compact_text (whole m)
    ++ (codes ",\"startNodeId\":" ++ (compact_text (text edge.start) ++ codes "}"))))))))))) is

pub node_text : (before order : List ℕ) (node : OrderNode)
    → node_front before ++ (compact_text (list (map (act_data order) node.acts)) ++ node_end node) ≡ before ++ compact_text (node_data order node)
unfolding escape_byte node_data
node_text before order node = append_assoc before (codes "{\"actions\":") (compact_text (list (map (act_data order) node.acts)) ++ node_end node)

-- ---- an order

pub order_text : (header : Header) (order : OrderMessage)
    → order_front order.edges ++ (order_middle header ++ (compact_text (list (map (node_data order.order) order.nodes)) ++ order_end header order))
    ≡ compact_text (order_data header order)
unfolding escape_byte order_data
order_text header order =
    let nodes : List ℕ = compact_text (list (map (node_data order.order) order.nodes)) ++ order_end header order in
    let number : List ℕ = compact_text (whole header.number) in
    let name : List ℕ = compact_text (text header.key.manufacturer) in
    let edges : List ℕ = compact_text (list (map edge_data order.edges)) in
    let middle : order_middle header ++ nodes ≡ codes ",\"headerId\":" ++ (number ++ (codes ",\"manufacturer\":" ++ (name ++ (codes ",\"nodes\":" ++ nodes)))) =
    ap (λ (l : List ℕ). codes ",\"headerId\":" ++ l)
    (append_assoc number (codes ",\"manufacturer\":" ++ (name ++ codes ",\"nodes\":")) nodes
    ∙ ap (λ (l : List ℕ). number ++ (codes ",\"manufacturer\":" ++ l)) (append_assoc name (codes ",\"nodes\":") nodes)) in
    append_assoc (codes "{\"edges\":") edges (order_middle header ++ nodes) ∙ ap (λ (l : List ℕ). codes "{\"edges\":" ++ (edges ++ l)) middle
