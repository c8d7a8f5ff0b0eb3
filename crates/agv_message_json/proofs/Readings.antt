-- Values that are read back from their texts.
use Rattle.std.proofs.Common.{◌≡◌, ◌≤◌, ◌<◌, ◌^◌, ℕ, suc, List, [], ◌∷◌, ◌++◌, length, Bool, true, false, Some, Ok, Err, All, Result, OnOk, IsUtf8, codes, decimal, map, max, option_map, option_and_then, refl, sym, ap, ap₂, ◌∙◌, subst, arith, append-nil}
use Rattle.std.specs.Prelude.{⊤}
use Rattle.std.proofs.lemmas.List.Elements.{All-nil, All-cons, All-head, All-tail, All-map}
use Rattle.std.proofs.lemmas.Fmt.{IsAscii-decimal}
use Rattle.std.proofs.lemmas.Str.{IsUtf8-append, IsUtf8-nil, IsUtf8-from_ascii}
use Rattle.json.specs.Json.{value, if_last}
use Rattle.json.specs.Lex.{tokens}
use Rattle.json.specs.Print.{quoted}
use Rattle.json.specs.Token.{Token}
use Rattle.json.specs.Tree.{json_tokens, ItemsHaveNumbers, MembersHaveNumbers}
use Rattle.json.specs.Tree as tree
use Rattle.json.proofs.Printed.Decimals.{IsNumber-decimal}
use Rattle.json.proofs.Printed.Tokens.{tokens-print}
use Rattle.json.proofs.Printed.Trees.{value-json_tokens, ArePrintable-json_tokens}
use Rattle.json.proofs.Printed.Utf8.{IsUtf8-are_ascii, IsUtf8-boolean, IsUtf8-quoted, are_ascii}
use Rattle.serde_json.specs.Data.{Data, null, boolean, number, string, array, object, Items, no_items, item, Members, no_members, member, put, depth, items_depth, members_depth}
use Rattle.serde_json.specs.Read.{of_json, of_items, of_members, read, max_depth}
use Rattle.serde_json.specs.View.{items_of}
use Rattle.serde_json.specs.Written.{comma_if, compact_text, has_float, items_outline, items_text, members_outline, members_text, outline}
use Rattle.serde_json.proofs.Numbers.{number_of-decimal}
use Rattle.serde_json.proofs.Texts.{print-outline}
use Rattle.agv_header.specs.Name.{IsName, IsUtf8-name}
use Rattle.agv_header.specs.Stamp.{stamp_of}
use Rattle.agv_header.specs.declared.memory.Memory.{Memory}
use Rattle.agv_message_json.specs.Action.{action_data, parameter}
use Rattle.agv_message_json.specs.Body.{body_of}
use Rattle.agv_message_core.specs.Instant.{instant_id, instant_name}
use Rattle.agv_message_json.specs.InstantData.{instant_act_data, instant_data}
use Rattle.agv_message_json.specs.Json.{Field, field, in_order, list, object_of, text, truth, whole}
use Rattle.agv_message_core.specs.Order.{act_id, act_name}
use Rattle.agv_message_json.specs.OrderData.{act_data, edge_data, node_data, order_data, parameters}
use Rattle.agv_message_json.specs.Readable.{IsReadable, PieceIsReadable, PiecesAreReadable}
use Rattle.agv_message_core.specs.declared.header.Header.{Header}
use Rattle.agv_message_core.specs.declared.instant.InstantKind.{InstantKind}
use Rattle.agv_message_core.specs.declared.instant.InstantKind.TheVariants.{StartPause, StopPause, CancelOrder}
use Rattle.agv_message_core.specs.declared.instant.InstantMessage.{InstantMessage}
use Rattle.agv_message_core.specs.declared.order.ActKind.{ActKind}
use Rattle.agv_message_core.specs.declared.order.ActKind.TheVariants.{Pick, Drop}
use Rattle.agv_message_core.specs.declared.order.OrderAct.{OrderAct}
use Rattle.agv_message_core.specs.declared.order.OrderEdge.{OrderEdge}
use Rattle.agv_message_core.specs.declared.order.OrderMessage.{OrderMessage}
use Rattle.agv_message_core.specs.declared.order.OrderNode.{OrderNode}
use Rattle.agv_message_json.specs.declared.piece.Piece.{Piece}
use Rattle.agv_message_json.proofs.Bodies.{body-read}
use Rattle.agv_message_json.proofs.Written.{depth-instant_data, depth-order_data, has_float-instant_data, has_float-order_data}

-- ---- a text, a number and a truth value

pub text-readable : (s : List ℕ) → IsUtf8 s → IsReadable (text s)
text-readable s u = record { utf8 = IsUtf8-quoted s u; numbers = tt; reads_back = refl }

pub whole-readable : (n : ℕ) → n < 2 ^ 64 → IsReadable (whole n)
whole-readable n h = record { utf8 = IsUtf8-from_ascii (decimal n) (IsAscii-decimal n h); numbers = IsNumber-decimal n h; reads_back = ap (option_map number) (number_of-decimal n h) }

pub truth-readable : (b : Bool) → IsReadable (truth b)
truth-readable b = record { utf8 = IsUtf8-boolean b; numbers = tt; reads_back = refl }

plain-readable : (s : List ℕ) → are_ascii s ≡ true → IsReadable (text s)
plain-readable s h = text-readable s (IsUtf8-are_ascii s h)

pub name-readable : (s : List ℕ) → IsName s → IsReadable (text s)
name-readable s h = text-readable s (IsUtf8-name s h)

utf8-decimal : (n : ℕ) → n < 2 ^ 64 → IsUtf8 (decimal n)
utf8-decimal n h = IsUtf8-from_ascii (decimal n) (IsAscii-decimal n h)

pub instant_id-readable : (n : ℕ) → n < 2 ^ 64 → IsReadable (text (instant_id n))
instant_id-readable n h = text-readable (instant_id n) (IsUtf8-append (codes "instant-") (decimal n) (IsUtf8-are_ascii (codes "instant-") refl) (utf8-decimal n h))

pub act_id-readable : (order : List ℕ) (n : ℕ) → IsName order → n < 2 ^ 64 → IsReadable (text (act_id order n))
act_id-readable order n name h =
    text-readable (act_id order n)
    (IsUtf8-append (order ++ codes ".") (decimal n) (IsUtf8-append order (codes ".") (IsUtf8-name order name) (IsUtf8-are_ascii (codes ".") refl)) (utf8-decimal n h))

-- ---- an array

comma-utf8 : (later : Bool) → IsUtf8 (comma_if later)
comma-utf8 true = IsUtf8-are_ascii (44 ∷ []) refl
comma-utf8 false = IsUtf8-nil

items-utf8 : (later : Bool) (ds : List Data) → All IsReadable ds → IsUtf8 (items_text later (items_of ds))
items-utf8 later [] h = IsUtf8-are_ascii (93 ∷ []) refl
items-utf8 later (d ∷ ds) h =
    IsUtf8-append (comma_if later) (compact_text d ++ items_text true (items_of ds)) (comma-utf8 later)
    (IsUtf8-append (compact_text d) (items_text true (items_of ds)) (All-head IsReadable d ds h).utf8 (items-utf8 true ds (All-tail IsReadable d ds h)))

items-numbers : (ds : List Data) → All IsReadable ds → ItemsHaveNumbers (items_outline (items_of ds))
items-numbers [] h = tt
items-numbers (d ∷ ds) h = ((All-head IsReadable d ds h).numbers, items-numbers ds (All-tail IsReadable d ds h))

items-same : (ds : List Data) → All IsReadable ds → of_items (items_outline (items_of ds)) ≡ Some (items_of ds)
items-same [] h = refl
items-same (d ∷ ds) h =
    ap (option_and_then (λ (e : Data). option_map (item e) (of_items (items_outline (items_of ds))))) (All-head IsReadable d ds h).reads_back
    ∙ ap (option_map (item d)) (items-same ds (All-tail IsReadable d ds h))

pub list-readable : (ds : List Data) → All IsReadable ds → IsReadable (list ds)
list-readable ds h = record {
  utf8 = IsUtf8-append (91 ∷ []) (items_text false (items_of ds)) (IsUtf8-are_ascii (91 ∷ []) refl) (items-utf8 false ds h);
  numbers = items-numbers ds h;
  reads_back = ap (option_map array) (items-same ds h);
}

-- an array of what is made of each
module _ {A : Type 0} (data_of : A → Data) where
  pub none-readable : (xs : List A) → length xs ≡ 0 → IsReadable (list (map data_of xs))
  none-readable [] none = list-readable [] (All-nil IsReadable)
  none-readable (x ∷ xs) none = absurd (omega (arith, none))

  pub all-readable : (first : A) (more xs : List A) → xs ≡ first ∷ more → IsReadable (data_of first) → All (λ x. IsReadable (data_of x)) more → IsReadable (list (map data_of xs))
  all-readable first more xs is one rest =
      subst (λ (l : List A). IsReadable (list (map data_of l))) (sym is)
      (list-readable (data_of first ∷ map data_of more) (All-cons IsReadable (data_of first) (map data_of more) one (All-map IsReadable data_of more rest)))

-- ---- an object

-- each name is ASCII, and each value readable
abbrev pub AreReadable : List Field → Type 0
AreReadable [] = ⊤
AreReadable (f ∷ fs) = ((are_ascii f.0 ≡ true) × IsReadable f.1) × AreReadable fs

members-utf8 : (later : Bool) (fs : List Field) → AreReadable fs → IsUtf8 (members_text later (in_order fs))
members-utf8 later [] h = IsUtf8-are_ascii (125 ∷ []) refl
members-utf8 later (f ∷ fs) h =
    let rest : List ℕ = compact_text f.1 ++ members_text true (in_order fs) in
    IsUtf8-append (comma_if later) (quoted f.0 ++ 58 ∷ rest) (comma-utf8 later)
    (IsUtf8-append (quoted f.0) (58 ∷ rest) (IsUtf8-quoted f.0 (IsUtf8-are_ascii f.0 h.0.0))
    (IsUtf8-append (58 ∷ []) rest (IsUtf8-are_ascii (58 ∷ []) refl)
    (IsUtf8-append (compact_text f.1) (members_text true (in_order fs)) h.0.1.utf8 (members-utf8 true fs h.1))))

members-numbers : (fs : List Field) → AreReadable fs → MembersHaveNumbers (members_outline (in_order fs))
members-numbers [] h = tt
members-numbers (f ∷ fs) h = (h.0.1.numbers, members-numbers fs h.1)

-- the members, put one after another
abbrev pub put_all : List Field → Members → Members
put_all [] found = found
put_all (f ∷ fs) found = put_all fs (put f.0 f.1 found)

members-same : (fs : List Field) (found : Members) → AreReadable fs → of_members (members_outline (in_order fs)) found ≡ Some (put_all fs found)
members-same [] found h = refl
members-same (f ∷ fs) found h =
    ap (option_and_then (λ (d : Data). of_members (members_outline (in_order fs)) (put f.0 d found))) h.0.1.reads_back
    ∙ members-same fs (put f.0 f.1 found) h.1

pub object-readable : (fs : List Field) → AreReadable fs → put_all fs no_members ≡ in_order fs → IsReadable (object_of fs)
object-readable fs h sorted = record {
  utf8 = IsUtf8-append (123 ∷ []) (members_text false (in_order fs)) (IsUtf8-are_ascii (123 ∷ []) refl) (members-utf8 false fs h);
  numbers = members-numbers fs h;
  reads_back = ap (option_map object) (members-same fs no_members h ∙ ap Some sorted);
}

-- ---- a body

mutual
  depth-outline : (d : Data) → tree.depth (outline d) ≡ depth d
  depth-outline null = refl
  depth-outline (boolean b) = refl
  depth-outline (number n) = refl
  depth-outline (string s) = refl
  depth-outline (array ds) = ap suc (depth-items ds)
  depth-outline (object ms) = ap suc (depth-members ms)

  depth-items : (ds : Items) → tree.items_depth (items_outline ds) ≡ items_depth ds
  depth-items no_items = refl
  depth-items (item d ds) = ap₂ max (depth-outline d) (depth-items ds)

  depth-members : (ms : Members) → tree.members_depth (members_outline ms) ≡ members_depth ms
  depth-members no_members = refl
  depth-members (member k d ms) = ap₂ max (depth-outline d) (depth-members ms)

text-read : (d : Data) → IsReadable d → depth d ≤ 127 → read (compact_text d) ≡ Some d
text-read d h shallow =
    let printed : tokens (compact_text d) ≡ json_tokens (outline d) ++ [] =
    ap tokens (sym (print-outline d)) ∙ tokens-print (json_tokens (outline d)) (ArePrintable-json_tokens (outline d) h.numbers) ∙ sym (append-nil (json_tokens (outline d))) in
    let within : tree.depth (outline d) ≤ 127 = omega (arith, depth-outline d) in
    ap (λ (ts : List Token). option_and_then of_json (option_and_then (λ p. if_last p.0 p.1) (value max_depth ts))) printed
    ∙ ap (λ o. option_and_then of_json (option_and_then (λ p. if_last p.0 p.1) o)) (value-json_tokens (outline d) 127 [] within)
    ∙ h.reads_back

-- a value that is readable, not too deep and without fractions, is what its text is read as
pub body-back : (d : Data) → IsReadable d → depth d ≤ 127 → has_float d ≡ false → body_of (compact_text d) ≡ Ok d
body-back d h shallow whole = body-read (compact_text d) d false h.utf8 (text-read d h shallow) whole

-- ---- the parts of a message

-- the same of pieces, one after another
pub pieces-readable : (ps : List Piece) → All PieceIsReadable ps → PiecesAreReadable ps
pieces-readable [] h = tt
pieces-readable (p ∷ ps) h = (All-head PieceIsReadable p ps h, pieces-readable ps (All-tail PieceIsReadable p ps h))

-- what follows from a fact that holds where the text was appended
pub on_ok : {P Q : Type 0} (r : Result (Unit {0}) Memory) → OnOk r P → (P → Q) → OnOk r Q
on_ok (Ok u) h f = f h
on_ok (Err e) h f = tt

-- a fact that holds anyway
pub anyway : {P : Type 0} (r : Result (Unit {0}) Memory) → P → OnOk r P
anyway (Ok u) h = h
anyway (Err e) h = tt

parameter-readable : (key value : List ℕ) → are_ascii key ≡ true → IsReadable (text value) → IsReadable (parameter key value)
parameter-readable key value k v =
    let fs : List Field = field "key" (text key) ∷ field "value" (text value) ∷ [] in
    object-readable fs ((refl, plain-readable key k), ((refl, v), tt)) refl

action-readable : (id kind : List ℕ) (ps : List Data) → IsReadable (text id) → are_ascii kind ≡ true → IsReadable (list ps) → IsReadable (action_data id kind ps)
unfolding action_data
action-readable id kind ps i k p =
    let fs : List Field =
    field "actionId" (text id)
    ∷ field "actionParameters" (list ps)
    ∷ field "actionType" (text kind)
    ∷ field "blockingType" (text (codes "HARD"))
    ∷ [] in
    object-readable fs ((refl, i), ((refl, p), ((refl, plain-readable kind k), ((refl, plain-readable (codes "HARD") refl), tt)))) refl

act_name-plain : (kind : ActKind) → are_ascii (act_name kind) ≡ true
act_name-plain Pick = refl
act_name-plain Drop = refl

pub act-readable : (order : List ℕ) (act : OrderAct) → IsReadable (text (act_id order act.n)) → IsReadable (text act.station) → IsReadable (text act.load) → IsReadable (act_data order act)
act-readable order act id station load =
    let place = parameter-readable (codes "stationName") act.station refl station in
    let what = parameter-readable (codes "loadId") act.load refl load in
    let place_type = parameter-readable (codes "stationType") (codes "station") refl (plain-readable (codes "station") refl) in
    let what_type = parameter-readable (codes "loadType") (codes "load") refl (plain-readable (codes "load") refl) in
    let last : List Data = parameter (codes "loadId") act.load ∷ [] in
    let two : List Data = parameter (codes "loadType") (codes "load") ∷ last in
    let three : List Data = parameter (codes "stationName") act.station ∷ two in
    let each : All IsReadable (parameters act) = All-cons IsReadable (parameter (codes "stationType") (codes "station")) three place_type
    (All-cons IsReadable (parameter (codes "stationName") act.station) two place
    (All-cons IsReadable (parameter (codes "loadType") (codes "load")) last what_type
    (All-cons IsReadable (parameter (codes "loadId") act.load) [] what (All-nil IsReadable)))) in
    action-readable (act_id order act.n) (act_name act.kind) (parameters act) id (act_name-plain act.kind) (list-readable (parameters act) each)

pub edge-readable : (edge : OrderEdge) → IsReadable (text edge.id) → IsReadable (text edge.finish) → IsReadable (whole edge.seq) → IsReadable (text edge.start) → IsReadable (edge_data edge)
unfolding edge_data
edge-readable edge id finish seq start =
    let fs : List Field =
    field "actions" (list [])
    ∷ field "edgeId" (text edge.id)
    ∷ field "endNodeId" (text edge.finish)
    ∷ field "released" (truth edge.released)
    ∷ field "sequenceId" (whole edge.seq)
    ∷ field "startNodeId" (text edge.start)
    ∷ [] in
    object-readable fs ((refl, list-readable [] (All-nil IsReadable)), ((refl, id), ((refl, finish), ((refl, truth-readable edge.released), ((refl, seq), ((refl, start), tt)))))) refl

pub node-readable : (order : List ℕ) (node : OrderNode) → IsReadable (list (map (act_data order) node.acts)) → IsReadable (text node.id) → IsReadable (whole node.seq) → IsReadable (node_data order node)
unfolding node_data
node-readable order node acts id seq =
    let fs : List Field =
    field "actions" (list (map (act_data order) node.acts))
    ∷ field "nodeId" (text node.id)
    ∷ field "released" (truth node.released)
    ∷ field "sequenceId" (whole node.seq)
    ∷ [] in
    object-readable fs ((refl, acts), ((refl, id), ((refl, truth-readable node.released), ((refl, seq), tt)))) refl

-- ---- the messages

version-readable : IsReadable (text (codes "2.0.0"))
version-readable = plain-readable (codes "2.0.0") refl

order-readable : (header : Header) (order : OrderMessage) → IsReadable (list (map edge_data order.edges)) → IsReadable (whole header.number) → IsReadable (text header.key.manufacturer)
    → IsReadable (list (map (node_data order.order) order.nodes)) → IsReadable (text order.order) → IsReadable (whole order.update) → IsReadable (text header.key.serial) → IsReadable (text (stamp_of header.at))
    → IsReadable (order_data header order)
unfolding order_data
order-readable header order edges n maker nodes name update serial at =
    let fs : List Field =
    field "edges" (list (map edge_data order.edges))
    ∷ field "headerId" (whole header.number)
    ∷ field "manufacturer" (text header.key.manufacturer)
    ∷ field "nodes" (list (map (node_data order.order) order.nodes))
    ∷ field "orderId" (text order.order)
    ∷ field "orderUpdateId" (whole order.update)
    ∷ field "serialNumber" (text header.key.serial)
    ∷ field "timestamp" (text (stamp_of header.at))
    ∷ field "version" (text (codes "2.0.0"))
    ∷ [] in
    object-readable fs
    ((refl, edges), ((refl, n), ((refl, maker), ((refl, nodes), ((refl, name), ((refl, update), ((refl, serial), ((refl, at), ((refl, version-readable), tt))))))))) refl

pub order-back : (header : Header) (order : OrderMessage) → IsReadable (list (map edge_data order.edges)) → IsReadable (whole header.number) → IsReadable (text header.key.manufacturer)
    → IsReadable (list (map (node_data order.order) order.nodes)) → IsReadable (text order.order) → IsReadable (whole order.update) → IsReadable (text header.key.serial) → IsReadable (text (stamp_of header.at))
    → body_of (compact_text (order_data header order)) ≡ Ok (order_data header order)
order-back header order edges n maker nodes name update serial at =
    body-back (order_data header order) (order-readable header order edges n maker nodes name update serial at) (depth-order_data header order) (has_float-order_data header order)

instant_name-plain : (kind : InstantKind) → are_ascii (instant_name kind) ≡ true
instant_name-plain StartPause = refl
instant_name-plain StopPause = refl
instant_name-plain CancelOrder = refl

instant-readable : (header : Header) (message : InstantMessage) → IsReadable (text (instant_id header.number)) → IsReadable (whole header.number) → IsReadable (text header.key.manufacturer)
    → IsReadable (text header.key.serial) → IsReadable (text (stamp_of header.at)) → IsReadable (instant_data header message)
unfolding instant_data
instant-readable header message id n maker serial at =
    let act = action-readable (instant_id header.number) (instant_name message.kind) [] id (instant_name-plain message.kind) (list-readable [] (All-nil IsReadable)) in
    let fs : List Field =
    field "actions" (list (instant_act_data header.number message.kind ∷ []))
    ∷ field "headerId" (whole header.number)
    ∷ field "manufacturer" (text header.key.manufacturer)
    ∷ field "serialNumber" (text header.key.serial)
    ∷ field "timestamp" (text (stamp_of header.at))
    ∷ field "version" (text (codes "2.0.0"))
    ∷ [] in
    object-readable fs
    ((refl, list-readable (instant_act_data header.number message.kind ∷ []) (All-cons IsReadable (instant_act_data header.number message.kind) [] act (All-nil IsReadable))), ((refl, n), ((refl, maker), ((refl, serial), ((refl, at), ((refl, version-readable), tt)))))) refl

pub instant-back : (header : Header) (message : InstantMessage) → IsReadable (text (instant_id header.number)) → IsReadable (whole header.number) → IsReadable (text header.key.manufacturer)
    → IsReadable (text header.key.serial) → IsReadable (text (stamp_of header.at)) → body_of (compact_text (instant_data header message)) ≡ Ok (instant_data header message)
instant-back header message id n maker serial at =
    body-back (instant_data header message) (instant-readable header message id n maker serial at) (depth-instant_data header message) (has_float-instant_data header message)
