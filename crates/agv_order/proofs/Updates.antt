-- An update is stitched to the whole order that it extends.
use Rattle.std.proofs.Common.{◌≡◌, ℕ, zero, suc, ◌+◌, ◌<◌, ◌≤◌, length, get_or, take, drop, Bool, true, false, ◌==◌, List, [], ◌∷◌, ◌++◌, map, refl, sym, ◌∙◌, ap, arith, ◌*◌, inl, inr, nat_eq, nat_lt, nat_le, Some, Ok}
use Rattle.std.proofs.lemmas.Bool.{cases_lt, lt-ltb, le-ltb, le-leb, lt-leb, eq-eqb, ne_eqb, and_from, cond-true, cond-false}
use Rattle.std.proofs.lemmas.Cmp.{nat_list_eq_equiv}
use Rattle.std.proofs.lemmas.List.{take_more, drop_more, get_or-map, length-map, take-append-drop}
use Rattle.std.proofs.lemmas.List.FromFn.{length-enumerate_from, get_or-enumerate_from}
use Rattle.std.specs.List.{filter, enumerate_from}
use Rattle.std.specs.Cmp.Lexicographic.{pointwise}
use Rattle.agv_layout.specs.declared.edge.Edge.{Edge}
use Rattle.agv_message_core.specs.declared.order.OrderEdge.{OrderEdge}
use Rattle.agv_message_core.specs.declared.order.OrderNode.{OrderNode}
use Rattle.agv_order.specs.declared.trip.Trip.{Trip}
use Rattle.agv_order.specs.declared.joins.Joined.TheVariants.{Taken}
use Rattle.agv_order.specs.Joins.{base_nodes, base_edges, front_of, is_same_node, is_stitched, stitched, join_of}
use Rattle.agv_order.specs.Messages.{acts_at, order_node, order_edge, order_nodes, order_edges, whole_of, message_of}
use Rattle.agv_order.specs.Releases.{CanRelease, released}
use Rattle.agv_order.specs.Trips.{nodes_of}
use Rattle.agv_order.proofs.Stitching.{front_push}

-- ---- items that are kept up to a place

module _ {X Y : Type 0} (f : ℕ × X → Y) (keep : Y → Bool) (limit : ℕ) (here : (k : ℕ) (x : X) → keep (f (k, x)) ≡ nat_lt k limit) where
  -- from the limit on, none is kept
  kept_past : (from : ℕ) (xs : List X) → limit ≤ from → filter keep (map f (enumerate_from from xs)) ≡ []
  kept_past from [] past = refl
  kept_past from (x ∷ xs) past =
      let out : keep (f (from, x)) ≡ false = here from x ∙ le-ltb from limit past in
      rw out (kept_past (from + 1) xs (omega arith))

  -- those before it are kept
  pub kept_before : (from m : ℕ) (xs : List X) → from + m ≡ limit → filter keep (map f (enumerate_from from xs)) ≡ take m (map f (enumerate_from from xs))
  kept_before from zero [] ends = refl
  kept_before from (suc m) [] ends = refl
  kept_before from zero (x ∷ xs) ends = kept_past from (x ∷ xs) (omega arith)
  kept_before from (suc m) (x ∷ xs) ends =
      let in_front : keep (f (from, x)) ≡ true = here from x ∙ lt-ltb from limit (omega arith) in
      rw in_front (ap (λ ys. f (from, x) ∷ ys) (kept_before (from + 1) m xs (omega arith)))

-- two rows of items that agree up to a place
pub agree_before :
    {X Y : Type 0} (f g : ℕ × X → Y) (limit : ℕ)
    → ((k : ℕ) (x : X) → k < limit → f (k, x) ≡ g (k, x))
    → (from m : ℕ) (xs : List X)
    → from + m ≡ limit
    → take m (map f (enumerate_from from xs)) ≡ take m (map g (enumerate_from from xs))
agree_before f g limit same from zero xs ends = refl
agree_before f g limit same from (suc m) [] ends = refl
agree_before {X} {Y} f g limit same from (suc m) (x ∷ xs) ends =
    let rest : take m (map f (enumerate_from (from + 1) xs)) ≡ take m (map g (enumerate_from (from + 1) xs)) =
    agree_before f g limit same (from + 1) m xs (omega arith) in
    ap (λ (y : Y). y ∷ take m (map f (enumerate_from (from + 1) xs))) (same from x (omega arith)) ∙ ap (λ ys. g (from, x) ∷ ys) rest

-- the item at a place
pub item_at :
    {X Y : Type 0} (f : ℕ × X → Y) (xs : List X) (k : ℕ) (d : X)
    → k < length xs
    → get_or (map f (enumerate_from 0 xs)) k (f (0, d)) ≡ f (k, get_or xs k d)
item_at {X} f xs k d within =
    let pair : ℕ × X = (0, d) in
    let at : get_or (enumerate_from 0 xs) k pair ≡ (0 + k, get_or xs k d) = get_or-enumerate_from 0 xs k pair within in
    let same : 0 + k ≡ k = omega arith in
    get_or-map f (enumerate_from 0 xs) k pair (f pair) (omega (arith, length-enumerate_from 0 xs)) ∙ (ap f at ∙ ap (λ n. f (n, get_or xs k d)) same)

-- ---- a base with its last node, and an update from that node on

stitched_push : (front : List OrderNode) (last first : OrderNode) (nodes : List OrderNode) → is_stitched (front ++ last ∷ []) (first ∷ nodes) ≡ is_same_node last first
stitched_push [] last first nodes = refl
stitched_push (x ∷ []) last first nodes = refl
stitched_push (x ∷ (y ∷ ys)) last first nodes = stitched_push (y ∷ ys) last first nodes

le_lt : (k base : ℕ) → nat_le k base ≡ nat_lt k (base + 1)
le_lt k base =
    elim (cases_lt base k) [ inl above ↦ lt-leb k base above ∙ sym (le-ltb k (base + 1) (omega arith)) | inr below ↦ le-leb k base below ∙ sym (lt-ltb k (base + 1) (omega arith)) ]

same_node : (id : List ℕ) (one other : OrderNode) → one.id ≡ id → other.id ≡ id → one.seq ≡ other.seq → is_same_node one other ≡ true
same_node id one other a b s =
    and_from _ _ (ap (λ i. pointwise nat_eq i other.id) (a ∙ sym b) ∙ nat_list_eq_equiv.refl other.id) (eq-eqb one.seq other.seq s)

-- ---- the nodes of an update

-- the node at the end of the base
abbrev end_id : Trip → List ℕ
end_id trip = get_or (nodes_of trip) trip.base []

nodes_count : (trip : Trip) → length (order_nodes trip) ≡ length (nodes_of trip)
nodes_count trip = length-map (enumerate_from 0 (nodes_of trip)) (order_node trip) ∙ length-enumerate_from 0 (nodes_of trip)

node_here : (trip : Trip) (k : ℕ) → k < length (nodes_of trip) → get_or (order_nodes trip) k (order_node trip (0, [])) ≡ order_node trip (k, get_or (nodes_of trip) k [])
node_here trip k within = item_at (order_node trip) (nodes_of trip) k [] within

-- the base: the nodes before its end, and then its end
base_ends :
    (trip : Trip)
    → trip.base < length (nodes_of trip)
    → base_nodes (whole_of trip) ≡ take trip.base (order_nodes trip) ++ order_node trip (trip.base, end_id trip) ∷ []
base_ends trip within =
    let nodes : List OrderNode = order_nodes trip in
    let kept : base_nodes (whole_of trip) ≡ take (trip.base + 1) nodes =
    kept_before (order_node trip) (λ (node : OrderNode). node.released) (trip.base + 1) (λ k id. le_lt k trip.base) 0 (trip.base + 1) (nodes_of trip) (omega arith) in
    let more : take (trip.base + 1) nodes ≡ take trip.base nodes ++ get_or nodes trip.base (order_node trip (0, [])) ∷ [] =
    take_more nodes trip.base (order_node trip (0, [])) (omega (arith, nodes_count trip)) in
    kept ∙ (more ∙ ap (λ (node : OrderNode). take trip.base nodes ++ node ∷ []) (node_here trip trip.base within))

-- the update: the end of the old base, and then all that follows
update_begins :
    (trip : Trip) (n : ℕ)
    → trip.base < length (nodes_of trip)
    → (message_of (released trip n)).nodes ≡ order_node (released trip n) (trip.base, end_id trip) ∷ drop (trip.base + 1) (order_nodes (released trip n))
update_begins trip n within =
    let next : Trip = released trip n in
    drop_more (order_nodes next) trip.base (order_node next (0, [])) (omega (arith, nodes_count next))
    ∙ ap (λ (node : OrderNode). node ∷ drop (trip.base + 1) (order_nodes next)) (node_here next trip.base within)

-- a node before the end of the base is as it was
node_stays : (trip : Trip) (n k : ℕ) (id : List ℕ) → k < trip.base → order_node trip (k, id) ≡ order_node (released trip n) (k, id)
node_stays trip n k id before =
    let stays : nat_le k trip.base ≡ nat_le k (trip.base + n) = le-leb k trip.base (omega arith) ∙ sym (le-leb k (trip.base + n) (omega arith)) in
    ap (λ b. record { id = id; seq = 2 * k; released = b; acts = acts_at trip.acts k }) stays

edge_stays : (trip : Trip) (n k : ℕ) (edge : Edge) → k < trip.base → order_edge trip (k, edge) ≡ order_edge (released trip n) (k, edge)
edge_stays trip n k edge before =
    let stays : nat_lt k trip.base ≡ nat_lt k (trip.base + n) = lt-ltb k trip.base before ∙ sym (lt-ltb k (trip.base + n) (omega arith)) in
    ap (λ b. record { id = edge.id; start = edge.start; finish = edge.finish; seq = 2 * k + 1; released = b }) stays

nodes_joined :
    (trip : Trip) (n : ℕ)
    → trip.base < length (nodes_of trip)
    → front_of (base_nodes (whole_of trip)) ++ (message_of (released trip n)).nodes ≡ order_nodes (released trip n)
nodes_joined trip n within =
    let next : Trip = released trip n in
    let front : front_of (base_nodes (whole_of trip)) ≡ take trip.base (order_nodes trip) =
    ap front_of (base_ends trip within) ∙ front_push (take trip.base (order_nodes trip)) (order_node trip (trip.base, end_id trip)) in
    let same : take trip.base (order_nodes trip) ≡ take trip.base (order_nodes next) =
    agree_before (order_node trip) (order_node next) trip.base (node_stays trip n) 0 trip.base (nodes_of trip) (omega arith) in
    ap (λ (nodes : List OrderNode). nodes ++ drop trip.base (order_nodes next)) (front ∙ same) ∙ take-append-drop trip.base (order_nodes next)

edges_joined : (trip : Trip) (n : ℕ) → base_edges (whole_of trip) ++ (message_of (released trip n)).edges ≡ order_edges (released trip n)
edges_joined trip n =
    let next : Trip = released trip n in
    let kept : base_edges (whole_of trip) ≡ take trip.base (order_edges trip) =
    kept_before (order_edge trip) (λ (edge : OrderEdge). edge.released) trip.base (λ k edge. refl) 0 trip.base trip.edges (omega arith) in
    let same : take trip.base (order_edges trip) ≡ take trip.base (order_edges next) =
    agree_before (order_edge trip) (order_edge next) trip.base (edge_stays trip n) 0 trip.base trip.edges (omega arith) in
    ap (λ (edges : List OrderEdge). edges ++ drop trip.base (order_edges next)) (kept ∙ same) ∙ take-append-drop trip.base (order_edges next)

update_stitched :
    (trip : Trip) (n : ℕ)
    → trip.base < length (nodes_of trip)
    → is_stitched (base_nodes (whole_of trip)) (message_of (released trip n)).nodes ≡ true
update_stitched trip n within =
    let next : Trip = released trip n in
    let last : OrderNode = order_node trip (trip.base, end_id trip) in
    let first : OrderNode = order_node next (trip.base, end_id trip) in
    let rest : List OrderNode = drop (trip.base + 1) (order_nodes next) in
    ap (λ (base : List OrderNode). is_stitched base (message_of next).nodes) (base_ends trip within)
    ∙ (ap (λ (nodes : List OrderNode). is_stitched (take trip.base (order_nodes trip) ++ last ∷ []) nodes) (update_begins trip n within)
    ∙ (stitched_push (take trip.base (order_nodes trip)) last first rest ∙ same_node (end_id trip) last first refl refl refl))

-- what the vehicle then holds
update_joined :
    (trip : Trip) (n : ℕ) → trip.base < length (nodes_of trip) → stitched (whole_of trip) (message_of (released trip n)) ≡ whole_of (released trip n)
update_joined trip n within =
    let next : Trip = released trip n in
    ap (λ (nodes : List OrderNode). record { order = trip.order; update = next.sent; nodes = nodes; edges = base_edges (whole_of trip) ++ (message_of next).edges }) (nodes_joined trip n within)
    ∙ ap (λ (edges : List OrderEdge). record { order = trip.order; update = next.sent; nodes = order_nodes next; edges = edges }) (edges_joined trip n)

pub next_update_joined :
    (trip : Trip) (n : ℕ)
    → CanRelease trip n
    → join_of (Some (whole_of trip)) (message_of (released trip n)) ≡ Ok (Taken (whole_of (released trip n)))
next_update_joined trip n can =
    let within : trip.base < length (nodes_of trip) = omega (arith, length-map trip.edges (λ (edge : Edge). edge.finish), can.0, can.1) in
    let later : trip.sent == trip.sent + 1 ≡ false = ne_eqb trip.sent (trip.sent + 1) (λ same. omega arith) in
    let no_lower : nat_lt (trip.sent + 1) trip.sent ≡ false = le-ltb (trip.sent + 1) trip.sent (omega arith) in
    cond-true _ _ _ (nat_list_eq_equiv.refl trip.order)
    ∙ (cond-false _ _ _ later
    ∙ (cond-false _ _ _ no_lower
    ∙ (cond-true _ _ _ (update_stitched trip n within) ∙ ap (λ order. Ok (Taken order)) (update_joined trip n within))))
