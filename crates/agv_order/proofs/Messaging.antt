-- The nodes, edges and acts of a message, one more at a time.
use Rattle.std.proofs.Common.{◌≡◌, ℕ, ◌+◌, ◌<◌, ◌≤◌, ◌==◌, length, get_or, take, drop, Bool, cond, List, [], ◌∷◌, ◌++◌, map, sym, ◌∙◌, ap, arith}
use Rattle.std.proofs.lemmas.List.{append-nil, take_more, map-append, length-take-le, length-append, length-map, drop-append-le, drop_all}
use Rattle.std.proofs.lemmas.Bool.{eq-eqb, ne_eqb}
use Rattle.std.proofs.lemmas.List.Elements.{filter-append}
use Rattle.std.proofs.lemmas.List.FromFn.{length-enumerate_from}
use Rattle.std.specs.List.{filter, enumerate_from}
use Rattle.agv_layout.specs.declared.edge.Edge.{Edge}
use Rattle.agv_message_core.specs.declared.order.OrderAct.{OrderAct}
use Rattle.agv_message_core.specs.declared.order.OrderEdge.{OrderEdge}
use Rattle.agv_message_core.specs.declared.order.OrderNode.{OrderNode}
use Rattle.agv_order.specs.declared.act.Act.{Act}
use Rattle.agv_order.specs.declared.trip.Trip.{Trip}
use Rattle.agv_order.specs.Messages.{order_act, acts_at, order_node, order_edge}
use Rattle.agv_order.specs.Trips.{nodes_on}

-- a list with numbers, and one more
pub numbered_push :
    {A : Type 0} (from : ℕ) (xs : List A) (x : A)
    → enumerate_from from (xs ++ x ∷ []) ≡ enumerate_from from xs ++ (from + length xs, x) ∷ []
numbered_push {A} from [] x = let same : from ≡ from + 0 = omega arith in ap (λ n. let pair : ℕ × A = (n, x) in pair ∷ []) same
numbered_push {A} from (y ∷ ys) x =
    let pair : ℕ × A = (from, y) in
    let same : (from + 1) + length ys ≡ from + length (y ∷ ys) = omega arith in
    ap (λ zs. pair ∷ zs) (numbered_push (from + 1) ys x ∙ ap (λ n. let last : ℕ × A = (n, x) in enumerate_from (from + 1) ys ++ last ∷ []) same)

-- what is left of a list, and one more
pub left_push :
    {A : Type 0} (n : ℕ) (xs : List A) (x : A) → n ≤ length xs → drop n (xs ++ x ∷ []) ≡ drop n xs ++ x ∷ []
left_push n xs x long = drop-append-le n xs (x ∷ []) long

pub left_none :
    {A : Type 0} (n : ℕ) (xs : List A) (x : A) → length xs < n → drop n (xs ++ x ∷ []) ≡ drop n xs
left_none {A} n xs x short =
    drop_all n (xs ++ x ∷ []) (omega (arith, length-append xs (x ∷ []))) ∙ sym (drop_all n xs (omega arith))

-- a longer list, from a place on
pub more_left :
    {A : Type 0} (n : ℕ) (old new : List A) (x : A) → new ≡ old ++ x ∷ [] → n ≤ length old → drop n new ≡ drop n old ++ x ∷ []
more_left n old new x more long = ap (λ zs. drop n zs) more ∙ left_push n old x long

pub none_left :
    {A : Type 0} (n : ℕ) (old new : List A) (x : A) → new ≡ old ++ x ∷ [] → length old < n → drop n new ≡ drop n old
none_left n old new x more short = ap (λ zs. drop n zs) more ∙ left_none n old x short

-- the front of a list, and one more
front_more : {A : Type 0} (xs : List A) (i : ℕ) (x : A) → i < length xs → x ≡ get_or xs i x → take (i + 1) xs ≡ take i xs ++ x ∷ []
front_more {A} xs i x within is = take_more xs i x within ∙ ap (λ (y : A). take i xs ++ y ∷ []) (sym is)

-- ---- nodes

-- the nodes of a trip as far as these edges lead
abbrev pub nodes_along : Trip → List Edge → List OrderNode
nodes_along trip edges = map (order_node trip) (enumerate_from 0 (nodes_on trip.start edges))

finish_of : Edge → List ℕ
finish_of edge = edge.finish

nodes_push :
    (trip : Trip) (edges : List Edge) (edge : Edge)
    → nodes_along trip (edges ++ edge ∷ []) ≡ nodes_along trip edges ++ order_node trip (length edges + 1, edge.finish) ∷ []
nodes_push trip edges edge =
    let finishes : map (λ (e : Edge). e.finish) (edges ++ edge ∷ []) ≡ map (λ (e : Edge). e.finish) edges ++ edge.finish ∷ [] =
    map-append (λ (e : Edge). e.finish) edges (edge ∷ []) in
    let nodes : nodes_on trip.start (edges ++ edge ∷ []) ≡ nodes_on trip.start edges ++ edge.finish ∷ [] =
    ap (λ ids. trip.start ∷ ids) finishes in
    let count : 0 + length (nodes_on trip.start edges) ≡ length edges + 1 = omega (arith, length-map edges (λ (e : Edge). e.finish)) in
    let last : ℕ → List (ℕ × List ℕ) = λ n. (n, edge.finish) ∷ [] in
    ap (λ ids. map (order_node trip) (enumerate_from 0 ids)) nodes
    ∙ (ap (map (order_node trip)) (numbered_push 0 (nodes_on trip.start edges) edge.finish)
    ∙ (map-append (order_node trip) (enumerate_from 0 (nodes_on trip.start edges)) (last (0 + length (nodes_on trip.start edges)))
    ∙ ap (λ n. nodes_along trip edges ++ map (order_node trip) (last n)) count))

pub nodes_more :
    (trip : Trip) (edges : List Edge) (i : ℕ) (edge : Edge)
    → i < length edges
    → edge ≡ get_or edges i edge
    → nodes_along trip (take (i + 1) edges) ≡ nodes_along trip (take i edges) ++ order_node trip (i + 1, edge.finish) ∷ []
nodes_more trip edges i edge within is =
    ap (nodes_along trip) (front_more edges i edge within is)
    ∙ (nodes_push trip (take i edges) edge
    ∙ ap (λ n. nodes_along trip (take i edges) ++ order_node trip (n + 1, edge.finish) ∷ []) (length-take-le i edges (omega arith)))

pub nodes_count : (trip : Trip) (edges : List Edge) → length (nodes_along trip edges) ≡ length edges + 1
nodes_count trip edges =
    omega (arith, length-map (enumerate_from 0 (nodes_on trip.start edges)) (order_node trip), length-enumerate_from 0 (nodes_on trip.start edges), length-map edges (λ (e : Edge). e.finish))

-- ---- edges

-- these edges of a trip
abbrev pub edges_along : Trip → List Edge → List OrderEdge
edges_along trip edges = map (order_edge trip) (enumerate_from 0 edges)

edges_push :
    (trip : Trip) (edges : List Edge) (edge : Edge)
    → edges_along trip (edges ++ edge ∷ []) ≡ edges_along trip edges ++ order_edge trip (length edges, edge) ∷ []
edges_push trip edges edge =
    let count : 0 + length edges ≡ length edges = omega arith in
    let last : ℕ → List (ℕ × Edge) = λ n. (n, edge) ∷ [] in
    ap (map (order_edge trip)) (numbered_push 0 edges edge)
    ∙ (map-append (order_edge trip) (enumerate_from 0 edges) (last (0 + length edges))
    ∙ ap (λ n. edges_along trip edges ++ map (order_edge trip) (last n)) count)

pub edges_more :
    (trip : Trip) (edges : List Edge) (i : ℕ) (edge : Edge)
    → i < length edges
    → edge ≡ get_or edges i edge
    → edges_along trip (take (i + 1) edges) ≡ edges_along trip (take i edges) ++ order_edge trip (i, edge) ∷ []
edges_more trip edges i edge within is =
    ap (edges_along trip) (front_more edges i edge within is)
    ∙ (edges_push trip (take i edges) edge
    ∙ ap (λ n. edges_along trip (take i edges) ++ order_edge trip (n, edge) ∷ []) (length-take-le i edges (omega arith)))

pub edges_count : (trip : Trip) (edges : List Edge) → length (edges_along trip edges) ≡ length edges
edges_count trip edges = omega (arith, length-map (enumerate_from 0 edges) (order_edge trip), length-enumerate_from 0 edges)

-- ---- acts

-- the act with its number, where it is at the place
abbrev pub act_here : ℕ → ℕ × Act → List OrderAct
act_here k numbered = map order_act (cond (numbered.1.place_at == k) (numbered ∷ []) [])

acts_push :
    (acts : List Act) (act : Act) (k : ℕ) → acts_at (acts ++ act ∷ []) k ≡ acts_at acts k ++ act_here k (length acts, act)
acts_push acts act k =
    let at : ℕ × Act → Bool = λ numbered. numbered.1.place_at == k in
    let count : 0 + length acts ≡ length acts = omega arith in
    let last : ℕ → List (ℕ × Act) = λ n. (n, act) ∷ [] in
    ap (λ xs. map order_act (filter at xs)) (numbered_push 0 acts act)
    ∙ (ap (map order_act) (filter-append at (enumerate_from 0 acts) (last (0 + length acts)))
    ∙ (map-append order_act (filter at (enumerate_from 0 acts)) (filter at (last (0 + length acts)))
    ∙ ap (λ n. acts_at acts k ++ map order_act (filter at (last n))) count))

pub acts_more :
    (acts : List Act) (i : ℕ) (act : Act) (k : ℕ)
    → i < length acts
    → act ≡ get_or acts i act
    → acts_at (take (i + 1) acts) k ≡ acts_at (take i acts) k ++ act_here k (i, act)
acts_more acts i act k within is =
    ap (λ xs. acts_at xs k) (front_more acts i act within is)
    ∙ (acts_push (take i acts) act k
    ∙ ap (λ n. acts_at (take i acts) k ++ act_here k (n, act)) (length-take-le i acts (omega arith)))

pub acts_yes :
    (acts : List Act) (i : ℕ) (act : Act) (k : ℕ)
    → i < length acts
    → act ≡ get_or acts i act
    → act.place_at ≡ k
    → acts_at (take (i + 1) acts) k ≡ acts_at (take i acts) k ++ order_act (i, act) ∷ []
acts_yes acts i act k within is here =
    acts_more acts i act k within is
    ∙ ap (λ b. let numbered : ℕ × Act = (i, act) in acts_at (take i acts) k ++ map order_act (cond b (numbered ∷ []) [])) (eq-eqb act.place_at k here)

pub acts_no :
    (acts : List Act) (i : ℕ) (act : Act) (k : ℕ)
    → i < length acts
    → act ≡ get_or acts i act
    → (act.place_at ≡ k → ⊥)
    → acts_at (take (i + 1) acts) k ≡ acts_at (take i acts) k
acts_no acts i act k within is away =
    acts_more acts i act k within is
    ∙ (ap (λ b. let numbered : ℕ × Act = (i, act) in acts_at (take i acts) k ++ map order_act (cond b (numbered ∷ []) [])) (ne_eqb act.place_at k away)
    ∙ append-nil (acts_at (take i acts) k))

-- a list that was made so far, and an item that is pushed
pub pushed :
    {A : Type 0} (made kept old new : List A) (x y : A)
    → made ≡ old
    → new ≡ old ++ x ∷ []
    → kept ≡ made ++ y ∷ []
    → y ≡ x
    → kept ≡ new
pushed {A} made kept old new x y so_far more push is = push ∙ (ap (λ (z : A). made ++ z ∷ []) is ∙ (ap (λ zs. zs ++ x ∷ []) so_far ∙ sym more))
