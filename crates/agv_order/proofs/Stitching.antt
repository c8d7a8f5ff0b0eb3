-- The last and the front of a base, and where an update is stitched to it.
use Rattle.std.proofs.Common.{◌≡◌, ℕ, ◌+◌, ◌<◌, length, get_or, take, true, false, cond, ◌&&◌, ◌==◌, List, [], ◌∷◌, ◌++◌, Option, None, Some, refl, sym, ◌∙◌, ap, nat_eq}
use Rattle.std.proofs.lemmas.List.{append-nil, nil_from_length}
use Rattle.std.proofs.lemmas.List.Elements.{filter_more}
use Rattle.std.specs.List.{filter}
use Rattle.std.specs.Option.{option_map, option_to_list}
use Rattle.std.specs.Cmp.Lexicographic.{pointwise}
use Rattle.agv_message_core.specs.declared.order.OrderNode.{OrderNode}
use Rattle.agv_order.specs.declared.stitch.Mark.{Mark}
use Rattle.agv_order.specs.Joins.{front_of, is_stitching_node, last_of}
use Rattle.agv_order.specs.Stitch.{is_released, mark_of}

pub last_push : {A : Type 0} (xs : List A) (x : A) → last_of (xs ++ x ∷ []) ≡ Some x
last_push [] x = refl
last_push (y ∷ []) x = refl
last_push (y ∷ (z ∷ zs)) x = last_push (z ∷ zs) x

pub front_push : {A : Type 0} (xs : List A) (x : A) → front_of (xs ++ x ∷ []) ≡ xs
front_push [] x = refl
front_push (y ∷ []) x = refl
front_push (y ∷ (z ∷ zs)) x = ap (λ ys. y ∷ ys) (front_push (z ∷ zs) x)

pub not_without_last : (last first : Option OrderNode) → None ≡ option_map mark_of last → is_stitching_node last first ≡ false
not_without_last None first is = refl
not_without_last (Some node) first is = cc

pub not_without_first : (last : Option OrderNode) → is_stitching_node last None ≡ false
not_without_first None = refl
not_without_first (Some node) = refl

pub at_both :
    (last : Option OrderNode) (first : OrderNode) (mark : Mark)
    → Some mark ≡ option_map mark_of last
    → is_stitching_node last (Some first) ≡ (pointwise nat_eq mark.id first.id && mark.seq == first.seq)
at_both None first mark is = cc
at_both (Some node) first mark is =
    let same : mark_of node ≡ mark = cc in
    ap (λ (m : Mark). pointwise nat_eq m.id first.id && m.seq == first.seq) same

-- ---- one more node

base_more :
    (nodes : List OrderNode) (i : ℕ) (x : OrderNode)
    → i < length nodes
    → x ≡ get_or nodes i x
    → x.released ≡ true
    → filter is_released (take (i + 1) nodes) ≡ filter is_released (take i nodes) ++ x ∷ []
base_more nodes i x within is released =
    filter_more is_released nodes i x within
    ∙ (ap (λ (n : OrderNode). filter is_released (take i nodes) ++ cond n.released (n ∷ []) []) (sym is)
    ∙ ap (λ b. filter is_released (take i nodes) ++ cond b (x ∷ []) []) released)

pub last_more :
    (nodes : List OrderNode) (i : ℕ) (x : OrderNode)
    → i < length nodes
    → x ≡ get_or nodes i x
    → x.released ≡ true
    → last_of (filter is_released (take (i + 1) nodes)) ≡ Some x
last_more nodes i x within is released =
    let front : filter is_released (take (i + 1) nodes) ≡ filter is_released (take i nodes) ++ x ∷ [] = base_more nodes i x within is released in
    ap last_of front ∙ last_push (filter is_released (take i nodes)) x

pub last_same :
    (nodes : List OrderNode) (i : ℕ) (x : OrderNode)
    → i < length nodes
    → x ≡ get_or nodes i x
    → x.released ≡ false
    → filter is_released (take (i + 1) nodes) ≡ filter is_released (take i nodes)
last_same nodes i x within is held =
    filter_more is_released nodes i x within
    ∙ (ap (λ (n : OrderNode). filter is_released (take i nodes) ++ cond n.released (n ∷ []) []) (sym is)
    ∙ (ap (λ b. filter is_released (take i nodes) ++ cond b (x ∷ []) []) held ∙ append-nil _))

-- ---- the base without its last node

pub front_popped :
    (base rest : List OrderNode) (popped : Option OrderNode)
    → base ≡ rest ++ option_to_list popped
    → (popped ≡ None → length rest ≡ 0)
    → rest ≡ front_of base
front_popped base rest None parts none =
    let empty : rest ≡ [] = nil_from_length rest (none refl) in
    let bare : base ≡ [] = parts ∙ (append-nil rest ∙ empty) in
    empty ∙ sym (ap front_of bare)
front_popped base rest (Some x) parts none = sym (ap front_of parts ∙ front_push rest x)
