-- The rows of a trip's edges give its edges again.
use Rattle.std.proofs.Common.{◌≡◌, ℕ, ◌+◌, ◌<◌, arith, Bool, true, false, cond, T, nat_eq, List, [], ◌∷◌, Option, Some, None, option_map, Less, is_lt, refl, sym, ap, ◌∙◌}
use Rattle.std.specs.Cmp.{tied_itself, nat_cmp_is}
use Rattle.std.specs.Cmp.Lexicographic.{pointwise, texts_ties}
use Rattle.std.specs.FinMap.{FinMap, get, find, entries, entries_sorted, get-entries}
use Rattle.std.specs.FinMap.Entries.{below_all, is_sorted, is_sorted-where_key, find-where_key, same_entries}
use Rattle.std.specs.List.{AllByRecursion, cons_option, filter, filter_map}
use Rattle.std.specs.Ordering.{eq_by_cmp, is_eq, nat_cmp, ordering_then}
use Rattle.agv_header.specs.Name.{name_cmp}
use Rattle.agv_layout.specs.Layout.{Layout, edge_of}
use Rattle.agv_layout.specs.declared.edge.Edge.{Edge}
use Rattle.agv_order.specs.WellFormed.{IsEdgeOf}
use Rattle.agv_world_core.specs.KeyOrders.{leg_cmp-total, leg_cmp-IsAntisymmetric}
use Rattle.agv_world_core.specs.Keys.{leg_cmp}
use Rattle.agv_world_core.specs.Told.{edge_named, is_of_order}
use Rattle.agv_world_core.specs.declared.key.LegKey.{LegKey}
use Rattle.agv_world_core.proofs.lists.Entries.{is_same, no_more}
use Rattle.agv_world_core.proofs.lists.InOrder.{both, is_less}
use Rattle.agv_world_core.proofs.lists.Orders.{names_total, names_apart}
use Rattle.agv_world_core.proofs.world_rows.RowKeys.{leg_at, number_key, numbered}
use Rattle.agv_world_core.proofs.lists.Entries.{alike}

-- ---- numbered edges are in order
later : (order : List ℕ) (i k : ℕ) → i < k → T (is_lt (leg_cmp (leg_at order i) (leg_at order k)))
later order i k lt =
    is_less _ (ap (λ o. ordering_then o (nat_cmp i k)) (tied_itself names_total order) ∙ sym (nat_cmp_is i k Less lt))

below-numbered : (order : List ℕ) (i k : ℕ) → i < k → (edges : List Edge) → T (below_all leg_cmp (leg_at order i) (numbered order k edges))
below-numbered order i k lt [] = tt
below-numbered order i k lt (edge ∷ edges) = both _ _ (later order i k lt) (below-numbered order i (k + 1) (omega (arith, lt)) edges)

sorted-numbered : (order : List ℕ) (i : ℕ) (edges : List Edge) → T (is_sorted leg_cmp (numbered order i edges))
sorted-numbered order i [] = tt
sorted-numbered order i (edge ∷ edges) = both _ _ (below-numbered order i (i + 1) (omega arith) edges) (sorted-numbered order (i + 1) edges)

-- ---- each is the layout's
named : (layout : Layout) (edge : Edge) → IsEdgeOf layout edge → edge_named layout.edges edge.id ≡ Some edge
named layout edge is = ap (option_map (edge_of edge.id)) is

pub all_named : (layout : Layout) (order : List ℕ) (i : ℕ) (edges : List Edge) → AllByRecursion (IsEdgeOf layout) edges
    → filter_map (λ (leg : LegKey × List ℕ). edge_named layout.edges leg.1) (numbered order i edges) ≡ edges
all_named layout order i [] known = refl
all_named layout order i (edge ∷ edges) known =
    ap (λ o. cons_option o (filter_map (λ (leg : LegKey × List ℕ). edge_named layout.edges leg.1) (numbered order (i + 1) edges))) (named layout edge known.0)
    ∙ ap (λ l. edge ∷ l) (all_named layout order (i + 1) edges known.1)

-- ---- the rows of one order
abbrev of_order : List ℕ → LegKey → Bool
of_order order key = pointwise nat_eq key.order order

same_order : (a b : List ℕ) → pointwise nat_eq a b ≡ true → a ≡ b
same_order a b e = is_same names_apart a b (sym (texts_ties a b) ∙ e)

own_order : (a b : List ℕ) → a ≡ b → pointwise nat_eq a b ≡ true
own_order a b e = texts_ties a b ∙ ap (eq_by_cmp name_cmp a) (sym e) ∙ ap is_eq (tied_itself names_total a)

if_chosen : (b : Bool) (row : Option (List ℕ)) (y : List ℕ) → cond b row None ≡ Some y → (b ≡ true) × (row ≡ Some y)
if_chosen true row y e = (refl, e)
if_chosen false row y e = absurd (no_more y e)

-- where the table has for the order just the rows of these edges, it lists them
pub rows_of_order : (legs : FinMap leg_cmp (List ℕ)) (order : List ℕ) (edges : List Edge)
    → ((q : LegKey) (y : List ℕ) → q.order ≡ order → get legs q ≡ Some y → find leg_cmp q (numbered order 0 edges) ≡ Some y)
    → ((q : LegKey) (y : List ℕ) → find leg_cmp q (numbered order 0 edges) ≡ Some y → get legs q ≡ Some y)
    → filter (is_of_order order) (entries legs) ≡ numbered order 0 edges
rows_of_order legs order edges from into =
    same_entries leg_cmp leg_cmp-total leg_cmp-IsAntisymmetric _ _
    (is_sorted-where_key leg_cmp (of_order order) (entries legs) (entries_sorted legs))
    (sorted-numbered order 0 edges)
    (λ q.
    find-where_key leg_cmp (of_order order) q (λ x tied. ap (of_order order) (sym (leg_cmp-IsAntisymmetric q x tied))) (entries legs)
    ∙ ap (λ row. cond (of_order order q) row None) (sym (get-entries legs q))
    ∙ alike _ _
    (λ y e. let chosen = if_chosen (of_order order q) (get legs q) y e in from q y (same_order q.order order chosen.0) chosen.1)
    (λ y e. ap (λ b. cond b (get legs q) None) (own_order q.order order (number_key order 0 edges q y e).0) ∙ into q y e))
