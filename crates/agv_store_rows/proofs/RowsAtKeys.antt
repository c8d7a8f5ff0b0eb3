-- What the tables of the rows of trips have at a key.
use Rattle.std.proofs.Common.{◌≡◌, ℕ, zero, suc, ◌+◌, ◌<◌, arith, true, false, cond, List, [], ◌∷◌, ◌++◌, Option, None, Some, Ordering, Less, Equal, Greater, is_eq, zero-add, add-zero, refl, sym, ap, ap₂, subst, ◌∙◌}
use Rattle.std.specs.Cmp.{tied_itself}
use Rattle.std.specs.FinMap as finite
use Rattle.std.specs.FinMap.{find}
use Rattle.std.specs.List.{slice_get}
use Rattle.std.specs.Option.{option_and_then, option_map, option_or}
use Rattle.std.specs.Ordering.{eq_by_cmp, nat_cmp, ordering_reverse, ordering_then}
use Rattle.agv_header.specs.Name.{name_cmp}
use Rattle.agv_order.specs.declared.act.Act.{Act}
use Rattle.agv_world_core.specs.declared.row.TripRow.{TripRow}
use Rattle.agv_world_core.proofs.lists.Entries.{is_same}
use Rattle.agv_world_core.proofs.lists.Orders.{names_total, names_apart}
use Rattle.agv_store_rows.specs.ActKeys.{act_cmp, act_cmp-total}
use Rattle.agv_store_rows.specs.TripRows.{act_key, act_row, act_rows, act_rows_from, acts_of, all_act_rows, journey_of, journey_rows, journeys_of}
use Rattle.agv_store_rows.specs.declared.act_key.ActKey.{ActKey}
use Rattle.agv_store_rows.specs.declared.act_row.ActRow.{ActRow}
use Rattle.agv_store_rows.proofs.TripRowKeys.{AreAfter, DoRise, acts_in, journeys_in, not_after, numbers_after, rise_from_sorted}

-- ---- journeys

find-journeys : (q : List ℕ) (es : List (List ℕ × TripRow)) → find name_cmp q (journeys_in es) ≡ option_map journey_of (find name_cmp q es)
find-journeys q [] = refl
find-journeys q (e ∷ es) =
    elim (eq_by_cmp name_cmp q e.0) as (λ b. cond b (Some (journey_of e.1)) (find name_cmp q (journeys_in es)) ≡ option_map journey_of (cond b (Some e.1) (find name_cmp q es))) [
      | true ↦ refl
      | false ↦ find-journeys q es
    ]

pub get-journeys : (trips : finite.FinMap name_cmp TripRow) (order : List ℕ) → finite.get (journeys_of trips) order ≡ option_map journey_of (finite.get trips order)
unfolding journeys_of
get-journeys trips order =
    finite.get-from_entries names_total (journey_rows trips) order ∙ find-journeys order (finite.entries trips) ∙ ap (option_map journey_of) (sym (finite.get-entries trips order))

-- ---- the acts of one trip

turned : (x y : ActKey) → act_cmp x y ≡ Less → eq_by_cmp act_cmp y x ≡ false
turned x y h = ap is_eq (act_cmp-total.antisymm y x ∙ ap ordering_reverse h)

-- the row of act k, where the first is numbered n
find-own : (order : List ℕ) (n k : ℕ) (acts : List Act) → find act_cmp (act_key order (n + k)) (act_rows_from order n acts) ≡ option_map act_row (slice_get acts k)
find-own order n k [] = refl
find-own order n zero (act ∷ acts) =
    ap (λ o. cond (is_eq o) (Some (act_row act)) (find act_cmp (act_key order (n + 0)) (act_rows_from order (n + 1) acts)))
    (ap (λ m. act_cmp (act_key order m) (act_key order n)) (add-zero n) ∙ tied_itself act_cmp-total (act_key order n))
find-own order n (suc k) (act ∷ acts) =
    let later : n < n + suc k = omega arith in
    let moved : n + suc k ≡ (n + 1) + k = omega arith in
    ap (λ b. cond b (Some (act_row act)) (find act_cmp (act_key order (n + suc k)) (act_rows_from order (n + 1) acts))) (turned (act_key order n) (act_key order (n + suc k)) (numbers_after order n (n + suc k) later))
    ∙ ap (λ m. find act_cmp (act_key order m) (act_rows_from order (n + 1) acts)) moved
    ∙ find-own order (n + 1) k acts

differ_first : (a b : Ordering) → is_eq a ≡ false → is_eq (ordering_then a b) ≡ false
differ_first Less b h = refl
differ_first Equal b h = absurd (cc h)
differ_first Greater b h = refl

find-other : (q : ActKey) (order : List ℕ) (n : ℕ) (acts : List Act) → eq_by_cmp name_cmp q.order order ≡ false → find act_cmp q (act_rows_from order n acts) ≡ None
find-other q order n [] h = refl
find-other q order n (act ∷ acts) h =
    ap (λ b. cond b (Some (act_row act)) (find act_cmp q (act_rows_from order (n + 1) acts))) (differ_first (name_cmp q.order order) (nat_cmp q.n n) h) ∙ find-other q order (n + 1) acts h

-- ---- all acts

-- the row of act k of a trip
abbrev row_at : ℕ → TripRow → Option ActRow
row_at k trip = option_map act_row (slice_get trip.acts k)

find-append : (q : ActKey) (xs ys : List (ActKey × ActRow)) → find act_cmp q (xs ++ ys) ≡ option_or (find act_cmp q xs) (find act_cmp q ys)
find-append q [] ys = refl
find-append q (x ∷ xs) ys =
    elim (eq_by_cmp act_cmp q x.0) as (λ b. cond b (Some x.1) (find act_cmp q (xs ++ ys)) ≡ option_or (cond b (Some x.1) (find act_cmp q xs)) (find act_cmp q ys)) [
      | true ↦ refl
      | false ↦ find-append q xs ys
    ]

none_more : (o : Option ActRow) → option_or o None ≡ o
none_more None = refl
none_more (Some x) = refl

find-acts : (q : ActKey) (es : List (List ℕ × TripRow)) → DoRise name_cmp es → find act_cmp q (acts_in es) ≡ option_and_then (row_at q.n) (find name_cmp q.order es)
find-acts q [] h = refl
find-acts q (e ∷ es) h =
    find-append q (act_rows e.0 e.1) (acts_in es)
    ∙ ap (option_or (find act_cmp q (act_rows e.0 e.1))) (find-acts q es h.1)
    ∙ elim (eq_by_cmp name_cmp q.order e.0)
    as (λ b. eq_by_cmp name_cmp q.order e.0 ≡ b
    → option_or (find act_cmp q (act_rows e.0 e.1)) (option_and_then (row_at q.n) (find name_cmp q.order es)) ≡ option_and_then (row_at q.n) (cond b (Some e.1) (find name_cmp q.order es))) [
      | true ↦ λ tied.
          let order : q.order ≡ e.0 = is_same names_apart q.order e.0 tied in
          let key : q ≡ act_key e.0 (0 + q.n) = λ i. record { order = order i; n = sym (zero-add q.n) i } in
          let own : find act_cmp q (act_rows e.0 e.1) ≡ row_at q.n e.1 = ap (λ (l : ActKey). find act_cmp l (act_rows e.0 e.1)) key ∙ find-own e.0 0 q.n e.1.acts in
          ap₂ (λ (o : Option ActRow) (found : Option TripRow). option_or o (option_and_then (row_at q.n) found)) own (not_after name_cmp q.order es (subst (λ k. AreAfter name_cmp k es) (sym order) h.0))
          ∙ none_more (row_at q.n e.1)
      | false ↦ λ other. ap (λ (o : Option ActRow). option_or o (option_and_then (row_at q.n) (find name_cmp q.order es))) (find-other q e.0 0 e.1.acts other)
    ] refl

pub get-acts : (trips : finite.FinMap name_cmp TripRow) (key : ActKey) → finite.get (acts_of trips) key ≡ option_and_then (λ (trip : TripRow). option_map act_row (slice_get trip.acts key.n)) (finite.get trips key.order)
unfolding acts_of
get-acts trips key =
    finite.get-from_entries act_cmp-total (all_act_rows trips) key
    ∙ find-acts key (finite.entries trips) (rise_from_sorted name_cmp (finite.entries trips) (finite.entries_sorted trips))
    ∙ ap (option_and_then (row_at key.n)) (sym (finite.get-entries trips key.order))
