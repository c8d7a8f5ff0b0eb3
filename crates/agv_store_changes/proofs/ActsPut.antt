-- The acts of an order are written over their rows, one after the other.
use Rattle.std.proofs.Common.{◌≡◌, ◌∙◌, ◌+◌, ◌<◌, ◌≤◌, ◌++◌, ◌&&◌, inl, inr, ℕ, zero, suc, Bool, true, false, not, List, [], ◌∷◌, filter, length, map, get_or, IsPermutation, IsTrue, refl, sym, ap, subst, arith}
use Rattle.std.proofs.lemmas.Bool.{cases_Bool}
use Rattle.std.proofs.lemmas.List.Sorted.{IsPermutation-append_left, IsPermutation-append_right, IsPermutation-cons, IsPermutation-map, IsPermutation-middle, IsPermutation-refl, IsPermutation-sym, IsPermutation-trans}
use Rattle.std.specs.Cmp.{Equal-is, tied_itself}
use Rattle.std.specs.List.{AllByRecursion}
use Rattle.std.specs.Ordering.{is_eq}
use Rattle.sqlite.specs.State.{State, IsUnchanged}
use Rattle.sqlite_trees.proofs.ListLemmas.{all-append, all_weaker, filter_all, filter_none, IsPermutation-filter, IsPermutation-same}
use Rattle.sqlite_value.specs.declared.value.Value.TheVariants.{Text}
use Rattle.sqlite_value.specs.Order.{Row, column}
use Rattle.agv_order.specs.declared.act.Act.{Act}
use Rattle.agv_store_rows.specs.ActKeys.{act_cmp, act_cmp-IsAntisymmetric, act_cmp-total}
use Rattle.agv_store_rows.specs.TripRows.{act_key, act_row, act_rows_from}
use Rattle.agv_store_rows.specs.declared.act_key.ActKey.{ActKey}
use Rattle.agv_store_rows.specs.declared.act_row.ActRow.{ActRow}
use Rattle.agv_store_changes.specs.ActRows.{AreOfOrder, acts_listed}
use Rattle.agv_store_rows.specs.Columns.{act_columns}
use Rattle.agv_store_schema.specs.DeskRows.{Placing, Answers, Holds, IsDesk, Makes, has_columns, has_key, is_equal, on_table, place_of, table_at, table_for, with_rows}
use Rattle.agv_store_rows.specs.RowKeys.{act_row_key, name_key}
use Rattle.agv_store_rows.specs.Rows.{AreAlike, rows_of_acts, without_acts}
use Rattle.agv_store_schema.specs.RowTexts.{columns_deleted}
use Rattle.agv_store_sql.specs.RowUpdates.{with_each}
use Rattle.agv_store_schema.specs.declared.table_name.TableName.TheVariants as the
use Rattle.agv_store_changes.proofs.ChangesRun.{makes_nothing}
use Rattle.agv_store_changes.proofs.RowsStay.{stay-alike}
use Rattle.agv_store_schema.proofs.OnTables.{added, added-permuted, on_table-twice, with_rows-added}
use Rattle.agv_store_rows.proofs.ListsHeld.{alike_itself, held_alike}
use Rattle.agv_store_rows.proofs.KeyTests.{act_tested, and_true}
use Rattle.agv_store_sql.proofs.DeskStatements.{makes_then}

-- ---- a row is written over those of its key

abbrev over : (Row → Bool) → Row → List Row → List Row
over p new rows = map (λ _. new) (filter p rows) ++ filter (λ row. not (p row)) rows

over-permuted : (p : Row → Bool) (new : Row) (xs ys : List Row) → IsPermutation xs ys → IsPermutation (over p new xs) (over p new ys)
over-permuted p new xs ys h =
    let fails = λ (row : Row). not (p row) in
    IsPermutation-trans _ _ _ (IsPermutation-append_left (filter fails xs) _ _ (IsPermutation-map (λ (_ : Row). new) _ _ (IsPermutation-filter p xs ys h)))
    (IsPermutation-append_right (map (λ (_ : Row). new) (filter p ys)) _ _ (IsPermutation-filter fails xs ys h))

-- the first row is that of its key
over-first : (p : Row → Bool) (new row : Row) (rows : List Row) → p row ≡ true → AllByRecursion (λ r. p r ≡ false) rows → over p new (row ∷ rows) ≡ new ∷ rows
over-first p new row rows has none =
    rw (has, filter_none p rows none, filter_all (λ r. not (p r)) rows (all_weaker _ _ (λ r e. ap not e) rows none)) refl

-- a row further on is
over-later : (p : Row → Bool) (new row : Row) (rows : List Row) → p row ≡ false → IsPermutation (over p new (row ∷ rows)) (row ∷ over p new rows)
over-later p new row rows lacks = rw lacks (IsPermutation-middle (map (λ (_ : Row). new) (filter p rows)) row (filter (λ r. not (p r)) rows))

-- ---- the keys of the acts of an order

abbrev has_number : List ℕ → ℕ → Row → Bool
has_number order k = has_key the.Act (act_row_key (act_key order k))

abbrev row_of_act : List ℕ → ℕ → Act → Row
row_of_act order k act = act_columns (act_key order k) (act_row act)

its_own : (order : List ℕ) (k : ℕ) (told : ActRow) → has_number order k (act_columns (act_key order k) told) ≡ true
its_own order k told = act_tested (act_key order k) (act_key order k) told ∙ ap is_eq (tied_itself act_cmp-total (act_key order k))

not_another's : (order : List ℕ) (k n : ℕ) (told : ActRow) → ¬ (k ≡ n) → has_number order k (act_columns (act_key order n) told) ≡ false
not_another's order k n told apart = elim (cases_Bool (has_number order k (act_columns (act_key order n) told))) [
  | inl has ↦
      let tied = sym (act_tested (act_key order k) (act_key order n) told) ∙ has in
      let same : act_key order k ≡ act_key order n = act_cmp-IsAntisymmetric (act_key order k) (act_key order n) ((Equal-is (act_cmp (act_key order k) (act_key order n))).0 tied) in
      absurd (apart (ap (λ (key : ActKey). key.n) same))
  | inr lacks ↦ lacks
]

-- none of the rows that are numbered from a later number on
later_lack : (order : List ℕ) (k n : ℕ) (rows : List Row) → k < n → AreOfOrder order n rows → AllByRecursion (λ r. has_number order k r ≡ false) rows
later_lack order k n [] low are = tt
later_lack order k n (row ∷ rows) low are =
    let apart : ¬ (k ≡ n) = λ same. omega (arith, low, same) in
    (ap (has_number order k) are.0.is ∙ not_another's order k n are.0.told apart, later_lack order k (n + 1) rows (omega (arith, low)) are.1)

-- none of the rows of other orders
others_lack : (order : List ℕ) (k : ℕ) (rows : List Row) → AllByRecursion (λ r. has_number order k r ≡ false) (filter (λ row. not (has_columns (columns_deleted the.Act) (name_key order) row)) rows)
others_lack order k [] = tt
others_lack order k (row ∷ rows) = elim (cases_Bool (has_columns (columns_deleted the.Act) (name_key order) row)) [
  | inl its ↦ rw its (others_lack order k rows)
  | inr other ↦
      let differs : is_equal (column row 0) (Text order) ≡ false = sym (and_true _) ∙ other in
      rw other (ap (λ b. b && has_columns (2 ∷ []) (act_row_key (act_key order k)) row) differs, others_lack order k rows)
]

-- ---- so many acts are written

-- the rows once so many of the acts were written over them; both are numbered from a number on
abbrev pub put_so_far : List ℕ → ℕ → ℕ → List Act → List Row → List Row
put_so_far order s zero acts rows = rows
put_so_far order s (suc n) [] rows = rows
put_so_far order s (suc n) (act ∷ acts) [] = []
put_so_far order s (suc n) (act ∷ acts) (row ∷ rows) = row_of_act order s act ∷ put_so_far order (s + 1) n acts rows

-- the next one is written
put_one : (order : List ℕ) (k s n : ℕ) (acts : List Act) (rows others : List Row) (act : Act) → k ≡ s + n → AreOfOrder order s rows → length rows ≡ length acts → n < length acts → act ≡ get_or acts n act
    → AllByRecursion (λ r. has_number order k r ≡ false) others
    → IsPermutation (over (has_number order k) (row_of_act order k act) (put_so_far order s n acts rows ++ others)) (put_so_far order s (suc n) acts rows ++ others)
put_one order k s n [] rows others act at are long low is lack = let none : ⊥ = omega (arith, low) in absurd none
put_one order k s n (a ∷ acts) [] others act at are long low is lack = let none : ⊥ = omega (arith, long) in absurd none
put_one order k s zero (a ∷ acts) (row ∷ rows) others act at are long low is lack =
    let first : k ≡ s = omega (arith, at) in
    let its : has_number order k row ≡ true = ap (has_number order k) are.0.is ∙ ap (λ n. has_number order k (act_columns (act_key order n) are.0.told)) (sym first) ∙ its_own order k are.0.told in
    let rest = later_lack order k (s + 1) rows (omega (arith, first)) are.1 in
    IsPermutation-same _ _ (over-first (has_number order k) (row_of_act order k act) row (rows ++ others) its (all-append _ rows others rest lack)
    ∙ ap (λ (r : Row). r ∷ (rows ++ others)) (ap (λ n. row_of_act order n act) first ∙ ap (row_of_act order s) is))
put_one order k s (suc n) (a ∷ acts) (row ∷ rows) others act at are long low is lack =
    let apart : ¬ (k ≡ s) = λ same. omega (arith, at, same) in
    IsPermutation-trans _ _ _ (over-later (has_number order k) (row_of_act order k act) (row_of_act order s a) (put_so_far order (s + 1) n acts rows ++ others) (not_another's order k s (act_row a) apart))
    (IsPermutation-cons (row_of_act order s a) _ _ (put_one order k (s + 1) n acts rows others act (omega (arith, at)) are.1 (omega (arith, long)) (omega (arith, low)) is lack))

-- its row is there already
put_none : (order : List ℕ) (k s n : ℕ) (acts : List Act) (rows : List Row) (act : Act) (row : Row) → k ≡ s + n → length rows ≡ length acts → n < length acts → act ≡ get_or acts n act → row ≡ get_or rows n row → row ≡ row_of_act order k act
    → put_so_far order s n acts rows ≡ put_so_far order s (suc n) acts rows
put_none order k s n [] rows act row at long low is its same = let none : ⊥ = omega (arith, low) in absurd none
put_none order k s n (a ∷ acts) [] act row at long low is its same = let none : ⊥ = omega (arith, long) in absurd none
put_none order k s zero (a ∷ acts) (r ∷ rows) act row at long low is its same =
    let first : k ≡ s = omega (arith, at) in
    ap (λ (x : Row). x ∷ rows) (sym its ∙ same ∙ ap (λ n. row_of_act order n act) first ∙ ap (row_of_act order s) is)
put_none order k s (suc n) (a ∷ acts) (r ∷ rows) act row at long low is its same =
    ap (λ (more : List Row). row_of_act order s a ∷ more) (put_none order k (s + 1) n acts rows act row (omega (arith, at)) (omega (arith, long)) (omega (arith, low)) is its same)

-- all are
put_all : (order : List ℕ) (s n : ℕ) (acts : List Act) (rows : List Row) → length rows ≡ length acts → length acts ≤ n → put_so_far order s n acts rows ≡ rows_of_acts (act_rows_from order s acts)
put_all order s zero [] [] long whole = refl
put_all order s (suc n) [] [] long whole = refl
put_all order s n [] (row ∷ rows) long whole = let none : ⊥ = omega (arith, long) in absurd none
put_all order s n (a ∷ acts) [] long whole = let none : ⊥ = omega (arith, long) in absurd none
put_all order s zero (a ∷ acts) (row ∷ rows) long whole = let none : ⊥ = omega (arith, whole) in absurd none
put_all order s (suc n) (a ∷ acts) (row ∷ rows) long whole = ap (λ (more : List Row). row_of_act order s a ∷ more) (put_all order (s + 1) n acts rows (omega (arith, long)) (omega (arith, whole)))

-- ---- in the tables

two_alike : (at : ℕ) (f g : List Row → List Row) (lists : List (List Row)) → IsPermutation (f (table_at at lists)) (g (table_at at lists)) → AreAlike (on_table at f lists) (on_table at g lists)
two_alike at f g [] h = tt
two_alike zero f g (rows ∷ lists) h = (h, alike_itself lists)
two_alike (suc at) f g (rows ∷ lists) h = (IsPermutation-refl rows, two_alike at f g lists h)

-- what is made is all that tells the same rows
makes_alike : (f g : List (List Row) → List (List Row)) (a b : State) → Makes f a b → ((desk : Placing) → IsDesk desk → (lists : List (List Row)) → Holds desk a.now lists → AreAlike (f lists) (g lists)) → Makes g a b
makes_alike f g a b made alike = record {
  made = λ desk is lists h. held_alike desk b.now (f lists) (g lists) (alike desk is lists h) (made.made desk is lists h);
  others = made.others;
  listed = made.listed;
  kept = made.kept;
  mode = made.mode;
}

-- the acts of the order, as these rows have them
abbrev pub with_acts : List ℕ → List Row → List (List Row) → List (List Row)
with_acts order rows lists = with_rows the.Act rows (without_acts order lists)

module _ (order : List ℕ) (acts : List Act) (rows : List Row) where
  abbrev pub so_far : ℕ → List (List Row) → List (List Row)
  so_far n = with_acts order (put_so_far order 0 n acts rows)

  -- none is written yet
  pub puts_none : (a : State) → IsTrue a.in_transaction → Answers (acts_listed order) a rows → Makes (so_far 0) a a
  puts_none a inside shown =
      makes_alike (λ lists. lists) (so_far 0) a a (makes_nothing a inside) (λ desk is lists h. stay-alike the.Act (columns_deleted the.Act) (name_key order) rows lists (shown desk is lists h))

  -- one more is
  pub puts_next : (n : ℕ) (act : Act) (a b c : State) → length rows ≡ length acts → AreOfOrder order 0 rows → n < length acts → act ≡ get_or acts n act
      → Makes (so_far n) a b → Makes (with_each the.Act (table_for the.Act).primary (row_of_act order n act)) b c → Makes (so_far (n + 1)) a c
  puts_next n act a b c long are low is p q =
      let at = place_of the.Act in
      let fails = λ (row : Row). not (has_columns (columns_deleted the.Act) (name_key order) row) in
      let before = put_so_far order 0 n acts rows in
      let after = put_so_far order 0 (suc n) acts rows in
      let next : suc n ≡ n + 1 = omega arith in
      let new = row_of_act order n act in
      let each = with_each the.Act (table_for the.Act).primary new in
      let flat : (more : List Row) (lists : List (List Row)) → with_acts order more lists ≡ on_table at (λ all. added more (filter fails all)) lists =
      λ more lists. with_rows-added the.Act more (without_acts order lists) ∙ on_table-twice at (added more) (filter fails) lists in
      subst (λ (k : ℕ). Makes (so_far k) a c) next
      (makes_alike (λ lists. each (so_far n lists)) (so_far (suc n)) a c (makes_then (so_far n) each a b c p q) (λ desk desk_is lists h.
      let rest = filter fails (table_at at lists) in
      let one : IsPermutation (over (has_number order n) new (added before rest)) (added after rest) =
      IsPermutation-trans _ _ _ (over-permuted (has_number order n) new _ _ (added-permuted before rest))
      (IsPermutation-trans _ _ _ (put_one order n 0 n acts rows rest act (omega arith) are long low is (others_lack order n (table_at at lists)))
      (IsPermutation-sym _ _ (added-permuted after rest))) in
      subst (λ (l : List (List Row)). AreAlike (each l) (so_far (suc n) lists)) (sym (flat before lists))
      (subst (λ (l : List (List Row)). AreAlike l (so_far (suc n) lists)) (sym (on_table-twice at (over (has_number order n) new) (λ all. added before (filter fails all)) lists))
      (subst (AreAlike (on_table at (λ all. over (has_number order n) new (added before (filter fails all))) lists)) (sym (flat after lists))
      (two_alike at (λ all. over (has_number order n) new (added before (filter fails all))) (λ all. added after (filter fails all)) lists one)))))

  -- the row of the next one is there already
  pub puts_same : (n : ℕ) (act : Act) (row : Row) (a b : State) → length rows ≡ length acts → n < length acts → act ≡ get_or acts n act → row ≡ get_or rows n row → row ≡ row_of_act order n act → Makes (so_far n) a b → Makes (so_far (n + 1)) a b
  puts_same n act row a b long low is its same p =
      let next : suc n ≡ n + 1 = omega arith in
      subst (λ (k : ℕ). Makes (so_far k) a b) next
      (subst (λ (put : List Row). Makes (with_acts order put) a b) (put_none order n 0 n acts rows act row (omega arith) long low is its same) p)

  -- all are written
  pub puts_all : (n : ℕ) (a b : State) → length rows ≡ length acts → length acts ≤ n → Makes (so_far n) a b → Makes (with_acts order (rows_of_acts (act_rows_from order 0 acts))) a b
  puts_all n a b long whole p = subst (λ (put : List Row). Makes (with_acts order put) a b) (put_all order 0 n acts rows long whole) p

-- rows that are shown before nothing is changed are there after it
pub still_answers : (asked : List (List Row) → List Row) (a b : State) (rows : List Row) → IsUnchanged a b → Answers asked a rows → Answers asked b rows
still_answers asked a b rows same shown = λ desk is lists h. shown desk is lists (subst (λ db. Holds desk db lists) same.0.now_is h)
