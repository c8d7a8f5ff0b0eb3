-- Rows that show the rowids of entries are keyed where the entries are.
use Rattle.std.proofs.Common.{◌≡◌, ◌≢◌, ◌∙◌, ◌&&◌, ◌↔◌, ℤ, Bool, true, false, List, [], ◌∷◌, map, length, refl, sym, ap, subst, inl, inr, IsTrue, IsPermutation}
use Rattle.std.specs.BTreeSet as sorted
use Rattle.std.specs.BTreeSet.{BTreeSet, btree_set_len}
use Rattle.std.specs.Cmp.{IsEquivalence}
use Rattle.std.specs.List.{AllByRecursion, IsDistinct, list_all}
use Rattle.std.specs.Ordering.{eq_by_cmp, int_cmp}
use Rattle.std.specs.Set.{distinct_count}
use Rattle.std.proofs.lemmas.Bool.{and_parts, cases_Bool}
use Rattle.std.proofs.lemmas.List.{length-map}
use Rattle.std.proofs.lemmas.Cmp.{eq_by_cmp_equiv, int_cmp_total}
use Rattle.std.proofs.lemmas.List.Sorted.{IsPermutation-map, IsPermutation-sym}
use Rattle.std.proofs.lemmas.Map.Keys.{IsDistinct-IsPermutation}
use Rattle.std.proofs.lemmas.Map.Lookups.{exact_signed}
use Rattle.std.proofs.lemmas.Map.Made.{IsDistinct-from_count, distinct_count-from_IsDistinct}
use Rattle.std.proofs.lemmas.Map.Views.{tells_apart, btree_set_len-from_list}
use Rattle.sqlite_value.specs.Order.{Row, column}
use Rattle.sqlite_trees.specs.Tree.{rowid, IsAscending}
use Rattle.sqlite_trees.specs.View.{is_int}
use Rattle.sqlite_trees.proofs.ListLemmas.{all-permutation}
use Rattle.sqlite_rules.specs.Edit.{id_in}
use Rattle.agv_store_schema.specs.DeskRows.{AreKeyed}

-- ---- keyed rows, as they are tested

abbrev pub same_id : ℤ → ℤ → Bool
same_id = eq_by_cmp int_cmp

abbrev pub ids_in : List Row → List ℤ
ids_in = map (λ row. id_in (column row 0))

abbrev pub are_whole : List Row → Bool
are_whole = list_all (λ row. is_int (column row 0))

laws : IsEquivalence same_id
laws = eq_by_cmp_equiv int_cmp_total

differ_by : (a b : ℤ) → same_id a b ≡ false → a ≢ b
differ_by a b other same = let tie = subst (λ x. same_id a x ≡ true) same (laws.refl a) in cc

apart_by : (a b : ℤ) → a ≢ b → same_id a b ≡ false
apart_by a b other = elim (cases_Bool (same_id a b)) [ inl tie ↦ absurd (other (tells_apart exact_signed a b tie)) | inr e ↦ e ]

whole_each : (rows : List Row) → are_whole rows ≡ true → AllByRecursion (λ e. IsTrue (is_int (rowid e))) rows
whole_each [] h = tt
whole_each (row ∷ rows) h = let both = and_parts _ _ h in (both.0, whole_each rows both.1)

each_whole : (rows : List Row) → AllByRecursion (λ e. IsTrue (is_int (rowid e))) rows → are_whole rows ≡ true
each_whole [] h = refl
each_whole (row ∷ rows) h = let more = each_whole rows h.1 in λ i. h.0 i && more i

all_apart : (a : ℤ) (rows : List Row) → AllByRecursion (λ b. same_id a b ≡ false) (ids_in rows) → AllByRecursion (λ b. a ≢ id_in (rowid b)) rows
all_apart a [] h = tt
all_apart a (row ∷ rows) h = (differ_by a (id_in (rowid row)) h.0, all_apart a rows h.1)

all_distinct : (a : ℤ) (rows : List Row) → AllByRecursion (λ b. a ≢ id_in (rowid b)) rows → AllByRecursion (λ b. same_id a b ≡ false) (ids_in rows)
all_distinct a [] h = tt
all_distinct a (row ∷ rows) h = (apart_by a (id_in (rowid row)) h.0, all_distinct a rows h.1)

apart : (rows : List Row) → IsDistinct same_id (ids_in rows) → IsAscending (λ a b. id_in (rowid a) ≢ id_in (rowid b)) rows
unfolding IsDistinct
apart [] h = tt
apart (row ∷ rows) h = (all_apart (id_in (rowid row)) rows h.0, apart rows h.1)

distinct : (rows : List Row) → IsAscending (λ a b. id_in (rowid a) ≢ id_in (rowid b)) rows → IsDistinct same_id (ids_in rows)
unfolding IsDistinct
distinct [] h = tt
distinct (row ∷ rows) h = (all_distinct (id_in (rowid row)) rows h.0, distinct rows h.1)

-- ---- the test: as many different numbers as rows

pub keyed_by : (rows : List Row) (ids : BTreeSet ℤ) → sorted.IsFromIterResult int_cmp (ids_in rows) ids → are_whole rows ≡ true → btree_set_len ids ≡ length rows → AreKeyed rows
keyed_by rows ids from whole same =
    let count : distinct_count same_id (ids_in rows) ≡ length (ids_in rows) = sym (btree_set_len-from_list int_cmp_total (ids_in rows) ids from) ∙ same ∙ sym (length-map rows (λ row. id_in (column row 0))) in
    record { whole = whole_each rows whole; apart = apart rows (IsDistinct-from_count laws (ids_in rows) count) }

pub whole_of : (rows : List Row) → AreKeyed rows → are_whole rows ≡ true
whole_of rows keyed = each_whole rows keyed.whole

pub counted_of : (rows : List Row) (ids : BTreeSet ℤ) → sorted.IsFromIterResult int_cmp (ids_in rows) ids → AreKeyed rows → btree_set_len ids ≡ length rows
counted_of rows ids from keyed =
    btree_set_len-from_list int_cmp_total (ids_in rows) ids from ∙ distinct_count-from_IsDistinct laws (ids_in rows) (distinct rows keyed.apart) ∙ length-map rows (λ row. id_in (column row 0))

-- ---- rows that show rowids

abbrev shown : List Row → List Row
shown = map (λ e. rowid e ∷ [])

shown_ids : (entries : List Row) → ids_in (shown entries) ≡ ids_in entries
shown_ids [] = refl
shown_ids (e ∷ entries) = ap (λ ids. id_in (rowid e) ∷ ids) (shown_ids entries)

shown_whole : (entries : List Row) → are_whole (shown entries) ≡ are_whole entries
shown_whole [] = refl
shown_whole (e ∷ entries) = ap (λ b. is_int (rowid e) && b) (shown_whole entries)

keyed_again : (rows others : List Row) → IsPermutation rows others → AreKeyed rows → AreKeyed others
keyed_again rows others same keyed = record {
  whole = all-permutation (λ e. IsTrue (is_int (rowid e))) rows others same keyed.whole;
  apart = apart others (IsDistinct-IsPermutation same_id laws.symm (ids_in rows) (ids_in others) (IsPermutation-map (λ row. id_in (column row 0)) rows others same) (distinct rows keyed.apart));
}

shown_keyed : (entries : List Row) → AreKeyed entries → AreKeyed (shown entries)
shown_keyed entries keyed = record {
  whole = whole_each (shown entries) (shown_whole entries ∙ each_whole entries keyed.whole);
  apart = apart (shown entries) (subst (IsDistinct same_id) (sym (shown_ids entries)) (distinct entries keyed.apart));
}

keyed_shown : (entries : List Row) → AreKeyed (shown entries) → AreKeyed entries
keyed_shown entries keyed = record {
  whole = whole_each entries (sym (shown_whole entries) ∙ each_whole (shown entries) keyed.whole);
  apart = apart entries (subst (IsDistinct same_id) (shown_ids entries) (distinct (shown entries) keyed.apart));
}

pub keyed_alike : (entries rows : List Row) → IsPermutation (shown entries) rows → AreKeyed rows ↔ AreKeyed entries
keyed_alike entries rows same = (
  (λ keyed. keyed_shown entries (keyed_again rows (shown entries) (IsPermutation-sym (shown entries) rows same) keyed)),
  (λ keyed. keyed_again (shown entries) rows same (shown_keyed entries keyed)),
)
