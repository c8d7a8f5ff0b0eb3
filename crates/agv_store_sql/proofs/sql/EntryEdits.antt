-- The rows of a table where an entry is added, and where the entries of some rowids are taken out.
use Rattle.std.proofs.Common.{◌≡◌, ℤ, Bool, true, false, not, ◌&&◌, ◌||◌, cond, List, [], ◌∷◌, map, filter, Ordering, Less, Equal, Greater, refl, sym, ap, subst, ◌∙◌, inl, inr, IsPermutation}
use Rattle.std.specs.List.{list_any}
use Rattle.std.specs.Ordering.{is_eq, match_ordering}
use Rattle.std.proofs.lemmas.Bool.{cases_Bool, or_parts, false_from_ne_true}
use Rattle.std.proofs.lemmas.List.Sorted.{IsPermutation-refl, IsPermutation-cons, IsPermutation-middle, IsPermutation-trans, IsPermutation-map, IsPermutation-sym, list_any-IsPermutation}
use Rattle.std.proofs.lemmas.Cmp.{tied_itself}
use Rattle.sqlite_value.specs.Order.{Row, value_cmp}
use Rattle.sqlite_value.proofs.OrderLemmas.{value_cmp_total}
use Rattle.sqlite_trees.specs.Tree.{rowid, put_row, without_rowid, has_rowid}
use Rattle.sqlite_trees.specs.View.{is_int}
use Rattle.sqlite_trees.proofs.ListLemmas.{IsPermutation-filter}
use Rattle.sqlite_rules.specs.Lists.{Has}
use Rattle.sqlite_rules.specs.Calls.{ids_of}
use Rattle.sqlite_rules.specs.Edit.{id_in, is_taken, without_all}
use Rattle.sqlite_rules.proofs.ListLemmas.{has_filtered, has_kept, some_has, some_from, all_has}
use Rattle.sqlite_rules.proofs.TableLemmas.{int_is}
use Rattle.agv_store_schema.specs.DeskRows.{AreKeyed, HaveRows}
use Rattle.agv_store_schema.proofs.KeyedEntries.{keyed_put, keyed_filter, same_by_id, tied_ids}

-- ---- lists

pub filter_of_map : {X Y : Type 0} (p : Y → Bool) (f : X → Y) (xs : List X) → filter p (map f xs) ≡ map f (filter (λ x. p (f x)) xs)
filter_of_map p f [] = refl
filter_of_map p f (x ∷ xs) = elim (p (f x)) as (λ b. cond b (f x ∷ filter p (map f xs)) (filter p (map f xs)) ≡ map f (cond b (x ∷ filter (λ y. p (f y)) xs) (filter (λ y. p (f y)) xs)))
    [ true ↦ ap (λ ys. f x ∷ ys) (filter_of_map p f xs) | false ↦ filter_of_map p f xs ]

pub map_of_map : {X Y Z : Type 0} (g : Y → Z) (f : X → Y) (xs : List X) → map g (map f xs) ≡ map (λ x. g (f x)) xs
map_of_map g f [] = refl
map_of_map g f (x ∷ xs) = ap (λ ys. g (f x) ∷ ys) (map_of_map g f xs)

any_of_map : {X Y : Type 0} (p : Y → Bool) (f : X → Y) (xs : List X) → list_any p (map f xs) ≡ list_any (λ x. p (f x)) xs
any_of_map p f [] = refl
any_of_map p f (x ∷ xs) = ap (λ b. p (f x) || b) (any_of_map p f xs)

filter_twice : (p q s : Row → Bool) → ((e : Row) → s e ≡ (p e && q e)) → (entries : List Row) → filter q (filter p entries) ≡ filter s entries
filter_twice p q s is [] = refl
filter_twice p q s is (e ∷ entries) = go (p e) refl (filter_twice p q s is entries)
  where
    go : (b : Bool) → p e ≡ b → filter q (filter p entries) ≡ filter s entries → filter q (filter p (e ∷ entries)) ≡ filter s (e ∷ entries)
    go true h later = rw (h, is e, h, later)
    go false h later = rw (h, is e, h, later)

pub filter_nothing : (entries : List Row) → filter (λ e. true) entries ≡ entries
filter_nothing [] = refl
filter_nothing (e ∷ entries) = ap (λ es. e ∷ es) (filter_nothing entries)

same_filter : (p q : Row → Bool) (entries : List Row) → ((e : Row) → Has entries e → p e ≡ q e) → filter p entries ≡ filter q entries
same_filter p q [] h = refl
same_filter p q (e ∷ entries) h = rw (h e (inl refl), same_filter p q entries (λ x k. h x (inr k)))

-- ---- an entry is added

beside_others : (new : Row) (entries : List Row) → is_taken entries new ≡ false → IsPermutation (new ∷ entries) (put_row new entries)
beside_others new [] free = IsPermutation-refl _
beside_others new (e ∷ entries) free = go (value_cmp (rowid e) (rowid new)) (or_parts _ _ free).0 (beside_others new entries (or_parts _ _ free).1)
  where
    go : (o : Ordering) → is_eq o ≡ false → IsPermutation (new ∷ entries) (put_row new entries) → IsPermutation (new ∷ e ∷ entries) (match_ordering o (e ∷ put_row new entries) (new ∷ entries) (new ∷ e ∷ entries))
    go Less other later = IsPermutation-trans _ _ _ (IsPermutation-sym _ _ (IsPermutation-middle (e ∷ []) new entries)) (IsPermutation-cons e _ _ later)
    go Equal other later = absurd (cc)
    go Greater other later = IsPermutation-refl _

pub one_more_row : (shown : Row → Row) (new : Row) (entries rows : List Row) → is_taken entries new ≡ false → is_int (rowid new) ≡ true → HaveRows shown entries rows → HaveRows shown (put_row new entries) (shown new ∷ rows)
one_more_row shown new entries rows free whole h = (
  keyed_put new entries whole free h.0,
  IsPermutation-trans _ _ _ (IsPermutation-cons (shown new) _ _ h.1) (IsPermutation-map shown _ _ (beside_others new entries free)),
)

-- ---- entries are taken out

taken_by_ids : (ids : List ℤ) (entries : List Row) → without_all entries ids ≡ filter (λ e. not (list_any (λ id. has_rowid id e) ids)) entries
taken_by_ids [] entries = sym (filter_nothing entries)
taken_by_ids (id ∷ ids) entries =
    taken_by_ids ids (without_rowid id entries) ∙ filter_twice (λ e. not (has_rowid id e)) (λ e. not (list_any (λ i. has_rowid i e) ids)) (λ e. not (has_rowid id e || list_any (λ i. has_rowid i e) ids))
    (λ e. neither (has_rowid id e) (list_any (λ i. has_rowid i e) ids)) entries
  where
    neither : (a b : Bool) → not (a || b) ≡ (not a && not b)
    neither true b = refl
    neither false b = refl

ties : (o : Ordering) → is_eq o ≡ true → o ≡ Equal
ties Less h = absurd (cc)
ties Equal h = refl
ties Greater h = absurd (cc)

module _ (p : Row → Bool) (entries : List Row) (keyed : AreKeyed entries) where
  -- an entry's rowid is among those of the entries that pass where it passes itself
  id_passes : (e : Row) → Has entries e → list_any (λ id. has_rowid id e) (ids_of (filter p entries)) ≡ p e
  id_passes e there = any_of_map (λ id. has_rowid id e) (λ x. id_in (rowid x)) (filter p entries) ∙ elim (cases_Bool (p e)) [
    | inl passed ↦ some_from _ (filter p entries) e (has_kept p entries e there passed) (rw (← int_is (rowid e) (all_has _ entries e keyed.whole there), tied_itself value_cmp_total (rowid e))) ∙ sym passed
    | inr failed ↦ false_from_ne_true _ (λ some.
        let x = some_has (λ y. has_rowid (id_in (rowid y)) e) (filter p entries) some in
        let found = has_filtered p entries x.0 x.1 in
        let ids : id_in (rowid e) ≡ id_in (rowid x.0) = tied_ids (rowid e) (id_in (rowid x.0)) (all_has _ entries e keyed.whole there) (ties _ x.2) in
        let same = same_by_id entries keyed.apart e x.0 there found.0 ids in
        let passes : p e ≡ true = ap p same ∙ found.1 in cc) ∙ sym failed
  ]

  others_stay : (ids : List ℤ) → IsPermutation (ids_of (filter p entries)) ids → without_all entries ids ≡ filter (λ e. not (p e)) entries
  others_stay ids are = taken_by_ids ids entries ∙ same_filter _ _ entries (λ e there. ap not (sym (list_any-IsPermutation (λ id. has_rowid id e) _ _ are) ∙ id_passes e there))

pub fewer_rows : (shown : Row → Row) (p : Row → Bool) (entries rows : List Row) → HaveRows shown entries rows → (ids : List ℤ) → IsPermutation (ids_of (filter (λ e. p (shown e)) entries)) ids
    → HaveRows shown (without_all entries ids) (filter (λ row. not (p row)) rows)
fewer_rows shown p entries rows h ids are = rw (others_stay (λ e. p (shown e)) entries h.0 ids are) (
  keyed_filter _ entries h.0,
  subst (IsPermutation (filter (λ row. not (p row)) rows)) (filter_of_map (λ row. not (p row)) shown entries) (IsPermutation-filter (λ row. not (p row)) _ _ h.1),
)
