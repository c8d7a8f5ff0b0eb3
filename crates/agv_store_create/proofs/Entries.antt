-- A row that is put into a table under a free number.
use Rattle.std.proofs.Common.{◌≡◌, false, true, List, [], ◌∷◌, drop, Ordering, Less, Equal, Greater, IsPermutation}
use Rattle.std.specs.Ordering.{is_eq, match_ordering}
use Rattle.std.proofs.lemmas.Bool.{or_parts}
use Rattle.std.proofs.lemmas.List.Sorted.{IsPermutation-refl, IsPermutation-cons, IsPermutation-middle, IsPermutation-trans, IsPermutation-map, IsPermutation-sym}
use Rattle.sqlite_value.specs.Order.{Row, value_cmp}
use Rattle.sqlite_trees.specs.Tree.{rowid, put_row}
use Rattle.sqlite_trees.specs.View.{is_int}
use Rattle.sqlite_trees.proofs.TreeLemmas.{IsShaped-put_row}
use Rattle.sqlite_rules.specs.Edit.{is_taken}
use Rattle.agv_store_create.specs.DeskTables.{HasRows}

-- it stands somewhere among the others
put_among : (new : Row) (entries : List Row) → is_taken entries new ≡ false → IsPermutation (new ∷ entries) (put_row new entries)
put_among new [] free = IsPermutation-refl _
put_among new (e ∷ entries) free = go (value_cmp (rowid e) (rowid new)) (or_parts _ _ free).0 (put_among new entries (or_parts _ _ free).1)
  where
    go : (o : Ordering) → is_eq o ≡ false → IsPermutation (new ∷ entries) (put_row new entries) → IsPermutation (new ∷ e ∷ entries) (match_ordering o (e ∷ put_row new entries) (new ∷ entries) (new ∷ e ∷ entries))
    go Less other later = IsPermutation-trans _ _ _ (IsPermutation-sym _ _ (IsPermutation-middle (e ∷ []) new entries)) (IsPermutation-cons e _ _ later)
    go Equal other later = absurd cc
    go Greater other later = IsPermutation-refl _

-- so the table has that row beside those it had
pub HasRows-put_row : (new : Row) (entries rows : List Row) → is_taken entries new ≡ false → is_int (rowid new) ≡ true → HasRows entries rows → HasRows (put_row new entries) (drop 1 new ∷ rows)
HasRows-put_row new entries rows free numbered h = (
  IsShaped-put_row new entries numbered h.0,
  IsPermutation-trans _ _ _ (IsPermutation-cons (drop 1 new) _ _ h.1) (IsPermutation-map (drop 1) _ _ (put_among new entries free)),
)
