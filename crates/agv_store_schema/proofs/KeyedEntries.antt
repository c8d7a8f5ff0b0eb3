-- Entries whose rowids are whole numbers, no two the same: so they are where the rowids rise, and they stay so where one is added or some are taken out.
use Rattle.std.proofs.Common.{◌≡◌, ◌≢◌, ℤ, Bool, true, false, cond, List, [], ◌∷◌, filter, Ordering, Less, Equal, Greater, refl, sym, ap, ◌∙◌, inl, inr, IsTrue}
use Rattle.std.specs.List.{AllByRecursion}
use Rattle.std.specs.Ordering.{is_eq, match_ordering}
use Rattle.std.proofs.lemmas.Bool.{or_parts}
use Rattle.std.proofs.lemmas.Cmp.{tied_itself}
use Rattle.std.proofs.lemmas.Map.Lookups.{exact_signed}
use Rattle.sqlite_value.specs.declared.value.Value.{Value}
use Rattle.sqlite_value.specs.declared.value.Value.TheVariants.{Int}
use Rattle.sqlite_value.specs.Order.{Row, value_cmp}
use Rattle.sqlite_value.proofs.OrderLemmas.{value_cmp_total, value_cmp-Int}
use Rattle.sqlite_trees.specs.declared.store.Shape.TheVariants as shape
use Rattle.sqlite_trees.specs.Tree.{rowid, put_row, IsAscending}
use Rattle.sqlite_trees.specs.View.{is_int, IsShaped}
use Rattle.sqlite_rules.specs.Lists.{Has}
use Rattle.sqlite_rules.specs.Edit.{id_in, is_taken}
use Rattle.sqlite_rules.proofs.ListLemmas.{all_has}
use Rattle.sqlite_rules.proofs.TableLemmas.{int_is}
use Rattle.agv_store_schema.specs.DeskRows.{AreKeyed}

abbrev Differ : Row → Row → Type 0
Differ a b = id_in (rowid a) ≢ id_in (rowid b)

abbrev AreWhole : List Row → Type 0
AreWhole = AllByRecursion (λ e. IsTrue (is_int (rowid e)))

-- a whole number that ties with another is that one
pub tied_ids : (v : Value) (n : ℤ) → IsTrue (is_int v) → value_cmp v (Int n) ≡ Equal → id_in v ≡ n
tied_ids v n whole tie = exact_signed (id_in v) n (sym (value_cmp-Int (id_in v) n) ∙ ap (λ x. value_cmp x (Int n)) (sym (int_is v whole)) ∙ tie)

untied_differ : (a b : Row) → IsTrue (is_int (rowid a)) → is_int (rowid b) ≡ true → is_eq (value_cmp (rowid a) (rowid b)) ≡ false → Differ a b
untied_differ a b p q untied same =
    let e : rowid a ≡ rowid b = int_is (rowid a) p ∙ ap Int same ∙ sym (int_is (rowid b) q) in
    let tie : is_eq (value_cmp (rowid a) (rowid b)) ≡ true = ap is_eq (ap (λ v. value_cmp v (rowid b)) e ∙ tied_itself value_cmp_total (rowid b)) in cc

-- ---- rowids that rise

less_is_untied : (o : Ordering) → o ≡ Less → is_eq o ≡ false
less_is_untied Less e = refl
less_is_untied Equal e = absurd (cc)
less_is_untied Greater e = absurd (cc)

all_differ : (e : Row) (entries : List Row) → IsTrue (is_int (rowid e)) → AreWhole entries → AllByRecursion (λ x. value_cmp (rowid e) (rowid x) ≡ Less) entries → AllByRecursion (Differ e) entries
all_differ e [] whole wholes less = less
all_differ e (x ∷ entries) whole wholes less = (untied_differ e x whole wholes.0 (less_is_untied _ less.0), all_differ e entries whole wholes.1 less.1)

rising_differ : (entries : List Row) → AreWhole entries → IsAscending (λ a b. value_cmp (rowid a) (rowid b) ≡ Less) entries → IsAscending Differ entries
rising_differ [] wholes h = h
rising_differ (e ∷ entries) wholes h = (all_differ e entries wholes.0 wholes.1 h.0, rising_differ entries wholes.1 h.1)

-- the entries of any table that the store keeps in shape
pub shaped_are_keyed : (entries : List Row) → IsShaped shape.Table entries → AreKeyed entries
shaped_are_keyed entries h = record { whole = h.1; apart = rising_differ entries h.1 h.0 }

-- ---- one more entry

all_put : (P : Row → Type 0) (new : Row) (entries : List Row) → P new → AllByRecursion P entries → AllByRecursion P (put_row new entries)
all_put P new [] p all = (p, all)
all_put P new (e ∷ entries) p all = go (value_cmp (rowid e) (rowid new)) (all_put P new entries p all.1)
  where
    go : (o : Ordering) → AllByRecursion P (put_row new entries) → AllByRecursion P (match_ordering o (e ∷ put_row new entries) (new ∷ entries) (new ∷ e ∷ entries))
    go Less later = (all.0, later)
    go Equal later = (p, all.1)
    go Greater later = (p, all)

new_differs : (new : Row) (entries : List Row) → is_int (rowid new) ≡ true → is_taken entries new ≡ false → AreWhole entries → AllByRecursion (Differ new) entries
new_differs new [] whole free wholes = wholes
new_differs new (e ∷ entries) whole free wholes = let both = or_parts _ _ free in ((λ same. untied_differ e new wholes.0 whole both.0 (sym same)), new_differs new entries whole both.1 wholes.1)

differ_put : (new : Row) (entries : List Row) → is_int (rowid new) ≡ true → is_taken entries new ≡ false → AreWhole entries → IsAscending Differ entries → IsAscending Differ (put_row new entries)
differ_put new [] whole free wholes h = (h, h)
differ_put new (e ∷ entries) whole free wholes h = go (value_cmp (rowid e) (rowid new)) (or_parts _ _ free).0 (differ_put new entries whole (or_parts _ _ free).1 wholes.1 h.1)
  where
    go : (o : Ordering) → is_eq o ≡ false → IsAscending Differ (put_row new entries) → IsAscending Differ (match_ordering o (e ∷ put_row new entries) (new ∷ entries) (new ∷ e ∷ entries))
    go Less other later = (all_put (Differ e) new entries (λ same. (new_differs new (e ∷ entries) whole free wholes).0 (sym same)) h.0, later)
    go Equal other later = absurd (cc)
    go Greater other later = (new_differs new (e ∷ entries) whole free wholes, h)

pub keyed_put : (new : Row) (entries : List Row) → is_int (rowid new) ≡ true → is_taken entries new ≡ false → AreKeyed entries → AreKeyed (put_row new entries)
keyed_put new entries whole free h = record { whole = all_put (λ e. IsTrue (is_int (rowid e))) new entries whole h.whole; apart = differ_put new entries whole free h.whole h.apart }

-- ---- some entries

all_kept : (P : Row → Type 0) (p : Row → Bool) (entries : List Row) → AllByRecursion P entries → AllByRecursion P (filter p entries)
all_kept P p [] all = all
all_kept P p (e ∷ entries) all = go (p e) (all_kept P p entries all.1)
  where
    go : (b : Bool) → AllByRecursion P (filter p entries) → AllByRecursion P (cond b (e ∷ filter p entries) (filter p entries))
    go true later = (all.0, later)
    go false later = later

differ_kept : (p : Row → Bool) (entries : List Row) → IsAscending Differ entries → IsAscending Differ (filter p entries)
differ_kept p [] h = h
differ_kept p (e ∷ entries) h = go (p e) (differ_kept p entries h.1)
  where
    go : (b : Bool) → IsAscending Differ (filter p entries) → IsAscending Differ (cond b (e ∷ filter p entries) (filter p entries))
    go true later = (all_kept (Differ e) p entries h.0, later)
    go false later = later

pub keyed_filter : (p : Row → Bool) (entries : List Row) → AreKeyed entries → AreKeyed (filter p entries)
keyed_filter p entries h = record { whole = all_kept (λ e. IsTrue (is_int (rowid e))) p entries h.whole; apart = differ_kept p entries h.apart }

-- two entries of one rowid are the same entry
pub same_by_id : (entries : List Row) → IsAscending Differ entries → (a b : Row) → Has entries a → Has entries b → id_in (rowid a) ≡ id_in (rowid b) → a ≡ b
same_by_id [] apart a b h k same = absurd h
same_by_id (e ∷ entries) apart a b (inl h) (inl k) same = h ∙ sym k
same_by_id (e ∷ entries) apart a b (inl h) (inr k) same = absurd (all_has _ entries b apart.0 k (ap (λ x. id_in (rowid x)) (sym h) ∙ same))
same_by_id (e ∷ entries) apart a b (inr h) (inl k) same = absurd (all_has _ entries a apart.0 h (ap (λ x. id_in (rowid x)) (sym k) ∙ sym same))
same_by_id (e ∷ entries) apart a b (inr h) (inr k) same = same_by_id entries apart.1 a b h k same
