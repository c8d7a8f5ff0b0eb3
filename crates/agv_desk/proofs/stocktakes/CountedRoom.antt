-- At a station that was counted stand afterwards at most as many loads as were found there.
use Rattle.std.proofs.Common.{◌≡◌, ◌+◌, ◌≤◌, ◌&&◌, ℕ, Bool, true, false, cond, not, T, nat_eq, List, [], ◌∷◌, Option, Some, None, count_by, is_lt, arith, refl, sym, ap, subst, ◌∙◌}
use Rattle.std.specs.Cmp.{tied_itself}
use Rattle.std.specs.Cmp.Lexicographic.{pointwise}
use Rattle.std.specs.FinMap as finite
use Rattle.std.specs.FinMap.Entries.{below_all, is_sorted}
use Rattle.std.specs.List.{AllByRecursion}
use Rattle.std.proofs.lemmas.Bool.{false≢true, and_from, and_parts}
use Rattle.std.proofs.lemmas.List.Sums.{sum_by-cons}
use Rattle.agv_header.specs.Name.{name_cmp}
use Rattle.agv_stock.specs.Rooms.{is_at}
use Rattle.agv_stock.specs.declared.place.Place.{Place}
use Rattle.agv_stock.specs.declared.place.Place.TheVariants as place
use Rattle.agv_world_core.specs.StockInvariant.{Places, stored}
use Rattle.agv_world_core.specs.Worlds.{World}
use Rattle.agv_world_core.proofs.lists.Entries.{entries_found, same_Some}
use Rattle.agv_world_core.proofs.lists.Orders.{names_total}
use Rattle.agv_desk.specs.StockTaken.{IsStockTaken}
use Rattle.agv_desk.specs.StocktakeSteps.{Row, finds_known, found_at, found_here, has_load, is_counted}
use Rattle.agv_desk.proofs.outcomes.Known.{none_some}
use Rattle.agv_desk.proofs.lists.SameNames.{name_itself, same_name}
use Rattle.agv_desk.proofs.lists.Writes.{one_if}

abbrev Load : Type 0
Load = List ℕ × Place

-- ---- sums
if_only : (a b : Bool) → (a ≡ true → b ≡ true) → one_if a ≤ one_if b
if_only true true h = omega arith
if_only true false h = absurd (false≢true (h refl))
if_only false b h = omega arith

added_le : (n m a b k l : ℕ) → n ≡ a + k → m ≡ b + l → a ≤ b → k ≤ l → n ≤ m
added_le n m a b k l e f g h = omega arith

no_sum : (n a k : ℕ) → n ≡ a + k → a ≡ 0 → k ≡ 0 → n ≡ 0
no_sum n a k e f g = omega arith

two_parts : (a b : Bool) → one_if a ≡ one_if (a && b) + one_if (a && not b)
two_parts true true = refl
two_parts true false = refl
two_parts false b = refl

split_sum : (n p q a b c k l m : ℕ) → n ≡ a + k → p ≡ b + l → q ≡ c + m → a ≡ b + c → k ≡ l + m → n ≡ p + q
split_sum n p q a b c k l m e f g h i = omega arith

-- ---- counts of a list
module _ {A : Type 0} where
  counts : (test : A → Bool) (x : A) (xs : List A) → count_by test (x ∷ xs) ≡ one_if (test x) + count_by test xs
  counts test x xs = sum_by-cons (λ y. one_if (test y)) x xs

  -- what passes the first test passes the second
  count-le : (test other : A → Bool) (xs : List A) → AllByRecursion (λ x. test x ≡ true → other x ≡ true) xs → count_by test xs ≤ count_by other xs
  count-le test other [] all = omega arith
  count-le test other (x ∷ xs) all =
      added_le _ _ _ _ _ _ (counts test x xs) (counts other x xs) (if_only (test x) (other x) all.0) (count-le test other xs all.1)

  count-none : (test : A → Bool) (xs : List A) → AllByRecursion (λ x. test x ≡ false) xs → count_by test xs ≡ 0
  count-none test [] all = refl
  count-none test (x ∷ xs) all = no_sum _ _ _ (counts test x xs) (ap one_if all.0) (count-none test xs all.1)

  count-split : (test other : A → Bool) (xs : List A) → count_by test xs ≡ count_by (λ x. test x && other x) xs + count_by (λ x. test x && not (other x)) xs
  count-split test other [] = refl
  count-split test other (x ∷ xs) =
      split_sum _ _ _ _ _ _ _ _ _ (counts test x xs) (counts (λ y. test y && other y) x xs) (counts (λ y. test y && not (other y)) x xs)
      (two_parts (test x) (other x)) (count-split test other xs)

  all_of : (P Q : A → Type 0) → ((x : A) → P x → Q x) → (xs : List A) → AllByRecursion P xs → AllByRecursion Q xs
  all_of P Q f [] all = tt
  all_of P Q f (x ∷ xs) all = (f x all.0, all_of P Q f xs all.1)

  everywhere : (P : A → Type 0) → ((x : A) → P x) → (xs : List A) → AllByRecursion P xs
  everywhere P f [] = tt
  everywhere P f (x ∷ xs) = (f x, everywhere P f xs)

-- ---- a name stands once in a list in the order of names
left : (a b : Bool) → T (a && b) → T a
left true b p = tt
left false b p = p

right : (a b : Bool) → T (a && b) → T b
right true b p = p
right false b p = absurd p

not_below : (q : List ℕ) → T (is_lt (name_cmp q q)) → ⊥
not_below q below = subst (λ o. T (is_lt o)) (tied_itself names_total q) below

none_later : (name : List ℕ) (loads : List Load) → T (below_all name_cmp name loads) → count_by (λ (load : Load). pointwise nat_eq name load.0) loads ≡ 0
none_later name [] below = refl
none_later name (load ∷ loads) below =
    elim (pointwise nat_eq name load.0) as (λ b. pointwise nat_eq name load.0 ≡ b → count_by (λ (load : Load). pointwise nat_eq name load.0) (load ∷ loads) ≡ 0) [
      | true ↦ λ same. absurd (not_below name (subst (λ q. T (is_lt (name_cmp name q))) (sym (same_name name load.0 same)) (left _ _ below)))
      | false ↦ λ differs. no_sum _ _ _ (counts (λ (load : Load). pointwise nat_eq name load.0) load loads) (ap one_if differs) (none_later name loads (right _ _ below))
    ] refl

one_and_none : (n a k : ℕ) → n ≡ a + k → a ≤ 1 → k ≡ 0 → n ≤ 1
one_and_none n a k e f g = omega arith

none_and_one : (n a k : ℕ) → n ≡ a + k → a ≡ 0 → k ≤ 1 → n ≤ 1
none_and_one n a k e f g = omega arith

at_most_one : (b : Bool) → one_if b ≤ 1
at_most_one true = omega arith
at_most_one false = omega arith

once : (name : List ℕ) (loads : List Load) → T (is_sorted name_cmp loads) → count_by (λ (load : Load). pointwise nat_eq name load.0) loads ≤ 1
once name [] ordered = omega arith
once name (load ∷ loads) ordered =
    let sum = counts (λ (load : Load). pointwise nat_eq name load.0) load loads in
    elim (pointwise nat_eq name load.0) as (λ b. pointwise nat_eq name load.0 ≡ b → count_by (λ (load : Load). pointwise nat_eq name load.0) (load ∷ loads) ≤ 1) [
      | true ↦ λ same.
          one_and_none _ _ _ sum (at_most_one (pointwise nat_eq name load.0))
          (none_later name loads (subst (λ q. T (below_all name_cmp q loads)) (sym (same_name name load.0 same)) (left _ _ ordered)))
      | false ↦ λ differs. none_and_one _ _ _ sum (ap one_if differs) (once name loads (right _ _ ordered))
    ] refl

-- ---- the loads that were found at a station
module _ (world : World) (station : List ℕ) where
  -- the rows find the load there, and it is known
  abbrev IsFoundBy : List Row → List ℕ → Type 0
  IsFoundBy rows load = (found_at rows load ≡ Some station) × (finds_known world (Some load) ≡ true)

  later : (b : Bool) (first : List ℕ) (rest : Option (List ℕ)) → not b ≡ true → cond b (Some first) rest ≡ Some station → rest ≡ Some station
  later true first rest h e = absurd (false≢true h)
  later false first rest h e = e

  earlier : (b : Bool) (first : List ℕ) (rest : Option (List ℕ)) → b ≡ true → cond b (Some first) rest ≡ Some station → first ≡ station
  earlier true first rest h e = same_Some _ _ e
  earlier false first rest h e = absurd (false≢true h)

  no_load : (test : Load → Bool) (loads : List Load) → count_by (λ (load : Load). test load && has_load load.0 None) loads ≤ 0
  no_load test [] = omega arith
  no_load test (load ∷ loads) = no_more _ _ _ (counts (λ (load : Load). test load && has_load load.0 None) load loads) (never (test load)) (no_load test loads)
    where
      never : (b : Bool) → one_if (b && false) ≡ 0
      never true = refl
      never false = refl

      no_more : (n a k : ℕ) → n ≡ a + k → a ≡ 0 → k ≤ 0 → n ≤ 0
      no_more n a k e f g = omega arith

  -- the loads of one row
  of_row : (row : Row) (rows : List Row) (load : Option (List ℕ)) → row.1 ≡ load → (test : Load → Bool) (loads : List Load) → T (is_sorted name_cmp loads)
      → AllByRecursion (λ (one : Load). test one ≡ true → IsFoundBy (row ∷ rows) one.0) loads
      → count_by (λ (one : Load). test one && has_load one.0 load) loads ≤ one_if (pointwise nat_eq row.0 station && finds_known world load)
  of_row row rows None is test loads ordered all = fewer _ _ (no_load test loads)
    where
      fewer : (n m : ℕ) → n ≤ 0 → n ≤ m
      fewer n m h = omega arith
  of_row row rows (Some name) is test loads ordered all =
      elim (pointwise nat_eq row.0 station && finds_known world (Some name)) as (λ b. (pointwise nat_eq row.0 station && finds_known world (Some name)) ≡ b → count_by (λ (one : Load). test one && pointwise nat_eq name one.0) loads ≤ one_if b) [
        | true ↦ λ finds.
            through _ _ (count-le (λ (one : Load). test one && pointwise nat_eq name one.0) (λ (one : Load). pointwise nat_eq name one.0) loads (everywhere _ (λ one both. (and_parts (test one) _ both).1) loads))
            (once name loads ordered)
        | false ↦ λ fails.
            none_le _ (count-none (λ (one : Load). test one && pointwise nat_eq name one.0) loads (all_of _ _ (λ one found. never one found fails) loads all))
      ] refl
    where
      through : (n m : ℕ) → n ≤ m → m ≤ 1 → n ≤ 1
      through n m h k = omega arith

      none_le : (n : ℕ) → n ≡ 0 → n ≤ 0
      none_le n h = omega arith

      is_false : (b : Bool) → (b ≡ true → ⊥) → b ≡ false
      is_false true h = absurd (h refl)
      is_false false h = refl

      never : (one : Load) → (test one ≡ true → IsFoundBy (row ∷ rows) one.0) → (pointwise nat_eq row.0 station && finds_known world (Some name)) ≡ false → (test one && pointwise nat_eq name one.0) ≡ false
      never one found fails = is_false _ (λ both.
          let parts = and_parts (test one) _ both in
          let here = found parts.0 in
          let has : has_load one.0 row.1 ≡ true = ap (has_load one.0) is ∙ parts.1 in
          let there : row.0 ≡ station = earlier (has_load one.0 row.1) row.0 (found_at rows one.0) has here.0 in
          let known : finds_known world (Some name) ≡ true = ap (λ q. finds_known world (Some q)) (same_name name one.0 parts.1) ∙ here.1 in
          false≢true (sym fails ∙ and_from _ _ (ap (pointwise nat_eq row.0) (sym there) ∙ name_itself row.0) known))

  -- the loads of all rows
  of_rows : (rows : List Row) (test : Load → Bool) (loads : List Load) → T (is_sorted name_cmp loads)
      → AllByRecursion (λ (one : Load). test one ≡ true → IsFoundBy rows one.0) loads → count_by test loads ≤ found_here world rows station
  of_rows [] test loads ordered all =
      none_le _ _ (count-none test loads (all_of _ _ (λ one found. never (test one) one found) loads all))
    where
      none_le : (n m : ℕ) → n ≡ 0 → n ≤ m
      none_le n m h = omega arith

      never : (b : Bool) (one : Load) → (b ≡ true → IsFoundBy [] one.0) → b ≡ false
      never true one found = none_some (found refl).0
      never false one found = refl
  of_rows (row ∷ rows) test loads ordered all =
      sum_le _ _ _ _ _ _ (count-split test (λ (one : Load). has_load one.0 row.1) loads) (counts (λ (row : Row). pointwise nat_eq row.0 station && finds_known world row.1) row rows)
      (of_row row rows row.1 refl test loads ordered all)
      (of_rows rows (λ (one : Load). test one && not (has_load one.0 row.1)) loads ordered (all_of _ _ (λ one found. rest one found) loads all))
    where
      sum_le : (n a b m c d : ℕ) → n ≡ a + b → m ≡ c + d → a ≤ c → b ≤ d → n ≤ m
      sum_le n a b m c d e f g h = omega arith

      rest : (one : Load) → (test one ≡ true → IsFoundBy (row ∷ rows) one.0) → (test one && not (has_load one.0 row.1)) ≡ true → IsFoundBy rows one.0
      rest one found both =
          let parts = and_parts (test one) _ both in
          let here = found parts.0 in
          (later (has_load one.0 row.1) row.0 (found_at rows one.0) parts.1 here.0, here.1)

  -- where the loads are as a stocktake leaves them, there are at a counted station at most as many as were found there
  pub counted_few : (rows : List Row) (places : Places) → IsStockTaken world rows places → is_counted rows station ≡ true → stored places station ≤ found_here world rows station
  counted_few rows places taken counted =
      of_rows rows (λ (one : Load). is_at station one.1) (finite.entries places) (finite.entries_sorted places)
      (all_of _ _ (λ one there. found_by one.0 one.1 there) (finite.entries places) (entries_found names_total places))
    where
      stands : (at : Place) → is_at station at ≡ true → at ≡ place.Station station
      stands (place.Station id) is = ap (λ (name : List ℕ). place.Station name) (same_name id station is)
      stands (place.Vehicle key) is = absurd (false≢true is)
      stands place.Checking is = absurd (false≢true is)
      stands place.Left is = absurd (false≢true is)

      found_by : (load : List ℕ) (at : Place) → finite.get places load ≡ Some at → is_at station at ≡ true → IsFoundBy rows load
      found_by load at there is = (taken.found station load counted).0 (there ∙ ap (λ (place : Place). Some place) (stands at is))
