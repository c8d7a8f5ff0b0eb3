-- Reading all rows of a table gives the table.
use Rattle.std.proofs.Common.{◌≡◌, ◌||◌, ◌+◌, ◌++◌, ◌≤◌, ℕ, suc, arith, Bool, true, false, cond, List, [], ◌∷◌, filter, length, map, Option, None, Some, Ok, Err, Result, Ordering, IsPermutation, is_eq, refl, sym, ap, ap₂, subst, ◌∙◌, inl, inr}
use Rattle.std.proofs.lemmas.Bool.{cases_Bool}
use Rattle.std.proofs.lemmas.List.{length-append}
use Rattle.std.proofs.lemmas.List.Elements.{filter-append}
use Rattle.std.proofs.lemmas.List.Sorted.{IsPermutation-append, IsPermutation-middle, IsPermutation-refl, IsPermutation-sym, IsPermutation-trans, length_permutation}
use Rattle.std.specs.Cmp.{IsTotalOrder, Equal-is, tied_itself}
use Rattle.std.specs.FinMap.{FinMap, IsAntisymmetric, empty, entries, find, get, get-empty, get-entries, get-insert, get-remove, insert, len-empty, len-entries, remove, same_map}
use Rattle.std.specs.List.{AllByRecursion, list_any}
use Rattle.std.specs.Ordering.{eq_by_cmp}
use Rattle.std.specs.Result.{IsErrAnd}
use Rattle.sqlite_trees.proofs.ListLemmas.{all-permutation, IsPermutation-filter, pull_back}
use Rattle.sqlite_value.specs.Order.{Row}
use Rattle.agv_store_rows.specs.ValueEncodings.{if_some}
use Rattle.agv_store_read.specs.ReadTables.{Reads, if_free, read_rows}
use Rattle.agv_store_rows.specs.Rows.{rows_in}
use Rattle.agv_store_read.specs.declared.open_fault.OpenFault.{OpenFault}
use Rattle.agv_store_read.specs.declared.open_fault.OpenFault.TheVariants as fault
use Rattle.agv_store_read.proofs.Asking.{Follows}
use Rattle.agv_store_schema.proofs.MapEntries.{at_key, entries-at_key, entries-insert-permuted}
use Rattle.agv_store_schema.proofs.SpreadRows.{entries_found}

-- a list of no length has nothing
pub none_left : {A : Type 0} (xs : List A) → length xs ≡ 0 → xs ≡ []
none_left [] h = refl
none_left (x ∷ xs) h = absurd (cc h)

-- the empty table has no entry
pub no_entries : {K X : Type 0} (R : K → K → Ordering) → entries (empty {X = X} {R = R}) ≡ []
no_entries {K} {X} R = none_left _ (sym (len-entries (empty {X = X} {R = R})) ∙ len-empty R X)

-- an entry of a free key is one more
pub added : {K X : Type 0} {R : K → K → Ordering} (total : IsTotalOrder R) (apart : IsAntisymmetric R) (table : FinMap R X) (k : K) (x : X) → get table k ≡ None → IsPermutation ((k, x) ∷ entries table) (entries (insert table k x))
added {K} {X} {R} total apart table k x free =
    subst (λ (t : FinMap R X). IsPermutation ((k, x) ∷ entries t) (entries (insert table k x))) same (entries-insert-permuted total apart table k x)
  where
    same : remove table k ≡ table
    same = same_map total apart (remove table k) table (λ q.
        get-remove total table k q
        ∙ elim (eq_by_cmp R q k) as (λ b. eq_by_cmp R q k ≡ b → cond b None (get table q) ≡ get table q) [
          | true ↦ λ is. sym (ap (get table) (apart q k ((Equal-is (R q k)).0 is)) ∙ free)
          | false ↦ λ _. refl
        ] refl)

module _ {K X : Type 0} {R : K → K → Ordering} (total : IsTotalOrder R) (apart : IsAntisymmetric R) where
  -- the table with these entries written into it
  abbrev written : FinMap R X → List (K × X) → FinMap R X
  written table [] = table
  written table (e ∷ es) = written (insert table e.0 e.1) es

  any_key : K → List (K × X) → Bool
  any_key q es = list_any (λ (e : K × X). eq_by_cmp R q e.0) es

  none_of : (q : K) (es : List (K × X)) → list_any (λ (e : K × X). eq_by_cmp R q e.0) es ≡ false → AllByRecursion (λ (e : K × X). eq_by_cmp R q e.0 ≡ false) es
  none_of q [] h = tt
  none_of q (e ∷ es) h = elim (eq_by_cmp R q e.0) as (λ b. eq_by_cmp R q e.0 ≡ b → (b || list_any (λ (f : K × X). eq_by_cmp R q f.0) es) ≡ false → (eq_by_cmp R q e.0 ≡ false) × AllByRecursion (λ (f : K × X). eq_by_cmp R q f.0 ≡ false) es) [
    | true ↦ λ is no. absurd (cc no)
    | false ↦ λ is no. (is, none_of q es no)
  ] refl h

  find_none : (q : K) (es : List (K × X)) → AllByRecursion (λ (e : K × X). eq_by_cmp R q e.0 ≡ false) es → find R q es ≡ None
  find_none q [] h = refl
  find_none q (e ∷ es) h = ap (λ b. cond b (Some e.1) (find R q es)) h.0 ∙ find_none q es h.1

  module _ (m : FinMap R X) where
    -- what the written table has at a key
    get-written : (table : FinMap R X) (es : List (K × X)) → AllByRecursion (λ (e : K × X). get m e.0 ≡ Some e.1) es → (q : K)
        → get (written table es) q ≡ cond (list_any (λ (e : K × X). eq_by_cmp R q e.0) es) (get m q) (get table q)
    get-written table [] are q = refl
    get-written table (e ∷ es) are q =
        get-written (insert table e.0 e.1) es are.1 q
        ∙ ap (cond (list_any (λ (f : K × X). eq_by_cmp R q f.0) es) (get m q)) (get-insert total table e.0 e.1 q)
        ∙ elim (eq_by_cmp R q e.0)
        as (λ b. eq_by_cmp R q e.0 ≡ b → cond (list_any (λ (f : K × X). eq_by_cmp R q f.0) es) (get m q) (cond b (Some e.1) (get table q)) ≡ cond (b || list_any (λ (f : K × X). eq_by_cmp R q f.0) es) (get m q) (get table q)) [
          | true ↦ λ is.
              let same : get m q ≡ Some e.1 = ap (get m) (apart q e.0 ((Equal-is (R q e.0)).0 is)) ∙ are.0 in
              elim (list_any (λ (f : K × X). eq_by_cmp R q f.0) es) as (λ b. cond b (get m q) (Some e.1) ≡ get m q) [ true ↦ refl | false ↦ sym same ]
          | false ↦ λ is. refl
        ] refl

    whole : (es : List (K × X)) → IsPermutation (entries m) es → written empty es ≡ m
    whole es h = same_map total apart (written empty es) m (λ q.
        get-written empty es (all-permutation (λ (e : K × X). get m e.0 ≡ Some e.1) (entries m) es h (entries_found total m)) q
        ∙ elim (cases_Bool (list_any (λ (e : K × X). eq_by_cmp R q e.0) es)) [
          | inl some ↦ ap (λ b. cond b (get m q) (get (empty {X = X} {R = R}) q)) some
          | inr none ↦
              ap (λ b. cond b (get m q) (get (empty {X = X} {R = R}) q)) none
              ∙ get-empty {X = X} R q
              ∙ sym (get-entries m q ∙ find_none q (entries m) (all-permutation (λ (e : K × X). eq_by_cmp R q e.0 ≡ false) es (entries m) (IsPermutation-sym _ _ h) (none_of q es none)))
        ])

    -- a key that is still to come isn't there yet
    free_of : (table : FinMap R X) (e : K × X) (es : List (K × X)) → IsPermutation (entries m) (entries table ++ e ∷ es) → get table e.0 ≡ None
    free_of table e es h =
        elim (get table e.0) as (λ o. get table e.0 ≡ o → o ≡ None) [
          | None ↦ λ _. refl
          | Some y ↦ λ is. absurd (twice is)
        ] refl
      where
        passes : K × X → Bool
        passes f = eq_by_cmp R e.0 f.0

        once : (o : Option X) → length (at_key e.0 o) ≤ 1
        once None = omega arith
        once (Some x) = omega arith

        too_many : (all one more : ℕ) → all ≤ 1 → all ≡ suc one + suc more → ⊥
        too_many all one more low is = omega arith

        own : passes e ≡ true
        own = ap is_eq (tied_itself total e.0)

        twice : {y : X} → get table e.0 ≡ Some y → ⊥
        twice is =
            let all : length (filter passes (entries m)) ≤ 1 = subst (λ l. length l ≤ 1) (sym (entries-at_key total apart m e.0)) (once (get m e.0)) in
            let moved = sym (length_permutation _ _ (IsPermutation-filter passes _ _ h)) in
            let parts = ap length (filter-append passes (entries table) (e ∷ es)) ∙ length-append (filter passes (entries table)) (filter passes (e ∷ es)) in
            let first = ap length (entries-at_key total apart table e.0 ∙ ap (at_key e.0) is) in
            let second = ap (λ b. length (cond b (e ∷ filter passes es) (filter passes es))) own in
            too_many _ 0 (length (filter passes es)) all (moved ∙ parts ∙ ap₂ ◌+◌ first second)

    module _ (columns : K → X → Row) (told : Row → Option (K × X)) (kept : (k : K) (x : X) → get m k ≡ Some x → told (columns k x) ≡ Some (k, x)) where
      reads_entries : (table : FinMap R X) (es : List (K × X)) → AllByRecursion (λ (e : K × X). get m e.0 ≡ Some e.1) es → IsPermutation (entries m) (entries table ++ es) → read_rows told table (map (λ (e : K × X). columns e.0 e.1) es) ≡ Some (written table es)
      reads_entries table [] are h = refl
      reads_entries table (e ∷ es) are h =
          let free = free_of table e es h in
          ap (λ (o : Option (K × X)). if_some o (λ entry. if_free (get table entry.0) (read_rows told (insert table entry.0 entry.1) (map (λ (f : K × X). columns f.0 f.1) es)))) (kept e.0 e.1 are.0)
          ∙ ap (λ (o : Option X). if_free o (read_rows told (insert table e.0 e.1) (map (λ (f : K × X). columns f.0 f.1) es))) free
          ∙ reads_entries (insert table e.0 e.1) es are.1
          (IsPermutation-trans _ _ _ h (IsPermutation-trans _ _ _ (IsPermutation-middle (entries table) e es) (IsPermutation-append (e ∷ entries table) (entries (insert table e.0 e.1)) es es (added total apart table e.0 e.1 free) (IsPermutation-refl es))))

      -- all rows of a table, in any order, give it
      pub reads_all : (rows : List Row) → IsPermutation (rows_in columns m) rows → read_rows told (empty {X = X} {R = R}) rows ≡ Some m
      reads_all rows shown =
          let from = pull_back (λ (e : K × X). columns e.0 e.1) (rows_in columns m) rows shown (entries m) refl in
          ap (read_rows told empty) from.2
          ∙ reads_entries empty from.0 (all-permutation (λ (e : K × X). get m e.0 ≡ Some e.1) (entries m) from.0 from.1 (entries_found total m)) (subst (λ l. IsPermutation (entries m) (l ++ from.0)) (sym (no_entries {X = X} R)) from.1)
          ∙ ap Some (whole from.0 from.1)

-- a reading of rows that give the table ends with it, or for want of memory
pub reads_it : {A : Type 0} (table : A) (r : Result A OpenFault) (given : Option A) → Reads r given → given ≡ Some table → Follows r (λ t. t ≡ table)
reads_it {A} table (Ok t) given read is = let same : ◌≡◌ {A = Option A} (Some t) (Some table) = sym read ∙ is in cc same
reads_it table (Err fault.Memory) given read is = tt
reads_it table (Err fault.Storage) given read is = absurd read
reads_it {A} table (Err fault.Damaged) given read is = absurd (let wrong : ◌≡◌ {A = Option A} None (Some table) = sym read ∙ is in cc wrong)

-- so does a reading whose error is passed on
pub reads_fails : {A B : Type 0} (table : A) (f : OpenFault) (given : Option A) → Reads {A = A} (Err f) given → given ≡ Some table → (r : Result B OpenFault) → IsErrAnd r (λ why. why ≡ f) → (says : B → Type 0) → Follows r says
reads_fails table f given read is (Ok b) fails says = absurd fails
reads_fails table f given read is (Err fault.Memory) fails says = tt
reads_fails {A} table f given read is (Err fault.Storage) fails says = subst (λ (why : OpenFault). Reads {A = A} (Err why) given) (sym fails) read
reads_fails {A} table f given read is (Err fault.Damaged) fails says =
    let broken = subst (λ (why : OpenFault). Reads {A = A} (Err why) given) (sym fails) read in absurd (let wrong : ◌≡◌ {A = Option A} None (Some table) = sym broken ∙ is in cc wrong)

-- want of memory
pub runs_short : {B : Type 0} (r : Result B OpenFault) → IsErrAnd r (λ why. why ≡ fault.Memory) → (says : B → Type 0) → Follows r says
runs_short (Ok b) fails says = absurd fails
runs_short (Err fault.Memory) fails says = tt
runs_short (Err fault.Storage) fails says = absurd (cc fails)
runs_short (Err fault.Damaged) fails says = absurd (cc fails)
