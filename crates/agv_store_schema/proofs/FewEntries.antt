-- The entries of a map that pass a test which one key at most passes, and the counts of tests that part another.
use Rattle.std.proofs.Common.{◌≡◌, ◌||◌, ◌+◌, ℕ, Bool, true, false, cond, T, List, [], ◌∷◌, count_by, length, filter, ap₂, find, Option, None, Some, Ordering, Less, refl, sym, ap, subst, ◌∙◌, inl, inr, arith}
use Rattle.std.proofs.lemmas.Bool.{cases_Bool}
use Rattle.std.proofs.lemmas.List.Sums.{length-filter}
use Rattle.std.specs.Cmp.{IsTotalOrder, tied_itself}
use Rattle.std.specs.FinMap.{FinMap, get, entries, entries_sorted, is_sorted}
use Rattle.std.specs.List.{AllByRecursion}
use Rattle.std.specs.Option.{option_map, option_or}
use Rattle.sqlite_trees.proofs.ListLemmas.{all_both, all_weaker, filter_none}
use Rattle.agv_store_schema.proofs.MapEntries.{above, left, right}
use Rattle.agv_store_schema.proofs.SpreadRows.{entries_found}

-- what is there, if anything is
abbrev pub listed : {A : Type 0} → Option A → List A
listed None = []
listed (Some a) = a ∷ []

find_none : {A : Type 0} (p : A → Bool) (xs : List A) → AllByRecursion (λ x. p x ≡ false) xs → find p xs ≡ None
find_none p [] h = refl
find_none p (x ∷ xs) h = ap (λ b. cond b (Some x) (find p xs)) h.0 ∙ find_none p xs h.1

-- what is found passes, and is one of the list
found_is : {A : Type 0} (p : A → Bool) (P : A → Type 0) (xs : List A) → AllByRecursion P xs → (a : A) → find p xs ≡ Some a → P a × (p a ≡ true)
found_is p P [] h a is = absurd (cc is)
found_is {A} p P (x ∷ xs) h a is =
    elim (p x) as (λ b. p x ≡ b → cond b (Some x) (find p xs) ≡ Some a → P a × (p a ≡ true)) [
      | true ↦ λ passes same. let it : x ≡ a = cc same in subst (λ (y : A). P y × (p y ≡ true)) it (h.0, passes)
      | false ↦ λ _ more. found_is p P xs h.1 a more
    ] refl is

or_fails : (a b : Bool) → (a || b) ≡ false → (a ≡ false) × (b ≡ false)
or_fails true b h = absurd (cc h)
or_fails false b h = (refl, h)

sums_add : (a b c d e f : ℕ) → a ≡ b + c → d ≡ e + f → a + d ≡ (b + e) + (c + f)
sums_add a b c d e f one more = omega arith

-- tests of which one passes where another does, and both never do
one_more : {A : Type 0} (b : Bool) (x : A) (xs : List A) → length (cond b (x ∷ xs) xs) ≡ cond b 1 0 + length xs
one_more true x xs = omega arith
one_more false x xs = omega arith

lengths_add : {A : Type 0} (p q r : A → Bool) → ((a : A) → cond (p a) 1 0 ≡ cond (q a) 1 0 + cond (r a) 1 0) → (xs : List A) → length (filter p xs) ≡ length (filter q xs) + length (filter r xs)
lengths_add p q r each [] = refl
lengths_add p q r each (x ∷ xs) =
    one_more (p x) x (filter p xs)
    ∙ sums_add _ _ _ _ _ _ (each x) (lengths_add p q r each xs)
    ∙ sym (ap₂ ◌+◌ (one_more (q x) x (filter q xs)) (one_more (r x) x (filter r xs)))

pub counts_add : {A : Type 0} (p q r : A → Bool) → ((a : A) → cond (p a) 1 0 ≡ cond (q a) 1 0 + cond (r a) 1 0) → (xs : List A) → count_by p xs ≡ count_by q xs + count_by r xs
counts_add p q r each xs = sym (length-filter p xs) ∙ lengths_add p q r each xs ∙ ap₂ ◌+◌ (length-filter q xs) (length-filter r xs)

module _ {K X : Type 0} {R : K → K → Ordering} (total : IsTotalOrder R) (m : FinMap R X) where
  -- the map has the entry
  abbrev pub IsEntry : K × X → Type 0
  IsEntry e = get m e.0 ≡ Some e.1

  pub found_entry : (p : K × X → Bool) (e : K × X) → find p (entries m) ≡ Some e → IsEntry e × (p e ≡ true)
  found_entry p e is = found_is p (λ (f : K × X). get m f.0 ≡ Some f.1) (entries m) (entries_found total m) e is

  module _ (p : K × X → Bool) (unique : (a b : K × X) → IsEntry a → IsEntry b → p a ≡ true → p b ≡ true → a.0 ≡ b.0) where
    differ : (e f : K × X) → R e.0 f.0 ≡ Less → e.0 ≡ f.0 → ⊥
    differ e f less same = let again = subst (λ k. R e.0 k ≡ Less) (sym same) less in let tied = tied_itself total e.0 in cc

    -- after an entry that passes none does
    none_after : (e : K × X) (es : List (K × X)) → IsEntry e → p e ≡ true → AllByRecursion (λ (f : K × X). R e.0 f.0 ≡ Less) es → AllByRecursion IsEntry es → AllByRecursion (λ f. p f ≡ false) es
    none_after e es is passes later are = all_both _ _ _ (λ f less at. elim (cases_Bool (p f)) [
      | inl too ↦ absurd (differ e f less (unique e f is at passes too))
      | inr fails ↦ fails
    ]) es later are

    one_of : (es : List (K × X)) → T (is_sorted R es) → AllByRecursion IsEntry es → filter p es ≡ listed (find p es)
    one_of [] s are = refl
    one_of (e ∷ es) s are =
        elim (p e) as (λ b. p e ≡ b → cond b (e ∷ filter p es) (filter p es) ≡ listed (cond b (Some e) (find p es))) [
          | true ↦ λ passes. ap (λ l. e ∷ l) (filter_none p es (none_after e es are.0 passes (above R e.0 es (left _ _ s)) are.1))
          | false ↦ λ _. one_of es (right _ _ s) are.1
        ] refl

    -- one entry at most passes
    pub one_passes : filter p (entries m) ≡ listed (find p (entries m))
    one_passes = one_of (entries m) (entries_sorted m) (entries_found total m)

    module _ (q r : K × X → Bool) (either : (e : K × X) → p e ≡ (q e || r e)) where
      one_in : (es : List (K × X)) → T (is_sorted R es) → AllByRecursion IsEntry es
          → option_map (λ (e : K × X). e.0) (find p es) ≡ option_or (option_map (λ (e : K × X). e.0) (find q es)) (option_map (λ (e : K × X). e.0) (find r es))
      one_in [] s are = refl
      one_in (e ∷ es) s are =
          elim (q e) as (λ b. q e ≡ b → option_map (λ (f : K × X). f.0) (cond (p e) (Some e) (find p es)) ≡ option_or (option_map (λ (f : K × X). f.0) (cond b (Some e) (find q es))) (option_map (λ (f : K × X). f.0) (cond (r e) (Some e) (find r es)))) [
            | true ↦ λ is. ap (λ t. option_map (λ (f : K × X). f.0) (cond t (Some e) (find p es))) (either e ∙ ap (λ b. b || r e) is)
            | false ↦ λ is. elim (r e)
                as (λ b. r e ≡ b → option_map (λ (f : K × X). f.0) (cond (p e) (Some e) (find p es)) ≡ option_or (option_map (λ (f : K × X). f.0) (find q es)) (option_map (λ (f : K × X). f.0) (cond b (Some e) (find r es)))) [
                  | true ↦ λ too.
                      let passes : p e ≡ true = either e ∙ ap (λ b. b || r e) is ∙ too in
                      let none = none_after e es are.0 passes (above R e.0 es (left _ _ s)) are.1 in
                      let other = find_none q es (all_weaker _ _ (λ f fails. (or_fails (q f) (r f) (sym (either f) ∙ fails)).0) es none) in
                      ap (λ t. option_map (λ (f : K × X). f.0) (cond t (Some e) (find p es))) passes
                      ∙ sym (ap (λ (o : Option (K × X)). option_or (option_map (λ (f : K × X). f.0) o) (Some e.0)) other)
                  | false ↦ λ nor.
                      ap (λ t. option_map (λ (f : K × X). f.0) (cond t (Some e) (find p es))) (either e ∙ ap (λ b. b || r e) is ∙ nor) ∙ one_in es (right _ _ s) are.1
                ] refl
          ] refl

      -- what is found by one of two tests, of which the first entry that passes either is found
      pub one_by_either : option_map (λ (e : K × X). e.0) (find p (entries m)) ≡ option_or (option_map (λ (e : K × X). e.0) (find q (entries m))) (option_map (λ (e : K × X). e.0) (find r (entries m)))
      one_by_either = one_in (entries m) (entries_sorted m) (entries_found total m)
