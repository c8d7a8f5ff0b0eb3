-- A loop over the pairs of two lists: what is left of them.
use Rattle.std.proofs.Common.{◌≡◌, List, [], ◌∷◌, Option, None, Some, ◌⊎◌, inl, inr, ◌++◌, refl, ap, sym, ◌∙◌}
use Rattle.std.proofs.iter.Yields.{fronts}
use Rattle.std.proofs.lemmas.Iterator.{zips}
use Rattle.std.proofs.lemmas.List.{append-nil}
use Rattle.std.proofs.lemmas.Slice.Zip.{Zip-more, either_empty_from_Zip}
use Rattle.std.specs.declared.iter.Zip.{Zip}
use Rattle.std.specs.declared.slice.Iter.{Iter}
use Rattle.std.specs.Iterator.Adapters.{zip_first, zip_second}
use Rattle.std.specs.List.{zip}
use Rattle.std.specs.Slice.Iter.{iter_rest}
use denote.Ref.{Bor}

none_left : {A B : Type 0} (xs : List A) (ys : List B) → (xs ≡ []) ⊎ (ys ≡ []) → zip xs ys ≡ []
none_left xs ys (inl e) = ap (λ zs. zip zs ys) e
none_left [] ys (inr e) = refl
none_left (x ∷ xs) ys (inr e) = ap (zip (x ∷ xs)) e

-- no pair is left where the loop ends
pub no_more : {A B : Type 0} (s t : Zip (Iter A) (Iter B)) (r : Option (Bor A × Bor B)) → r ≡ None → zips fronts fronts s r t
    → zip (iter_rest (zip_first s)) (iter_rest (zip_second s)) ≡ []
no_more s t r e h = none_left _ _ (either_empty_from_Zip s t r e h)

-- the pair of a turn is the first of those that were left
pub one_more : {A B : Type 0} (s t : Zip (Iter A) (Iter B)) (r : Option (Bor A × Bor B)) (p : Bor A × Bor B) → r ≡ Some p → zips fronts fronts s r t
    → zip (iter_rest (zip_first s)) (iter_rest (zip_second s)) ≡ (p.0.now, p.1.now) ∷ zip (iter_rest (zip_first t)) (iter_rest (zip_second t))
one_more s t r p e h =
    let more = Zip-more s t r p e h in
    ap (λ xs. zip xs (iter_rest (zip_second s))) more.0 ∙ ap (zip (p.0.now ∷ iter_rest (zip_first t))) more.1

-- where nothing is left, what was made is all
pub all_made : {P Q : Type 0} (f : List P → List Q) (left : List P) (made all : List Q) → f [] ≡ [] → left ≡ [] → made ++ f left ≡ all → made ≡ all
all_made f left made all none over was = sym (append-nil made) ∙ ap (λ rest. made ++ rest) (sym (ap f over ∙ none)) ∙ was
