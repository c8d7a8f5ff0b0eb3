-- A list of readings, made one after another.
use Rattle.std.proofs.Common.{◌≡◌, ℕ, suc, ◌+◌, ◌<◌, List, [], ◌∷◌, ◌++◌, Option, Some, None, option_map, option_and_then, length, get_or, drop, drop-cons, add-one, append_assoc, refl, sym, ap, ◌∙◌}

-- what stands before a list that may fail to be read
abbrev pub after : {A : Type 0} → List A → Option (List A) → Option (List A)
after found rest = option_map (λ more. found ++ more) rest

-- one more
pub after-more : {A : Type 0} (old new : List A) (one : Option A) (rest : Option (List A)) → option_map (λ x. old ++ x ∷ []) one ≡ Some new
    → after old (option_and_then (λ x. option_map (λ xs. x ∷ xs) rest) one) ≡ after new rest
after-more old new None rest e = cc
after-more old new (Some x) None e = refl
after-more old new (Some x) (Some xs) e = let is : old ++ x ∷ [] ≡ new = cc in ap Some (sym (append_assoc old (x ∷ []) xs) ∙ ap (λ l. l ++ xs) is)

-- what is left begins with the item here
pub left : {A : Type 0} (xs : List A) (i : ℕ) (x : A) → i < length xs → x ≡ get_or xs i x → drop i xs ≡ x ∷ drop (i + 1) xs
left xs i x within is = drop-cons xs i x within ∙ ap (λ y. y ∷ drop (suc i) xs) (sym is) ∙ ap (λ n. x ∷ drop n xs) (sym (add-one i))
