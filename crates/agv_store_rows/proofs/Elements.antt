-- What each element of a list has, and what is left of a list by a test.
use Rattle.std.proofs.Common.{◌≡◌, Bool, true, false, cond, List, [], ◌∷◌, ◌++◌, filter, flat_map, refl, ap, ap₂, ◌∙◌}
use Rattle.std.specs.List.{AllByRecursion}
use Rattle.std.proofs.lemmas.List.Elements.{filter-append}

module _ {A : Type 0} where
  pub all_of : (P : A → Type 0) → ((x : A) → P x) → (xs : List A) → AllByRecursion P xs
  all_of P h [] = tt
  all_of P h (x ∷ xs) = (h x, all_of P h xs)

  pub all_weaker : (P Q : A → Type 0) → ((x : A) → P x → Q x) → (xs : List A) → AllByRecursion P xs → AllByRecursion Q xs
  all_weaker P Q f [] h = tt
  all_weaker P Q f (x ∷ xs) h = (f x h.0, all_weaker P Q f xs h.1)

  pub all-append : (P : A → Type 0) (xs ys : List A) → AllByRecursion P xs → AllByRecursion P ys → AllByRecursion P (xs ++ ys)
  all-append P [] ys h k = k
  all-append P (x ∷ xs) ys h k = (h.0, all-append P xs ys h.1 k)

  pub all-flat_map : {B : Type 0} (P : A → Type 0) (f : B → List A) (xs : List B) → AllByRecursion (λ b. AllByRecursion P (f b)) xs → AllByRecursion P (flat_map f xs)
  all-flat_map P f [] h = tt
  all-flat_map P f (x ∷ xs) h = all-append P (f x) _ h.0 (all-flat_map P f xs h.1)

  pub filter_all : (p : A → Bool) (xs : List A) → AllByRecursion (λ x. p x ≡ true) xs → filter p xs ≡ xs
  filter_all p [] h = refl
  filter_all p (x ∷ xs) h = ap (λ b. cond b (x ∷ filter p xs) (filter p xs)) h.0 ∙ ap (λ l. x ∷ l) (filter_all p xs h.1)

  pub filter_none : (p : A → Bool) (xs : List A) → AllByRecursion (λ x. p x ≡ false) xs → filter p xs ≡ []
  filter_none p [] h = refl
  filter_none p (x ∷ xs) h = ap (λ b. cond b (x ∷ filter p xs) (filter p xs)) h.0 ∙ filter_none p xs h.1

  -- where all that an element gives passes as the element does, what passes is what the elements that pass give
  pub filter-flat_map : {B : Type 0} (p : A → Bool) (q : B → Bool) (f : B → List A) → ((b : B) → AllByRecursion (λ a. p a ≡ q b) (f b)) → (xs : List B)
      → filter p (flat_map f xs) ≡ flat_map f (filter q xs)
  filter-flat_map p q f alike [] = refl
  filter-flat_map {B} p q f alike (x ∷ xs) =
      filter-append p (f x) (flat_map f xs)
      ∙ elim (q x) as (λ b. q x ≡ b → filter p (f x) ++ filter p (flat_map f xs) ≡ flat_map f (cond b (x ∷ filter q xs) (filter q xs))) [
        | true ↦ λ is. ap₂ ◌++◌ (filter_all p (f x) (all_weaker _ _ (λ a e. e ∙ is) (f x) (alike x))) (filter-flat_map p q f alike xs)
        | false ↦ λ is. ap₂ ◌++◌ (filter_none p (f x) (all_weaker _ _ (λ a e. e ∙ is) (f x) (alike x))) (filter-flat_map p q f alike xs)
      ] refl
