-- A list that is read item by item, with what was read so far.
use Rattle.std.proofs.Common.{◌≡◌, ℕ, suc, ◌+◌, ◌<◌, List, [], ◌∷◌, ◌++◌, length, get_or, drop, Option, Some, None, option_map, option_and_then, refl, ap, sym, ◌∙◌, append_assoc, add-one, drop-cons}
use Rattle.agv_header.specs.Each.{each}

-- what was read so far stands before the rest, if that can be read
abbrev pub after : {A : Type 0} → List A → Option (List A) → Option (List A)
after found rest = option_map (λ more. found ++ more) rest

after-push : {A : Type 0} (found : List A) (x : A) (rest : Option (List A)) → after found (option_map (λ xs. x ∷ xs) rest) ≡ after (found ++ x ∷ []) rest
after-push found x None = refl
after-push found x (Some more) = ap Some (sym (append_assoc found (x ∷ []) more))

-- a list from one of its items on
from_item : {X : Type 0} (xs : List X) (i : ℕ) (x : X) → i < length xs → x ≡ get_or xs i x → drop i xs ≡ x ∷ drop (i + 1) xs
from_item xs i x below is = rw add-one (drop-cons xs i x below ∙ ap (λ y. y ∷ drop (suc i) xs) (sym is))

-- one item more is read
pub after-read : {X A : Type 0} (f : X → Option A) (xs : List X) (i : ℕ) (x : X) (y : A) (found more : List A) (all : Option (List A))
    → i < length xs → x ≡ get_or xs i x → f x ≡ Some y → more ≡ found ++ y ∷ [] → all ≡ after found (each f (drop i xs)) → all ≡ after more (each f (drop (i + 1) xs))
after-read {A} f xs i x y found more all below is read pushed so_far =
    let rest : Option (List A) = each f (drop (i + 1) xs) in
    so_far
    ∙ ap (λ ys. after found (each f ys)) (from_item xs i x below is)
    ∙ ap (λ (o : Option A). after found (option_and_then (λ z. option_map (λ zs. z ∷ zs) rest) o)) read
    ∙ after-push found y rest
    ∙ ap (λ ys. after ys rest) (sym pushed)
