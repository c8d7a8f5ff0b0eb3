-- A text that is written piece by piece.
use Rattle.std.proofs.Common.{◌≡◌, ℕ, List, [], ◌∷◌, ◌++◌, ◌+◌, ◌<◌, length, get_or, take, append_assoc, sym, ap, ◌∙◌}
use Rattle.std.specs.List.{flat_map}
use Rattle.std.proofs.lemmas.List.{flat_map_more, take_more}

-- one more piece
pub one_more_piece : {X : Type 0} (f : X → List ℕ) (xs : List X) (i : ℕ) (x : X) (before out new : List ℕ) → i < length xs → x ≡ get_or xs i x
    → out ≡ before ++ flat_map f (take i xs) → new ≡ out ++ f x → new ≡ before ++ flat_map f (take (i + 1) xs)
one_more_piece {X} f xs i x before out new within is so_far more =
    more
    ∙ ap (λ (l : List ℕ). l ++ f x) so_far
    ∙ flat_map_more f before (take i xs) x
    ∙ ap (λ (ys : List X). before ++ flat_map f ys) (sym (take_more xs i x within ∙ ap (λ y. take i xs ++ y ∷ []) (sym is)))

-- four parts, written to an empty text
pub four_parts : (a b c d none one two three four : List ℕ) → none ≡ [] → one ≡ none ++ a → two ≡ one ++ b → three ≡ two ++ c → four ≡ three ++ d
    → four ≡ a ++ (b ++ (c ++ d))
four_parts a b c d none one two three four h0 h1 h2 h3 h4 =
    h4
    ∙ ap (λ (l : List ℕ). l ++ d) (h3 ∙ ap (λ (l : List ℕ). l ++ c) (h2 ∙ ap (λ (l : List ℕ). l ++ b) (h1 ∙ ap (λ (l : List ℕ). l ++ a) h0)))
    ∙ simp append_assoc
