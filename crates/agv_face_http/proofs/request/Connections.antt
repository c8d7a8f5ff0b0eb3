-- The elements of Connection lines, one line at a time.
use Rattle.std.proofs.Common.{◌≡◌, ◌<◌, ◌||◌, ℕ, ◌+◌, List, [], ◌∷◌, true, false, Bool, length, take, drop, get_or, map, refl, ap, sym, ◌∙◌, append-nil, take-append-drop}
use Rattle.std.specs.List.{list_any}
use Rattle.std.proofs.lemmas.List.{map-append}
use Rattle.std.proofs.lemmas.List.Folds.{list_any-append}
use Rattle.agv_face_http.specs.request.Lines.{Line, same_word, values_of}
use Rattle.agv_face_http.proofs.request.Values.{values_of-append, values_of-more}

-- a test of what a function gives
pub list_any-map : {X Y : Type 0} (p : Y → Bool) (f : X → Y) (xs : List X) → list_any p (map f xs) ≡ list_any (λ x. p (f x)) xs
list_any-map p f [] = refl
list_any-map p f (x ∷ xs) = ap (λ (b : Bool). p (f x) || b) (list_any-map p f xs)

neither : (a b : Bool) → a ≡ false → b ≡ false → (a || b) ≡ false
neither a b p q = cc

-- one line more, which is of another name
pub other_line : {H : Type 0} (line_of : H → Line) (test : List ℕ → Bool) (name : List ℕ) (headers : List H) (i : ℕ) (d : H) → i < length headers
    → same_word (line_of (get_or headers i d)).0 name ≡ false → list_any test (values_of name (map line_of (take i headers))) ≡ false
    → list_any test (values_of name (map line_of (take (i + 1) headers))) ≡ false
other_line line_of test name headers i d here other none =
    ap (list_any test) (values_of-more line_of name headers i d here false other ∙ append-nil (values_of name (map line_of (take i headers)))) ∙ none

-- one line more, whose value doesn't pass
pub idle_line : {H : Type 0} (line_of : H → Line) (test : List ℕ → Bool) (name : List ℕ) (headers : List H) (i : ℕ) (d : H) → i < length headers
    → (same : Bool) → same_word (line_of (get_or headers i d)).0 name ≡ same → test (line_of (get_or headers i d)).1 ≡ false → list_any test (values_of name (map line_of (take i headers))) ≡ false
    → list_any test (values_of name (map line_of (take (i + 1) headers))) ≡ false
idle_line line_of test name headers i d here false is idle none = other_line line_of test name headers i d here is none
idle_line line_of test name headers i d here true is idle none =
    ap (list_any test) (values_of-more line_of name headers i d here true is)
    ∙ list_any-append test (values_of name (map line_of (take i headers))) ((line_of (get_or headers i d)).1 ∷ [])
    ∙ neither (list_any test (values_of name (map line_of (take i headers)))) (list_any test ((line_of (get_or headers i d)).1 ∷ [])) none (neither (test (line_of (get_or headers i d)).1) false idle refl)

or_true : (a b : Bool) → a ≡ true → (a || b) ≡ true
or_true a b p = cc

last_true : (a b : Bool) → b ≡ true → (a || b) ≡ true
last_true true b p = refl
last_true false b p = p

-- a line of that name whose value passes
pub passing_line : {H : Type 0} (line_of : H → Line) (test : List ℕ → Bool) (name : List ℕ) (headers : List H) (i : ℕ) (d : H) → i < length headers
    → same_word (line_of (get_or headers i d)).0 name ≡ true → test (line_of (get_or headers i d)).1 ≡ true → list_any test (values_of name (map line_of headers)) ≡ true
passing_line {H} line_of test name headers i d here same passes =
    let value = (line_of (get_or headers i d)).1 in
    let front = map line_of (take (i + 1) headers) in
    let upto : list_any test (values_of name front) ≡ true =
    ap (list_any test) (values_of-more line_of name headers i d here true same) ∙ list_any-append test (values_of name (map line_of (take i headers))) (value ∷ [])
    ∙ last_true (list_any test (values_of name (map line_of (take i headers)))) (list_any test (value ∷ [])) (or_true (test value) false passes) in
    ap (λ (l : List H). list_any test (values_of name (map line_of l))) (sym (take-append-drop (i + 1) headers))
    ∙ ap (λ (l : List Line). list_any test (values_of name l)) (map-append line_of (take (i + 1) headers) (drop (i + 1) headers))
    ∙ ap (list_any test) (values_of-append name front (map line_of (drop (i + 1) headers)))
    ∙ list_any-append test (values_of name front) (values_of name (map line_of (drop (i + 1) headers)))
    ∙ or_true (list_any test (values_of name front)) (list_any test (values_of name (map line_of (drop (i + 1) headers)))) upto
