-- The values of the header lines of one name, one line at a time.
use Rattle.std.proofs.Common.{◌≡◌, ◌<◌, ◌||◌, ℕ, ◌+◌, List, [], ◌∷◌, ◌++◌, true, false, Bool, cond, length, take, get_or, map, filter, refl, ap, subst, ◌∙◌, arith}
use Rattle.std.specs.List.{list_any}
use Rattle.std.proofs.lemmas.List.{take_more, map-append}
use Rattle.std.proofs.lemmas.List.Elements.{filter-append}
use Rattle.agv_face_http.specs.request.Lines.{Line, same_word, values_of, has_line}
use Rattle.agv_face_http.specs.request.Found.{AreFound}
use Rattle.agv_face_http.specs.declared.request.lines.Values.{Values}
use Rattle.agv_face_http.specs.declared.request.lines.Values.TheVariants.{Absent, One, Several}

pub values_of-append : (name : List ℕ) (xs ys : List Line) → values_of name (xs ++ ys) ≡ values_of name xs ++ values_of name ys
values_of-append name xs ys =
    ap (map (λ (l : Line). l.1)) (filter-append (λ (l : Line). same_word l.0 name) xs ys)
    ∙ map-append (λ (l : Line). l.1) (filter (λ (l : Line). same_word l.0 name) xs) (filter (λ (l : Line). same_word l.0 name) ys)

-- the values of one line
abbrev one_value : Line → Bool → List (List ℕ)
one_value line same = cond same (line.1 ∷ []) []

values_of-one : (name : List ℕ) (line : Line) → values_of name (line ∷ []) ≡ one_value line (same_word line.0 name)
values_of-one name line =
    elim (same_word line.0 name) as (λ b. map (λ (l : Line). l.1) (cond b (line ∷ []) []) ≡ one_value line b) [ true ↦ refl | false ↦ refl ]

-- the values of one line more
pub values_of-more : {H : Type 0} (line_of : H → Line) (name : List ℕ) (headers : List H) (i : ℕ) (d : H) → i < length headers → (same : Bool) → same_word (line_of (get_or headers i d)).0 name ≡ same
    → values_of name (map line_of (take (i + 1) headers)) ≡ values_of name (map line_of (take i headers)) ++ one_value (line_of (get_or headers i d)) same
values_of-more {H} line_of name headers i d here same is =
    ap (λ (l : List H). values_of name (map line_of l)) (take_more headers i d here)
    ∙ ap (values_of name) (map-append line_of (take i headers) (get_or headers i d ∷ []))
    ∙ values_of-append name (map line_of (take i headers)) (line_of (get_or headers i d) ∷ [])
    ∙ ap (λ (l : List (List ℕ)). values_of name (map line_of (take i headers)) ++ l) (values_of-one name (line_of (get_or headers i d)) ∙ ap (one_value (line_of (get_or headers i d))) is)

abbrev is_named : List ℕ → Line → Bool
is_named name line = same_word line.0 name

-- a line is there where its name has a value
pub has_line-none : (name : List ℕ) (lines : List Line) → values_of name lines ≡ [] → has_line name lines ≡ false
has_line-none name [] none = refl
has_line-none name (line ∷ lines) none =
    elim (same_word line.0 name) as (λ b. map (λ (l : Line). l.1) (cond b (line ∷ filter (is_named name) lines) (filter (is_named name) lines)) ≡ [] → (b || list_any (is_named name) lines) ≡ false)
    [ true ↦ λ e. absurd (cc) | false ↦ λ e. has_line-none name lines e ] none

pub has_line-some : (name : List ℕ) (lines : List Line) → 0 < length (values_of name lines) → has_line name lines ≡ true
has_line-some name [] some = absurd (omega arith)
has_line-some name (line ∷ lines) some =
    elim (same_word line.0 name) as (λ b. 0 < length (map (λ (l : Line). l.1) (cond b (line ∷ filter (is_named name) lines) (filter (is_named name) lines))) → (b || list_any (is_named name) lines) ≡ true)
    [ true ↦ λ e. refl | false ↦ λ e. has_line-some name lines e ] some

-- whether a line is there, from what is found of its name
pub has_line-absent : (name : List ℕ) (lines : List Line) (values : Values) → AreFound (values_of name lines) values → values ≡ Absent → has_line name lines ≡ false
has_line-absent name lines values found is = has_line-none name lines (subst (AreFound (values_of name lines)) is found)

pub has_line-found : (name : List ℕ) (lines : List Line) (values : Values) → AreFound (values_of name lines) values → (values ≡ Absent → ⊥) → has_line name lines ≡ true
has_line-found name lines Absent found not_absent = absurd (not_absent refl)
has_line-found name lines (One value) found not_absent = let size : length (values_of name lines) ≡ 1 = ap length found in has_line-some name lines (omega arith)
has_line-found name lines Several found not_absent = has_line-some name lines (omega (arith, found))

-- a name with no line has no value
pub values_of-absent : (name : List ℕ) (lines : List Line) → has_line name lines ≡ false → values_of name lines ≡ []
values_of-absent name [] absent = refl
values_of-absent name (line ∷ lines) absent =
    elim (same_word line.0 name) as (λ b. (b || list_any (is_named name) lines) ≡ false → map (λ (l : Line). l.1) (cond b (line ∷ filter (is_named name) lines) (filter (is_named name) lines)) ≡ [])
    [ true ↦ λ e. absurd (cc) | false ↦ λ e. values_of-absent name lines e ] absent
