-- The fields of a record of four, and what a field can't be.
use Rattle.std.proofs.Common.{arith, ℕ, zero, suc, ◌≡◌, ◌≢◌, ◌<◌, ◌≤◌, ◌^◌, ◌==◌, nat_lt, nat_le, Bool, true, false, ◌&&◌, List, [], ◌∷◌, length, Option, Some, None, Result, Ok, Err, MatchResult, Bor, cond, ap, refl, sym, ◌∙◌, rules}
use Rattle.std.specs.Char.{is_ascii_digit}
use Rattle.std.specs.List.{list_all}
use Rattle.std.specs.Result.{result_ok}
use Rattle.std.specs.Str.{IsUtf8, IsAscii}
use Rattle.std.specs.Str.Parse.{ParsesUnsigned, digits_value}
use Rattle.std.proofs.lemmas.Bool.{and_parts}
use Rattle.std.proofs.lemmas.Bool.Decides.{nat_tests}
use Rattle.std.proofs.lemmas.Str.{IsUtf8-from_ascii}
use Rattle.std.proofs.lemmas.Str.Ascii.{IsAscii-nil, IsAscii-cons}
use Rattle.std.proofs.lemmas.Str.Parse.{IsDigitsTest, IsNumeralModel, numerals_by_value, digits_value_short, parse_gives}
use Rattle.csv.specs.Records.{field_at}
use Rattle.agv_header.specs.Name.{is_name}
use Rattle.agv_layout.specs.declared.row.LayoutRow.TheVariants.{Edge}
use Rattle.agv_count.specs.LayoutFile.{edge_row, is_capacity}

-- four fields, each read at its place
pub four_fields : (fs : List (List ℕ)) (a b c d : List ℕ) → length fs ≡ 4
    → Some a ≡ field_at fs 0 → Some b ≡ field_at fs 1 → Some c ≡ field_at fs 2 → Some d ≡ field_at fs 3 → fs ≡ a ∷ b ∷ c ∷ d ∷ []
unfolding field_at
four_fields [] a b c d n h0 h1 h2 h3 = cc h0
four_fields (p ∷ []) a b c d n h0 h1 h2 h3 = cc h1
four_fields (p ∷ q ∷ []) a b c d n h0 h1 h2 h3 = cc h2
four_fields (p ∷ q ∷ r ∷ []) a b c d n h0 h1 h2 h3 = cc h3
four_fields (p ∷ q ∷ r ∷ s ∷ []) a b c d n h0 h1 h2 h3 = cc
four_fields (p ∷ q ∷ r ∷ s ∷ t ∷ fs) a b c d n h0 h1 h2 h3 = absurd (omega arith)

-- and two
pub two_at : (fs : List (List ℕ)) (a b : List ℕ) → length fs ≡ 2 → Some a ≡ field_at fs 0 → Some b ≡ field_at fs 1 → fs ≡ a ∷ b ∷ []
unfolding field_at
two_at [] a b n h0 h1 = cc h0
two_at (p ∷ []) a b n h0 h1 = cc h1
two_at (p ∷ q ∷ []) a b n h0 h1 = cc
two_at (p ∷ q ∷ r ∷ fs) a b n h0 h1 = absurd (omega arith)

-- a field that is there
field_there : (fs : List (List ℕ)) (i : ℕ) → i < length fs → None ≡ field_at fs i → ⊥
unfolding field_at
field_there [] i within h = absurd (omega arith)
field_there (f ∷ fs) zero within h = cc h
field_there (f ∷ fs) (suc i) within h = field_there fs i (omega arith) h

pub too_few : (fs : List (List ℕ)) (n i : ℕ) → i < n → None ≡ field_at fs i → length fs ≢ n
too_few fs n i within h all = field_there fs i (omega arith) h

-- a field that is text, and one that is none
pub as_text : {E : Type 0} (r : Result (Bor (List ℕ)) E) (s : List ℕ) (t : Bor (List ℕ)) (Q : E → Type 0)
    → MatchResult r (λ x. (x.now ≡ s) × IsUtf8 s) (λ e. ¬ (IsUtf8 s) × Q e) → result_ok r ≡ Some t → t.now ≡ s
as_text (Ok x) s t Q h e = let same : x ≡ t = cc e in ap (λ (y : Bor (List ℕ)). y.now) (sym same) ∙ h.0
as_text (Err x) s t Q h e = cc e

pub no_text : {E : Type 0} (r : Result (Bor (List ℕ)) E) (s : List ℕ) (Q : E → Type 0)
    → MatchResult r (λ x. (x.now ≡ s) × IsUtf8 s) (λ e. ¬ (IsUtf8 s) × Q e) → result_ok r ≡ None → ¬ (IsUtf8 s)
no_text (Ok x) s Q h e = cc e
no_text (Err x) s Q h e = h.0

digit_byte : (b : ℕ) → is_ascii_digit b ≡ true → b < 128
digit_byte b h = grind (arith, nat_tests)

digit_bytes : (s : List ℕ) → list_all is_ascii_digit s ≡ true → IsAscii s
digit_bytes [] h = IsAscii-nil
digit_bytes (b ∷ s) h = let each = and_parts _ _ h in IsAscii-cons b s (digit_byte b each.0) (digit_bytes s each.1)

-- a few digits are a capacity
pub short_digits : (s : List ℕ) (empty digits : Bool) → empty ≡ (length s == 0) → empty ≡ false → length s ≤ 3 → digits ≡ list_all is_ascii_digit s → digits ≡ is_capacity s
short_digits s empty digits is some few all =
    let first : nat_lt 0 (length s) ≡ true = grind (arith, nat_tests) in
    let second : nat_le (length s) 3 ≡ true = grind (arith, nat_tests) in
    all ∙ sym (λ i. first i && second i && list_all is_ascii_digit s)

capacity_digits : (s : List ℕ) → is_capacity s ≡ true → list_all is_ascii_digit s ≡ true
capacity_digits s h = (and_parts _ _ h).1

-- a capacity is text
pub IsUtf8-capacity : (s : List ℕ) → is_capacity s ≡ true → IsUtf8 s
IsUtf8-capacity s h = IsUtf8-from_ascii s (digit_bytes s (capacity_digits s h))

are_digits : IsDigitsTest (λ ds. list_all is_ascii_digit ds ≡ true)
are_digits = search rules

pub own : IsNumeralModel (λ ds. list_all is_ascii_digit ds ≡ true) (digits_value 10)
own = numerals_by_value _ are_digits

-- a capacity is read as its number
pub capacity_parsed : {E : Type 0} (s : List ℕ) (r : Result ℕ E) → ParsesUnsigned 32 10 s r → is_capacity s ≡ true → r ≡ Ok (digits_value 10 s)
capacity_parsed s r h good =
    let some : 0 < length s = grind (arith, nat_tests) in
    let few : length s ≤ 3 = grind (arith, nat_tests) in
    let small : digits_value 10 s < 10 ^ 3 = digits_value_short own s 3 (capacity_digits s good) few in
    parse_gives own 32 s r h (capacity_digits s good) some (omega arith)

-- what a test that holds chooses
pub chosen : (b : Bool) (r : Option ℕ) (x : ℕ) → b ≡ true → r ≡ Some x → r ≡ cond b (Some x) None
chosen b r x e h = rw e h

-- what a test chose is the value, and the test holds
chose : (b : Bool) (s x : List ℕ) → Some x ≡ cond b (Some s) None → (b ≡ true) × (x ≡ s)
chose true s x e = (refl, cc)
chose false s x e = cc

-- an edge whose names are read
pub edge_read : (id from to a b c : List ℕ) → Some a ≡ cond (is_name id) (Some id) None → Some b ≡ cond (is_name from) (Some from) None → Some c ≡ cond (is_name to) (Some to) None
    → Some (Edge a b c) ≡ edge_row id from to
unfolding edge_row
edge_read id from to a b c e f g =
    let first = chose (is_name id) id a e in
    let second = chose (is_name from) from b f in
    let third = chose (is_name to) to c g in
    (λ i. Some (Edge (first.1 i) (second.1 i) (third.1 i)))
    ∙ sym (λ i. cond (first.0 i && second.0 i && third.0 i) (Some (Edge id from to)) None)
