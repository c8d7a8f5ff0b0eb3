-- Texts compared byte by byte, and the digits of numbers.
use Rattle.std.proofs.Common.{◌≡◌, ◌≢◌, ℕ, ◌+◌, ◌/◌, ◌%◌, ◌^◌, ◌<◌, ◌≤◌, Bool, true, false, ◌&&◌, ◌==◌, nat_eq, List, [], ◌∷◌, ◌++◌, length, decimal, inl, inr, append_assoc, refl, sym, ap, ◌∙◌, arith}
use Rattle.std.specs.Cmp.Lexicographic.{pointwise, same_text}
use Rattle.std.proofs.lemmas.Fmt.{decimal_digit, decimal_step, decimal_nonempty}
use Rattle.std.proofs.lemmas.Bool.{cases_lt}

and_true : (a : Bool) → (a && true) ≡ a
and_true true = refl
and_true false = refl

and_false : (a : Bool) → (a && false) ≡ false
and_false true = refl
and_false false = refl

and_assoc : (a b c : Bool) → (a && (b && c)) ≡ ((a && b) && c)
and_assoc true b c = refl
and_assoc false b c = refl

none_left : (xs : List ℕ) (x : ℕ) → pointwise nat_eq [] (xs ++ x ∷ []) ≡ false
none_left [] x = refl
none_left (y ∷ ys) x = refl

none_right : (xs : List ℕ) (x : ℕ) → pointwise nat_eq (xs ++ x ∷ []) [] ≡ false
none_right [] x = refl
none_right (y ∷ ys) x = refl

-- two texts are one where what comes before the last byte is one, and the last byte too
pub by_last : (xs ys : List ℕ) (x y : ℕ) → pointwise nat_eq (xs ++ x ∷ []) (ys ++ y ∷ []) ≡ (nat_eq x y && pointwise nat_eq xs ys)
by_last [] [] x y = refl
by_last [] (b ∷ ys) x y = ap (λ r. nat_eq x b && r) (none_left ys y) ∙ and_false (nat_eq x b) ∙ sym (and_false (nat_eq x y))
by_last (a ∷ xs) [] x y = ap (λ r. nat_eq a y && r) (none_right xs x) ∙ and_false (nat_eq a y) ∙ sym (and_false (nat_eq x y))
by_last (a ∷ xs) (b ∷ ys) x y = ap (λ r. nat_eq a b && r) (by_last xs ys x y) ∙ turned (nat_eq a b) (nat_eq x y) (pointwise nat_eq xs ys)
  where
    turned : (p q r : Bool) → (p && (q && r)) ≡ (q && (p && r))
    turned true true r = refl
    turned true false r = refl
    turned false true r = refl
    turned false false r = refl

same_byte : (x : ℕ) → nat_eq x x ≡ true
same_byte x = grind arith

-- after the same prefix the rest decides
pub by_prefix : (prefix xs ys : List ℕ) → pointwise nat_eq (prefix ++ xs) (prefix ++ ys) ≡ pointwise nat_eq xs ys
by_prefix [] xs ys = refl
by_prefix (c ∷ cs) xs ys = ap (λ b. b && pointwise nat_eq (cs ++ xs) (cs ++ ys)) (same_byte c) ∙ by_prefix cs xs ys

-- texts that differ
pub not_same : (xs ys : List ℕ) → xs ≢ ys → false ≡ pointwise nat_eq xs ys
not_same xs ys apart = by_test (pointwise nat_eq xs ys) (λ e. apart (same_text xs ys (sym e)))
  where
    by_test : (b : Bool) → (b ≡ true → ⊥) → false ≡ b
    by_test true no_way = absurd (no_way refl)
    by_test false no_way = refl

-- a number of one digit, and the digits of a longer one
pub by_digit : (front : List ℕ) (last n : ℕ) → n < 10 → last ≡ 48 + n % 10 → pointwise nat_eq (front ++ last ∷ []) (decimal n) ≡ pointwise nat_eq front []
by_digit front last n small is =
    ap (pointwise nat_eq (front ++ last ∷ [])) (decimal_digit n small)
    ∙ by_last front [] last (48 + n)
    ∙ ap (λ b. b && pointwise nat_eq front []) (ap (λ d. nat_eq d (48 + n)) (is ∙ omega arith) ∙ same_byte (48 + n))

pub by_digits : (front : List ℕ) (last n : ℕ) → 10 ≤ n → n < 2 ^ 64 → last ≡ 48 + n % 10 → pointwise nat_eq (front ++ last ∷ []) (decimal n) ≡ pointwise nat_eq front (decimal (n / 10))
by_digits front last n large fits is =
    ap (pointwise nat_eq (front ++ last ∷ [])) (decimal_step n large fits)
    ∙ by_last front (decimal (n / 10)) last (48 + n % 10)
    ∙ ap (λ b. b && pointwise nat_eq front (decimal (n / 10))) (ap (λ d. nat_eq d (48 + n % 10)) is ∙ same_byte (48 + n % 10))

unlike : (x y : ℕ) → x ≢ y → nat_eq x y ≡ false
unlike x y apart = grind arith

-- another last digit
pub other_digit : (front : List ℕ) (last n : ℕ) → n < 2 ^ 64 → last ≢ 48 + n % 10 → false ≡ pointwise nat_eq (front ++ last ∷ []) (decimal n)
other_digit front last n fits apart = elim (cases_lt n 10) [
  | inl small ↦ sym (ap (pointwise nat_eq (front ++ last ∷ [])) (decimal_digit n small) ∙ by_last front [] last (48 + n) ∙ ap (λ b. b && pointwise nat_eq front []) (unlike last (48 + n) (λ e. apart (e ∙ omega arith))))
  | inr large ↦ sym (ap (pointwise nat_eq (front ++ last ∷ [])) (decimal_step n large fits) ∙ by_last front (decimal (n / 10)) last (48 + n % 10) ∙ ap (λ b. b && pointwise nat_eq front (decimal (n / 10))) (unlike last (48 + n % 10) apart))
]

-- no digit
pub no_digit : (n : ℕ) → n < 2 ^ 64 → (digits : List ℕ) → length digits ≡ 0 → false ≡ pointwise nat_eq digits (decimal n)
no_digit n fits digits none = not_same digits (decimal n) (λ e. omega (arith, decimal_nonempty n fits, ap length e))

pub none_before : (front : List ℕ) → (length front == 0) ≡ pointwise nat_eq front []
none_before [] = refl
none_before (c ∷ cs) = grind arith

-- ---- texts that begin so, or not
pub past_prefix : (text prefix rest finish : List ℕ) → text ≡ prefix ++ rest → pointwise nat_eq text (prefix ++ finish) ≡ pointwise nat_eq rest finish
past_prefix text prefix rest finish is = ap (λ t. pointwise nat_eq t (prefix ++ finish)) is ∙ by_prefix prefix rest finish

pub no_prefix : (text prefix finish : List ℕ) → ((rest : List ℕ) → text ≢ prefix ++ rest) → false ≡ pointwise nat_eq text (prefix ++ finish)
no_prefix text prefix finish apart = not_same text (prefix ++ finish) (apart finish)

-- what a text ends with after the name of an order and a dot
pub past_order : (text order rest finish : List ℕ) → text ≡ order ++ rest → pointwise nat_eq text (order ++ (46 ∷ []) ++ finish) ≡ pointwise nat_eq rest (46 ∷ finish)
past_order text order rest finish is = ap (pointwise nat_eq text) (append_assoc order (46 ∷ []) finish) ∙ past_prefix text order rest (46 ∷ finish) is

pub no_order : (text order finish : List ℕ) → ((rest : List ℕ) → text ≢ order ++ rest) → false ≡ pointwise nat_eq text (order ++ (46 ∷ []) ++ finish)
no_order text order finish apart = no_prefix text order (46 ∷ finish) apart ∙ sym (ap (pointwise nat_eq text) (append_assoc order (46 ∷ []) finish))
