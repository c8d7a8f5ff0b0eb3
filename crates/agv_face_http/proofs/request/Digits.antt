-- A number of any digits, one digit at a time, cut off at a cap.
use Rattle.std.proofs.Common.{◌≡◌, ◌<◌, ◌+◌, ◌*◌, ◌-◌, ℕ, List, [], ◌∷◌, ◌++◌, Bool, true, false, length, take, get_or, min, nat_lt, refl, ap, ◌∙◌, arith}
use Rattle.std.specs.List.{list_all}
use Rattle.std.specs.Char.{is_ascii_digit, digit_value}
use Rattle.std.specs.Str.Parse.{digits_value, digits_value_after}
use Rattle.std.proofs.lemmas.List.{take_more}
use Rattle.std.proofs.lemmas.List.Folds.{list_all_at}
use Rattle.std.proofs.lemmas.Bool.{and_parts}
use Rattle.std.proofs.lemmas.Bool.Decides.{nat_tests}
use Rattle.agv_face_http.specs.request.Lines.{is_number}

digits_value_after-push : (n : ℕ) (digits : List ℕ) (d : ℕ) → digits_value_after 10 n (digits ++ d ∷ []) ≡ digits_value_after 10 n digits * 10 + digit_value d
digits_value_after-push n [] d = refl
digits_value_after-push n (x ∷ digits) d = digits_value_after-push (n * 10 + digit_value x) digits d

digit_value-digit : (d : ℕ) → is_ascii_digit d ≡ true → digit_value d ≡ d - 48
digit_value-digit d h = grind (arith, nat_tests)

each_digit : (digits : List ℕ) (i : ℕ) (b : Bool) → list_all is_ascii_digit digits ≡ true → i < length digits → is_ascii_digit (get_or digits i 0) ≡ b → b ≡ true
each_digit digits i true all here is = refl
each_digit digits i false all here is = let none = list_all_at is_ascii_digit digits i 0 here is in cc

pub capped_step : (digits : List ℕ) (i n next : ℕ) → is_number digits ≡ true → i < length digits → n ≡ min 65537 (digits_value 10 (take i digits))
    → next ≡ min (n * 10 + (get_or digits i 0 - 48)) 65537 → next ≡ min 65537 (digits_value 10 (take (i + 1) digits))
capped_step digits i n next number here so_far is =
    let pushed : digits_value 10 (take (i + 1) digits) ≡ digits_value 10 (take i digits) * 10 + digit_value (get_or digits i 0) =
    ap (digits_value 10) (take_more digits i 0 here) ∙ digits_value_after-push 0 (take i digits) (get_or digits i 0) in
    let digit : is_ascii_digit (get_or digits i 0) ≡ true = each_digit digits i (is_ascii_digit (get_or digits i 0)) (and_parts (nat_lt 0 (length digits)) (list_all is_ascii_digit digits) number).1 here refl in
    let value : digit_value (get_or digits i 0) ≡ get_or digits i 0 - 48 = digit_value-digit (get_or digits i 0) digit in
    omega arith
