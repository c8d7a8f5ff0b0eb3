-- A stamp stands in JSON as it is: none of its bytes is escaped.
use Rattle.std.proofs.Common.{◌≡◌, ℕ, ◌+◌, ◌/◌, ◌%◌, ◌<◌, List, [], ◌∷◌, ◌++◌, refl, ap₂, ◌∙◌, arith, codes, pos}
use Rattle.std.proofs.lemmas.Bool.Decides.{nat_tests}
use Rattle.std.proofs.lemmas.Grind.{flat_map-append}
use Rattle.jiff_core.proofs.CalendarLemmas.{days_in_month_bounds}
use Rattle.json.specs.Print.{escape, escape_byte}
use Rattle.agv_header.specs.Calendar.{CivilDate, date_of}
use Rattle.agv_header.specs.Moment.{IsMoment}
use Rattle.agv_header.specs.Stamp.{date_text, four_digits, stamp_of, time_text, two_digits}
use Rattle.agv_header.proofs.CalendarLemmas.{IsDateOfDay, date_of-day}

plain_digit : (n : ℕ) → n < 10 → escape_byte (48 + n) ≡ (48 + n) ∷ []
unfolding escape_byte
plain_digit n h = grind (arith, nat_tests)

both : (a b : List ℕ) → escape a ≡ a → escape b ≡ b → escape (a ++ b) ≡ a ++ b
both a b one other = flat_map-append escape_byte a b ∙ ap₂ ◌++◌ one other

plain_two : (n : ℕ) → n < 100 → escape (two_digits n) ≡ two_digits n
plain_two n h = ap₂ ◌++◌ (plain_digit (n / 10) (omega arith)) (ap₂ ◌++◌ (plain_digit (n % 10) (omega arith)) refl)

plain_four : (n : ℕ) → n < 10000 → escape (four_digits n) ≡ four_digits n
plain_four n h = both (two_digits (n / 100)) (two_digits (n % 100)) (plain_two (n / 100) (omega arith)) (plain_two (n % 100) (omega arith))

plain_date : (date : CivilDate) → date.year < 10000 → date.month < 100 → date.day < 100 → escape (date_text date) ≡ date_text date
unfolding escape_byte
plain_date date y m d =
    let dash : escape (codes "-") ≡ codes "-" = refl in
    both (four_digits date.year) _ (plain_four date.year y)
    (both (codes "-") _ dash (both (two_digits date.month) _ (plain_two date.month m) (both (codes "-") _ dash (plain_two date.day d))))

plain_time : (n : ℕ) → n < 8640000 → escape (time_text n) ≡ time_text n
unfolding escape_byte
plain_time n h =
    let colon : escape (codes ":") ≡ codes ":" = refl in
    let point : escape (codes ".") ≡ codes "." = refl in
    both (two_digits (n / 360000)) _ (plain_two (n / 360000) (omega arith))
    (both (codes ":") _ colon (both (two_digits (n / 6000 % 60)) _ (plain_two (n / 6000 % 60) (omega arith))
    (both (codes ":") _ colon (both (two_digits (n / 100 % 60)) _ (plain_two (n / 100 % 60) (omega arith))
    (both (codes ".") _ point (plain_two (n % 100) (omega arith)))))))

pub escape-stamp : (ms : ℕ) → IsMoment ms → escape (stamp_of ms) ≡ stamp_of ms
unfolding stamp_of escape_byte
escape-stamp ms h =
    let day : ℕ = ms / 86400000 in
    let counted : IsDateOfDay (date_of day) day = date_of-day day (omega arith) in
    let date : CivilDate = date_of day in
    let t : escape (codes "T") ≡ codes "T" = refl in
    let z : escape (codes "Z") ≡ codes "Z" = refl in
    both (date_text (date_of day)) _
    (plain_date (date_of day) (omega (arith, counted.year.1)) (omega (arith, counted.month.1)) (omega (arith, counted.day_of_month.1, (days_in_month_bounds (pos (date_of day).year) (date_of day).month).0)))
    (both (codes "T") _ t (both (time_text (ms % 86400000 / 10)) _ (plain_time (ms % 86400000 / 10) (omega arith)) z))
