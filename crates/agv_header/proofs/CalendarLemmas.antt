-- The date of a day, counted off in years and months, is the date with that day number.
use Rattle.std.proofs.Common.{◌≡◌, ℕ, zero, suc, ◌+◌, ◌-◌, ◌<◌, ◌≤◌, Bool, true, false, cond, nat_lt, List, [], ◌∷◌, length, get_or, map, sum, refl, sym, ap, subst, ◌∙◌, arith, ℤ, pos, ◌+ℤ◌}
use Rattle.std.specs.List.{range_with_len}
use Rattle.std.proofs.lemmas.Bool.Decides.{nat_tests}
use Rattle.std.proofs.lemmas.List.Sums.{sum_by-cons}
use Rattle.std.proofs.lemmas.List.FromFn.{get_or-map-range_with_len}
use Rattle.jiff_core.proofs.SignedLemmas.{signed_arith}
use Rattle.jiff.proofs.Family.{days_from_civil-day, days_from_civil-next_month, days_from_civil-next_year}
use Rattle.jiff_core.specs.Calendar.{days_from_civil, days_in_month}
use Rattle.agv_header.specs.Calendar.{is_leap_year, days_in_year, month_lengths, year_lengths, count_off, CivilDate, date_of}

-- where a day lies in stretches of days, of which the k-th has the first day number `first k`
pub record IsPlace (lengths : List ℕ) (first : ℕ → ℤ) (day : ℕ) (place : ℕ × ℕ) : Type 0 where
  pub stretch : place.0 < length lengths
  pub within : place.1 < get_or lengths place.0 0
  pub number : first place.0 +ℤ pos place.1 ≡ first 0 +ℤ pos day

-- each stretch begins after the last day of the one before it
pub record FollowOn (lengths : List ℕ) (first : ℕ → ℤ) : Type 0 where
  pub next : (k : ℕ) → k < length lengths → first (suc k) ≡ first k +ℤ pos (get_or lengths k 0)

place_after : (days : ℕ) (more : List ℕ) (first : ℕ → ℤ) (day : ℕ) (rest : ℕ × ℕ) → days ≤ day
    → first 1 ≡ first 0 +ℤ pos days → IsPlace more (λ k. first (suc k)) (day - days) rest
    → IsPlace (days ∷ more) first day (rest.0 + 1, rest.1)
place_after days more first day rest late second place =
    let on : rest.0 + 1 ≡ suc rest.0 = omega arith in
    let P : ℕ → Type 0 = λ n. IsPlace (days ∷ more) first day (n, rest.1) in
    subst P (sym on) (record {
      stretch = omega (arith, place.stretch);
      within = place.within;
      number = omega (arith, signed_arith, place.number, second, late);
    })

pub count_off-place : (lengths : List ℕ) (first : ℕ → ℤ) (day : ℕ) → FollowOn lengths first → day < sum lengths → IsPlace lengths first day (count_off lengths day)
unfolding count_off
count_off-place [] first day follow short = absurd (omega arith)
count_off-place (days ∷ more) first day follow short =
    let total : sum (days ∷ more) ≡ days + sum more = sum_by-cons (λ n. n) days more in
    let Goal : Bool → Type 0 = λ b. IsPlace (days ∷ more) first day (cond b (0, day) (let rest = count_off more (day - days) in (rest.0 + 1, rest.1))) in
    elim (nat_lt day days) as (λ b. nat_lt day days ≡ b → Goal b) [
      | true ↦ λ early. record { stretch = omega arith; within = grind (arith, nat_tests); number = refl }
      | false ↦ λ late.
          let past : days ≤ day = grind (arith, nat_tests) in
          let after : FollowOn more (λ k. first (suc k)) = record { next = λ k h. follow.next (suc k) (omega arith) } in
          place_after days more first day _ past (follow.next 0 (omega arith))
          (count_off-place more (λ k. first (suc k)) (day - days) after (omega arith))
    ] refl

month_length : (year k : ℕ) → k < 12 → get_or (month_lengths year) k 0 ≡ days_in_month (pos year) (k + 1)
month_length year zero h = refl
month_length year (suc zero) h = refl
month_length year (suc (suc zero)) h = refl
month_length year (suc (suc (suc zero))) h = refl
month_length year (suc (suc (suc (suc zero)))) h = refl
month_length year (suc (suc (suc (suc (suc zero))))) h = refl
month_length year (suc (suc (suc (suc (suc (suc zero)))))) h = refl
month_length year (suc (suc (suc (suc (suc (suc (suc zero))))))) h = refl
month_length year (suc (suc (suc (suc (suc (suc (suc (suc zero)))))))) h = refl
month_length year (suc (suc (suc (suc (suc (suc (suc (suc (suc zero))))))))) h = refl
month_length year (suc (suc (suc (suc (suc (suc (suc (suc (suc (suc zero)))))))))) h = refl
month_length year (suc (suc (suc (suc (suc (suc (suc (suc (suc (suc (suc zero))))))))))) h = refl
month_length year (suc (suc (suc (suc (suc (suc (suc (suc (suc (suc (suc (suc k)))))))))))) h = absurd (omega arith)

-- the first of a month follows the days of the month before it
month_step : (year month : ℕ) → 1 ≤ month → days_from_civil (pos year) (month + 1) 1 ≡ days_from_civil (pos year) month 1 +ℤ pos (days_in_month (pos year) month)
month_step year month h =
    let days = days_in_month (pos year) month in
    let some : 1 ≤ days = grind arith in
    let next : days_from_civil (pos year) (month + 1) 1 ≡ days_from_civil (pos year) month days +ℤ pos 1 = days_from_civil-next_month (pos year) month days h refl in
    let same : days_from_civil (pos year) month days +ℤ pos 1 ≡ days_from_civil (pos year) month 1 +ℤ pos days = days_from_civil-day (pos year) month days 1 some (omega arith) in
    next ∙ same

months_follow_on : (year : ℕ) → FollowOn (month_lengths year) (λ k. days_from_civil (pos year) (k + 1) 1)
months_follow_on year = record {
  next = λ k h.
      let step : days_from_civil (pos year) (k + 1 + 1) 1 ≡ days_from_civil (pos year) (k + 1) 1 +ℤ pos (days_in_month (pos year) (k + 1)) = month_step year (k + 1) (omega arith) in
      let on : suc k + 1 ≡ k + 1 + 1 = omega arith in
      ap (λ (m : ℕ). days_from_civil (pos year) m 1) on ∙ step ∙ ap (λ (n : ℕ). days_from_civil (pos year) (k + 1) 1 +ℤ pos n) (sym (month_length year k h));
}

months_of_year : (leap : Bool) → sum (31 ∷ (cond leap 29 28) ∷ 31 ∷ 30 ∷ 31 ∷ 30 ∷ 31 ∷ 31 ∷ 30 ∷ 31 ∷ 30 ∷ 31 ∷ []) ≡ cond leap 366 365
months_of_year true = refl
months_of_year false = refl

-- together the stretches are as long as their sum
follow_on-sum : (lengths : List ℕ) (first : ℕ → ℤ) → FollowOn lengths first → first (length lengths) ≡ first 0 +ℤ pos (sum lengths)
follow_on-sum [] first follow = omega (arith, signed_arith)
follow_on-sum (days ∷ more) first follow =
    let total : sum (days ∷ more) ≡ days + sum more = sum_by-cons (λ n. n) days more in
    let after : FollowOn more (λ k. first (suc k)) = record { next = λ k h. follow.next (suc k) (omega arith) } in
    let rest : first (suc (length more)) ≡ first 1 +ℤ pos (sum more) = follow_on-sum more (λ k. first (suc k)) after in
    let second : first 1 ≡ first 0 +ℤ pos days = follow.next 0 (omega arith) in
    let ends : first (suc (length more)) ≡ first 0 +ℤ pos (sum (days ∷ more)) = omega (arith, signed_arith) in
    ends

-- 1 January follows the days of the year before it
year_step : (year : ℕ) → days_from_civil (pos (suc year)) 1 1 ≡ days_from_civil (pos year) 1 1 +ℤ pos (days_in_year year)
year_step year =
    let months : days_from_civil (pos year) 13 1 ≡ days_from_civil (pos year) 1 1 +ℤ pos (sum (month_lengths year)) = follow_on-sum (month_lengths year) (λ k. days_from_civil (pos year) (k + 1) 1) (months_follow_on year) in
    let last : days_from_civil (pos year) 13 1 ≡ days_from_civil (pos year) 12 31 +ℤ pos 1 = days_from_civil-next_month (pos year) 12 31 (omega arith) refl in
    let next : days_from_civil (pos (suc year)) 1 1 ≡ days_from_civil (pos year) 12 31 +ℤ pos 1 = days_from_civil-next_year (pos year) (pos (suc year)) (omega (arith, signed_arith)) (omega (arith, signed_arith)) in
    next ∙ sym last ∙ months ∙ ap (λ (n : ℕ). days_from_civil (pos year) 1 1 +ℤ pos n) (months_of_year (is_leap_year year))

years_follow_on : FollowOn year_lengths (λ k. days_from_civil (pos (1970 + k)) 1 1)
unfolding year_lengths
years_follow_on = record {
  next = λ k h.
      let within : k < 130 = h in
      let length : get_or (map days_in_year (range_with_len 1970 130)) k 0 ≡ days_in_year (1970 + k) = get_or-map-range_with_len days_in_year 1970 130 k (1970 + k) 0 within refl in
      let on : 1970 + suc k ≡ suc (1970 + k) = omega arith in
      ap (λ (y : ℕ). days_from_civil (pos y) 1 1) on ∙ year_step (1970 + k) ∙ ap (λ (n : ℕ). days_from_civil (pos (1970 + k)) 1 1 +ℤ pos n) (sym length);
}

-- the days from 1970 to 2099
days_of_years : sum year_lengths ≡ 47482
unfolding year_lengths
days_of_years = refl

count_of_years : length year_lengths ≡ 130
unfolding year_lengths
count_of_years = refl

first_day : days_from_civil (pos 1970) 1 1 ≡ pos 0
unfolding days_from_civil
first_day = omega (arith, signed_arith)

-- the date counted off for a day is a date of the calendar, from 1970 to 2099, and has that day number
pub record IsDateOfDay (date : CivilDate) (day : ℕ) : Type 0 where
  pub year : (1970 ≤ date.year) × (date.year < 2100)
  pub month : (1 ≤ date.month) × (date.month ≤ 12)
  pub day_of_month : (1 ≤ date.day) × (date.day ≤ days_in_month (pos date.year) date.month)
  pub number : days_from_civil (pos date.year) date.month date.day ≡ pos day

counted_date : (day : ℕ) (years months : ℕ × ℕ) → IsPlace year_lengths (λ k. days_from_civil (pos (1970 + k)) 1 1) day years
    → IsPlace (month_lengths (1970 + years.0)) (λ k. days_from_civil (pos (1970 + years.0)) (k + 1) 1) years.1 months
    → IsDateOfDay (record { year = 1970 + years.0; month = 1 + months.0; day = 1 + months.1 }) day
counted_date day years months in_year in_month =
    let year : ℕ = 1970 + years.0 in
    let twelve : months.0 < 12 = in_month.stretch in
    let span : years.0 < 130 = omega (arith, in_year.stretch, count_of_years) in
    let on : months.0 + 1 ≡ 1 + months.0 = omega arith in
    let days : get_or (month_lengths year) months.0 0 ≡ days_in_month (pos year) (1 + months.0) = month_length year months.0 twelve ∙ ap (λ (m : ℕ). days_in_month (pos year) m) on in
    let within : months.1 < days_in_month (pos year) (1 + months.0) = subst (λ n. months.1 < n) days in_month.within in
    let number_in_month : days_from_civil (pos year) (months.0 + 1) 1 +ℤ pos months.1 ≡ days_from_civil (pos year) 1 1 +ℤ pos years.1 = in_month.number in
    let number_in_year : days_from_civil (pos year) 1 1 +ℤ pos years.1 ≡ days_from_civil (pos 1970) 1 1 +ℤ pos day = in_year.number in
    let month_named : days_from_civil (pos year) (months.0 + 1) 1 ≡ days_from_civil (pos year) (1 + months.0) 1 = ap (λ (m : ℕ). days_from_civil (pos year) m 1) on in
    let same_month : days_from_civil (pos year) (1 + months.0) (1 + months.1) +ℤ pos 1 ≡ days_from_civil (pos year) (1 + months.0) 1 +ℤ pos (1 + months.1) = days_from_civil-day (pos year) (1 + months.0) (1 + months.1) 1 (omega arith) (omega arith) in
    let epoch = first_day in
    let number : days_from_civil (pos year) (1 + months.0) (1 + months.1) ≡ pos day = omega (arith, signed_arith) in
    record {
      year = (omega arith, omega arith);
      month = (omega arith, omega arith);
      day_of_month = (omega arith, omega arith);
      number = number;
    }

year_length : (k : ℕ) → k < 130 → get_or year_lengths k 0 ≡ days_in_year (1970 + k)
unfolding year_lengths
year_length k h = get_or-map-range_with_len days_in_year 1970 130 k (1970 + k) 0 h refl

pub date_of-day : (day : ℕ) → day < 47482 → IsDateOfDay (date_of day) day
unfolding date_of
date_of-day day h =
    let years : ℕ × ℕ = count_off year_lengths day in
    let year : ℕ = 1970 + years.0 in
    let months : ℕ × ℕ = count_off (month_lengths year) years.1 in
    let in_year : IsPlace year_lengths (λ k. days_from_civil (pos (1970 + k)) 1 1) day years = count_off-place year_lengths _ day years_follow_on (subst (λ n. day < n) (sym days_of_years) h) in
    let span : years.0 < 130 = omega (arith, in_year.stretch, count_of_years) in
    let length : get_or year_lengths years.0 0 ≡ days_in_year year = year_length years.0 span in
    let total : sum (month_lengths year) ≡ days_in_year year = months_of_year (is_leap_year year) in
    let place : years.1 < sum (month_lengths year) = subst (λ n. years.1 < n) (length ∙ sym total) in_year.within in
    counted_date day years months in_year (count_off-place (month_lengths year) _ years.1 (months_follow_on year) place)
