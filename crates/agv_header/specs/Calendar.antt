-- The Gregorian calendar from 1970 to 2099: the date of a day, found by counting off whole years and then whole months.
use Rattle.std.specs.Prelude.{ℕ, ◌+◌, ◌-◌, ◌%◌, Bool, not, ◌&&◌, ◌||◌, ◌==◌, nat_lt, if◌then◌else◌, List, [], ◌∷◌, map}
use Rattle.std.specs.List.{range_with_len}

-- whether the year is a leap year: divisible by 4, and a century only if divisible by 400
abbrev pub is_leap_year : ℕ → Bool
is_leap_year year = (year % 4 == 0) && (not (year % 100 == 0) || (year % 400 == 0))

-- the days of the year: 366 in a leap year, otherwise 365
abbrev pub days_in_year : ℕ → ℕ
days_in_year year = if is_leap_year year then 366 else 365

-- the days of each month of the year, from January to December
abbrev pub month_lengths : ℕ → List ℕ
month_lengths year =
    31 ∷ (if is_leap_year year then 29 else 28) ∷ 31 ∷ 30 ∷ 31 ∷ 30 ∷ 31 ∷ 31 ∷ 30 ∷ 31 ∷ 30 ∷ 31 ∷ []

-- the days of each year, from 1970 to 2099
unfoldable pub year_lengths : List ℕ
year_lengths = map days_in_year (range_with_len 1970 130)

-- the number of whole stretches (lengths in days) that lie before a day, and the day's number within its own stretch
unfoldable pub count_off : List ℕ → ℕ → ℕ × ℕ
count_off [] day = (0, day)
count_off (days ∷ more) day =
    if nat_lt day days then (0, day)
    else (let rest = count_off more (day - days) in (rest.0 + 1, rest.1))

-- a year, a month from 1 to 12, and a day from 1 to 31
pub record CivilDate : Type 0 where
  pub year : ℕ
  pub month : ℕ
  pub day : ℕ

-- the date of a day, numbered from 0 for 1970-01-01
unfoldable pub date_of : ℕ → CivilDate
date_of day =
    let years = count_off year_lengths day in
    let year = 1970 + years.0 in
    let months = count_off (month_lengths year) years.1 in
    record { year = year; month = 1 + months.0; day = 1 + months.1 }
