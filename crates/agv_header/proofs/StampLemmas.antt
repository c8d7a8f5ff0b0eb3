-- What `jiff` prints of a moment is its stamp.
use Rattle.std.proofs.Common.{◌≡◌, ℕ, ◌+◌, ◌*◌, ◌/◌, ◌%◌, ◌<◌, false, [], ◌∷◌, ◌++◌, Some, sym, ◌∙◌, arith, pos, ◌*ℤ◌}
use Rattle.jiff.specs.Types.{Date, DateTime}
use Rattle.jiff.specs.Words.{epoch_day, civil_nanos, time_nanos, datetime_text}
use Rattle.jiff.proofs.Family.{civil_nanos-parts, time_nanos_bound, epoch_day_injective}
use Rattle.jiff_core.proofs.SignedLemmas.{signed_arith}
use Rattle.jiff_fmt.specs.Text.{places}
use Rattle.agv_header.specs.Calendar.{date_of}
use Rattle.agv_header.specs.Moment.{IsMoment}
use Rattle.agv_header.specs.Stamp.{stamp_of}
use Rattle.agv_header.proofs.CalendarLemmas.{IsDateOfDay, date_of-day}

-- an hour, a minute, a second and its nanoseconds, of that many milliseconds since midnight
pub record IsClock (ms hour minute second nanos : ℕ) : Type 0 where
  pub hour_is : hour ≡ ms / 10 / 360000
  pub minute_is : minute ≡ ms / 10 / 6000 % 60
  pub second_is : second ≡ ms / 10 / 100 % 60
  pub tenth_is : nanos / 100000000 ≡ ms / 10 % 100 / 10
  pub hundredth_is : nanos % 100000000 / 10000000 ≡ ms / 10 % 100 % 10

clock : (ms hour minute second nanos : ℕ) → minute < 60 → second < 60 → nanos < 1000000000
    → (hour * 3600 + minute * 60 + second) * 1000000000 + nanos ≡ ms * 1000000 → IsClock ms hour minute second nanos
clock ms hour minute second nanos m s n e =
    let part : ℕ = nanos / 1000000 in
    let whole : nanos ≡ part * 1000000 = omega arith in
    let split : ms ≡ (hour * 3600 + minute * 60 + second) * 1000 + part = omega arith in
    let small : part < 1000 = omega arith in
    let hundredths : ms / 10 ≡ (hour * 3600 + minute * 60 + second) * 100 + part / 10 = omega arith in
    record {
      hour_is = omega arith;
      minute_is = omega arith;
      second_is = omega arith;
      tenth_is = omega arith;
      hundredth_is = omega arith;
    }

-- what a clock at UTC shows at a moment
pub record IsShownAt (ms : ℕ) (dt : DateTime) : Type 0 where
  pub day_is : epoch_day dt.date ≡ pos (ms / 86400000)
  pub time_is : time_nanos dt.time ≡ ms % 86400000 * 1000000

shown_at : (ms : ℕ) (dt : DateTime) → civil_nanos dt ≡ pos ms *ℤ pos 1000000 → IsShownAt ms dt
shown_at ms dt e =
    let parts = civil_nanos-parts dt in
    let within = time_nanos_bound dt.time in
    record { day_is = omega (arith, signed_arith); time_is = omega (arith, signed_arith) }

-- the date of a moment's day is the date with that day number
date_shown : (day : ℕ) (date : Date) → day < 47482 → epoch_day date ≡ pos day
    → (date.year ≡ pos (date_of day).year) × (date.month ≡ (date_of day).month) × (date.day ≡ (date_of day).day)
date_shown day date h e =
    let counted : IsDateOfDay (date_of day) day = date_of-day day h in
    let same : Date = record {
      year = pos (date_of day).year;
      month = (date_of day).month;
      day = (date_of day).day;
      year_in = omega (arith, signed_arith, counted.year);
      month_in = counted.month;
      day_in = counted.day_of_month;
    } in
    epoch_day_injective date same (e ∙ sym counted.number)

pub stamp_shown : (ms : ℕ) (dt : DateTime) → IsMoment ms → civil_nanos dt ≡ pos ms *ℤ pos 1000000
    → datetime_text false 84 (Some 2) dt ++ 90 ∷ [] ≡ stamp_of ms
unfolding stamp_of places
stamp_shown ms dt h e =
    let shown = shown_at ms dt e in
    let date = date_shown (ms / 86400000) dt.date (omega arith) shown.day_is in
    let time = clock (ms % 86400000) dt.time.hour dt.time.minute dt.time.second dt.time.subsec_nanosecond dt.time.minute_in dt.time.second_in dt.time.subsec_in shown.time_is in
    rw (date.0, date.1, date.2, time.hour_is, time.minute_is, time.second_is, time.tenth_is, time.hundredth_is)
