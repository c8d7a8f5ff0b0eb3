-- Stamps: moments as text in the form YYYY-MM-DDTHH:mm:ss.ssZ (VDA 5050, header; ISO 8601 in UTC).
use Rattle.std.specs.Prelude.{ℕ, ◌+◌, ◌/◌, ◌%◌, List, [], ◌∷◌, ◌++◌, codes, ℤ, pos, negsuc, Option, None, option_and_then}
use Rattle.std.specs.Result.{result_ok}
use Rattle.jiff.specs.Words.{parse_timestamp}
use Rattle.agv_header.specs.Calendar.{CivilDate, date_of}
use Rattle.agv_header.specs.Moment.{moment_at}

-- a number below 100 in two digits
abbrev pub two_digits : ℕ → List ℕ
two_digits n = (48 + n / 10) ∷ (48 + n % 10) ∷ []

-- a number below 10000 in four digits
abbrev pub four_digits : ℕ → List ℕ
four_digits n = two_digits (n / 100) ++ two_digits (n % 100)

-- `1991-03-11`
abbrev pub date_text : CivilDate → List ℕ
date_text date = four_digits date.year ++ codes "-" ++ two_digits date.month ++ codes "-" ++ two_digits date.day

-- a time of day, given in hundredths of a second since midnight, as `11:40:03.12`
abbrev pub time_text : ℕ → List ℕ
time_text hundredths =
    two_digits (hundredths / 360000) ++ codes ":" ++ two_digits (hundredths / 6000 % 60)
    ++ codes ":" ++ two_digits (hundredths / 100 % 60) ++ codes "." ++ two_digits (hundredths % 100)

-- the text of a moment, cut off to hundredths of a second
unfoldable pub stamp_of : ℕ → List ℕ
stamp_of ms =
    date_text (date_of (ms / 86400000)) ++ codes "T" ++ time_text (ms % 86400000 / 10) ++ codes "Z"

-- the moment of an instant in nanoseconds, rounded down to milliseconds, if it is one
abbrev pub moment_of_nanos : ℤ → Option ℕ
moment_of_nanos (pos ns) = moment_at (pos (ns / 1000000))
moment_of_nanos (negsuc _) = None

-- the moment that a text says as `jiff` reads timestamps, if it says one
unfoldable pub moment_said : List ℕ → Option ℕ
moment_said text = option_and_then moment_of_nanos (result_ok (parse_timestamp text))
