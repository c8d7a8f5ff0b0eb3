-- Moments: milliseconds since 1970-01-01T00:00:00Z, to the end of the year 2099 (this project's profile of VDA 5050).
use Rattle.std.specs.Prelude.{ℕ, ◌≤◌, nat_le, if◌then◌else◌, ℤ, pos, negsuc, Option, Some, None}

-- 2099-12-31T23:59:59.999Z, in milliseconds
abbrev pub last_moment : ℕ
last_moment = 4102444799999

-- a number of milliseconds that is a moment: from 0 to the last
abbrev pub IsMoment : ℕ → Type 0
IsMoment ms = ms ≤ last_moment

-- the moment of a number of milliseconds, if it is one
abbrev pub moment_at : ℤ → Option ℕ
moment_at (pos ms) = if nat_le ms last_moment then Some ms else None
moment_at (negsuc _) = None
