-- Header numbers: each message of a topic has one more than the message before it (VDA 5050 2.0, headerId).
use Rattle.std.specs.Prelude.{ℕ, ◌+◌, nat_lt, Bool, true, if◌then◌else◌, Option, None, Some}

-- whether a message with this number is newer than the last one, if there was one
abbrev pub is_fresh : Option ℕ → ℕ → Bool
is_fresh None number = true
is_fresh (Some last) number = nat_lt last number

-- the number of the next message of the topic; none after 4294967295
abbrev pub next_number : ℕ → Option ℕ
next_number count = if nat_lt count 4294967295 then Some (count + 1) else None
