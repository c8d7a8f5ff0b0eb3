-- The number of the schema of the desk's tables.
use Rattle.std.specs.Prelude.{ℕ}

-- the number, as the row of `meta` has it
abbrev pub schema_number : ℕ
schema_number = 2
