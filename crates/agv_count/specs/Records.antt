-- The records of a file: CSV (RFC 4180), by the default settings of `csv` except that it has no header row of its own.
use Rattle.std.specs.Prelude.{ℕ, ◌==◌, List, length, Bool}
use Rattle.csv.specs.Reading.{default_config, records, strip_bom}

-- every record, as the list of its fields; one byte order mark (EF BB BF) at the start of the file is dropped
unfoldable pub records_of : List ℕ → List (List (List ℕ))
records_of bytes = records default_config (strip_bom bytes)

-- the record has this number of fields
abbrev pub has_fields : ℕ → List (List ℕ) → Bool
has_fields n fields = length fields == n
