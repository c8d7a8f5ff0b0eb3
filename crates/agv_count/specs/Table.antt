-- A file that holds a table: a header, which names the columns, and then a record for each row (this project's formats).
use Rattle.std.specs.Prelude.{ℕ, Bool, List, [], ◌∷◌, if◌then◌else◌, Option, None}
use Rattle.std.specs.Cmp.Lexicographic.{pointwise}
use Rattle.std.specs.Str.{bytes_eq}
use Rattle.agv_header.specs.Each.{each}

-- the record has exactly these fields
abbrev pub is_record : List (List ℕ) → List (List ℕ) → Bool
is_record columns fields = pointwise bytes_eq fields columns

-- the rows of the records after the header, in order, if the first record is the header and each of the others is a row
abbrev pub rows_under : {Row : Type 0} → List (List ℕ) → (List (List ℕ) → Option Row) → List (List (List ℕ)) → Option (List Row)
rows_under columns row [] = None
rows_under columns row (first ∷ rest) = if is_record columns first then each row rest else None
