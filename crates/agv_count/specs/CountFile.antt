-- The stocktake file: a header, and then a record for each load found at a station (this project's format).
use Rattle.std.specs.Prelude.{◌≡◌, ℕ, false, List, [], ◌∷◌, length, codes, ◌==◌, if◌then◌else◌, Option, Some, None, option_map, option_and_then, refl}
use Rattle.agv_header.specs.Name.{as_name}
use Rattle.agv_count.specs.Records.{has_fields, records_of}
use Rattle.agv_count.specs.Table.{rows_under}

-- the columns of the header `station,load`
abbrev pub count_columns : List (List ℕ)
count_columns = codes "station" ∷ codes "load" ∷ []

-- the load of a record, or none if the field is empty: `A,` says only that A was counted
abbrev pub load_found : List ℕ → Option (Option (List ℕ))
load_found load = if length load == 0 then Some None else option_map Some (as_name load)

-- the row of a record such as `A,L1` or `A,`: a counted station, and a load found there, if any
unfoldable pub count_row : List (List ℕ) → Option (List ℕ × Option (List ℕ))
count_row (station ∷ load ∷ []) = option_and_then (λ at. option_map (λ found. (at, found)) (load_found load)) (as_name station)
count_row other = None

-- the rows of a stocktake file, if the bytes are such a file
abbrev pub count_in : List ℕ → Option (List (List ℕ × Option (List ℕ)))
count_in bytes = rows_under count_columns count_row (records_of bytes)

-- a record without exactly two fields is no row
pub no_count_row : (fields : List (List ℕ)) → has_fields 2 fields ≡ false → count_row fields ≡ None
unfolding count_row
no_count_row [] e = refl
no_count_row (a ∷ []) e = refl
no_count_row (a ∷ b ∷ []) e = cc e
no_count_row (a ∷ b ∷ c ∷ rest) e = refl
