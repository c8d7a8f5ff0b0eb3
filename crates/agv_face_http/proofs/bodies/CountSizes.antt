-- The loads that the rows of a stocktake name take no more bytes than its file, nor do those of them that are unknown.
use Rattle.std.proofs.Common.{◌≡◌, ◌&&◌, nat_lt, nat_le, ◌==◌, ℕ, ◌+◌, ◌≤◌, Bool, true, false, cond, List, [], ◌∷◌, length, Option, None, Some, option_and_then, option_map, refl, subst, arith}
use Rattle.std.specs.FinMap as finite
use Rattle.std.specs.List.{cons_option, list_all, sum_by}
use Rattle.std.proofs.lemmas.Bool.{and_parts}
use Rattle.std.proofs.lemmas.Bool.Decides.{nat_tests}
use Rattle.std.proofs.lemmas.List.Sums.{sum_by-cons}
use Rattle.agv_header.specs.Each.{each}
use Rattle.agv_header.specs.Name.{is_name, is_name_byte}
use Rattle.agv_count.specs.CountFile.{count_columns, count_in, count_row}
use Rattle.agv_count.specs.Records.{records_of}
use Rattle.agv_count.specs.Table.{is_record, rows_under}
use Rattle.agv_world_core.specs.Worlds.{World}
use Rattle.agv_desk.specs.StocktakeSteps.{Row, is_here, unknown_in, unknown_on}
use Rattle.agv_face_http.specs.answers.Sizes.{names_size}
use Rattle.agv_face_http.proofs.bodies.RecordSizes.{fields_size, records_size, records_within}

-- the name of a load between quotes, with a comma, if there is one
abbrev pub found_size : Option (List ℕ) → ℕ
found_size None = 0
found_size (Some load) = length load + 3

-- the same of the loads on some rows
abbrev pub rows_size : List Row → ℕ
rows_size rows = sum_by (λ (row : Row). found_size row.1) rows

-- ---- the rows of a file

abbrev IsRowWithin : ℕ → Option Row → Type 0
IsRowWithin n None = Unit {0}
IsRowWithin n (Some row) = found_size row.1 ≤ n

abbrev AreWithin : ℕ → Option (List Row) → Type 0
AreWithin n None = Unit {0}
AreWithin n (Some rows) = rows_size rows ≤ n

name_has_bytes : (s : List ℕ) → is_name s ≡ true → 1 ≤ length s
name_has_bytes s h =
    let lengths = and_parts (nat_lt 0 (length s) && nat_le (length s) 32) (list_all is_name_byte s) h in
    let test : nat_lt 0 (length s) ≡ true = (and_parts (nat_lt 0 (length s)) (nat_le (length s) 32) lengths.0).0 in
    grind (arith, nat_tests)

-- a station and the load that was found there
module _ (station load : List ℕ) where
  abbrev n : ℕ
  n = fields_size (station ∷ load ∷ [])

  load_within : 1 ≤ length station → (named : Bool) → IsRowWithin n (option_map (λ found. (station, found)) (option_map Some (cond named (Some load) None)))
  load_within h true = omega arith
  load_within h false = tt

  found_within : 1 ≤ length station → (empty : Bool) → IsRowWithin n (option_map (λ found. (station, found)) (cond empty (Some None) (option_map Some (cond (is_name load) (Some load) None))))
  found_within h true = omega arith
  found_within h false = load_within h (is_name load)

  station_within : (named : Bool) → is_name station ≡ named
      → IsRowWithin n (option_and_then (λ at. option_map (λ found. (at, found)) (cond (length load == 0) (Some None) (option_map Some (cond (is_name load) (Some load) None)))) (cond named (Some station) None))
  station_within true h = found_within (name_has_bytes station h) (length load == 0)
  station_within false h = tt

row_within : (fields : List (List ℕ)) → IsRowWithin (fields_size fields) (count_row fields)
unfolding count_row
row_within [] = tt
row_within (a ∷ []) = tt
row_within (station ∷ load ∷ []) = station_within station load (is_name station) refl
row_within (a ∷ b ∷ c ∷ rest) = tt

one_more : (n m k : ℕ) (one : Option Row) (rest : Option (List Row)) → IsRowWithin n one → AreWithin m rest → n + m ≤ k
    → AreWithin k (option_and_then (λ row. option_map (λ rows. row ∷ rows) rest) one)
one_more n m k None rest h hs less = tt
one_more n m k (Some row) None h hs less = tt
one_more n m k (Some row) (Some rows) h hs less = omega (arith, sum_by-cons (λ (one : Row). found_size one.1) row rows)

each_within : (records : List (List (List ℕ))) → AreWithin (records_size records) (each count_row records)
each_within [] = omega arith
each_within (fields ∷ records) =
    one_more (fields_size fields) (records_size records) (records_size (fields ∷ records)) (count_row fields) (each count_row records)
    (row_within fields) (each_within records) (omega (arith, sum_by-cons fields_size fields records))

within_more : (n m : ℕ) (rows : Option (List Row)) → AreWithin n rows → n ≤ m → AreWithin m rows
within_more n m None h less = tt
within_more n m (Some rows) h less = omega arith

by_header : (n : ℕ) (test : Bool) (rows : Option (List Row)) → AreWithin n rows → AreWithin n (cond test rows None)
by_header n true rows h = h
by_header n false rows h = tt

under_within : (records : List (List (List ℕ))) → AreWithin (records_size records) (rows_under count_columns count_row records)
under_within [] = tt
under_within (first ∷ rest) =
    by_header (records_size (first ∷ rest)) (is_record count_columns first) (each count_row rest)
    (within_more (records_size rest) (records_size (first ∷ rest)) (each count_row rest) (each_within rest) (omega (arith, sum_by-cons fields_size first rest)))

pub file_within : (bytes : List ℕ) → AreWithin (length bytes + 1) (count_in bytes)
file_within bytes = within_more (records_size (records_of bytes)) (length bytes + 1) (count_in bytes) (under_within (records_of bytes)) (records_within bytes)

pub rows_within : (bytes : List ℕ) (rows : List Row) → count_in bytes ≡ Some rows → rows_size rows ≤ length bytes + 1
rows_within bytes rows is = subst (AreWithin (length bytes + 1)) is (file_within bytes)

-- ---- the unknown loads

unless_here : (here : Bool) (load : List ℕ) → found_size (cond here None (Some load)) ≤ found_size (Some load)
unless_here true load = omega arith
unless_here false load = omega arith

unknown_less : (world : World) (load : Option (List ℕ)) → found_size (unknown_on world load) ≤ found_size load
unknown_less world None = omega arith
unknown_less world (Some load) = unless_here (is_here (finite.get world.places load)) load

with_name : (name : Option (List ℕ)) (names : List (List ℕ)) → names_size (cons_option name names) ≡ found_size name + names_size names
with_name None names = omega arith
with_name (Some name) names = sum_by-cons (λ (one : List ℕ). length one + 3) name names

pub unknown_within : (world : World) (rows : List Row) → names_size (unknown_in world rows) ≤ rows_size rows
unknown_within world [] = omega arith
unknown_within world (row ∷ rows) =
    omega (
      arith,
      with_name (unknown_on world row.1) (unknown_in world rows),
      unknown_less world row.1,
      sum_by-cons (λ (one : Row). found_size one.1) row rows,
      unknown_within world rows,
    )
