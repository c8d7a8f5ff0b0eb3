-- The loads that the rows of a stocktake name have names, and so have those of them that are unknown.
use Rattle.std.proofs.Common.{◌≡◌, ◌==◌, ℕ, Bool, true, false, cond, List, [], ◌∷◌, length, All, Option, None, Some, option_and_then, option_map, refl, subst}
use Rattle.std.specs.FinMap as finite
use Rattle.std.specs.List.{cons_option}
use Rattle.std.proofs.lemmas.List.Elements.{All-cons, All-nil}
use Rattle.agv_header.specs.Each.{each}
use Rattle.agv_header.specs.Name.{IsName, is_name}
use Rattle.agv_count.specs.CountFile.{count_columns, count_in, count_row}
use Rattle.agv_count.specs.Records.{records_of}
use Rattle.agv_count.specs.Table.{is_record, rows_under}
use Rattle.agv_world_core.specs.Worlds.{World}
use Rattle.agv_desk.specs.StocktakeSteps.{Row, is_here, unknown_in, unknown_on}
use Rattle.agv_face_http.specs.answers.Sizes.{IsNameIfAny}

-- the loads on some rows have names
abbrev pub NameLoads : List Row → Type 0
NameLoads [] = Unit {0}
NameLoads (row ∷ rows) = IsNameIfAny row.1 × NameLoads rows

-- ---- the rows of a file

abbrev NamesLoad : Option Row → Type 0
NamesLoad None = Unit {0}
NamesLoad (Some row) = IsNameIfAny row.1

abbrev NamesLoads : Option (List Row) → Type 0
NamesLoads None = Unit {0}
NamesLoads (Some rows) = NameLoads rows

-- a station and the load that was found there
module _ (station load : List ℕ) where
  load_named : (named : Bool) → is_name load ≡ named → NamesLoad (option_map (λ found. (station, found)) (option_map Some (cond named (Some load) None)))
  load_named true is = is
  load_named false is = tt

  found_named : (empty : Bool) → NamesLoad (option_map (λ found. (station, found)) (cond empty (Some None) (option_map Some (cond (is_name load) (Some load) None))))
  found_named true = tt
  found_named false = load_named (is_name load) refl

  station_named : (named : Bool) → NamesLoad (option_and_then (λ at. option_map (λ found. (at, found)) (cond (length load == 0) (Some None) (option_map Some (cond (is_name load) (Some load) None)))) (cond named (Some station) None))
  station_named true = found_named (length load == 0)
  station_named false = tt

row_named : (fields : List (List ℕ)) → NamesLoad (count_row fields)
unfolding count_row
row_named [] = tt
row_named (a ∷ []) = tt
row_named (station ∷ load ∷ []) = station_named station load (is_name station)
row_named (a ∷ b ∷ c ∷ rest) = tt

one_more : (one : Option Row) (rest : Option (List Row)) → NamesLoad one → NamesLoads rest → NamesLoads (option_and_then (λ row. option_map (λ rows. row ∷ rows) rest) one)
one_more None rest h hs = tt
one_more (Some row) None h hs = tt
one_more (Some row) (Some rows) h hs = (h, hs)

each_named : (records : List (List (List ℕ))) → NamesLoads (each count_row records)
each_named [] = tt
each_named (fields ∷ records) = one_more (count_row fields) (each count_row records) (row_named fields) (each_named records)

by_header : (test : Bool) (rows : Option (List Row)) → NamesLoads rows → NamesLoads (cond test rows None)
by_header true rows h = h
by_header false rows h = tt

under_named : (records : List (List (List ℕ))) → NamesLoads (rows_under count_columns count_row records)
under_named [] = tt
under_named (first ∷ rest) = by_header (is_record count_columns first) (each count_row rest) (each_named rest)

pub rows_named : (bytes : List ℕ) (rows : List Row) → count_in bytes ≡ Some rows → NameLoads rows
rows_named bytes rows is = subst NamesLoads is (under_named (records_of bytes))

-- ---- the unknown loads

unless_here : (here : Bool) (load : List ℕ) → IsName load → IsNameIfAny (cond here None (Some load))
unless_here true load h = tt
unless_here false load h = h

unknown_one : (world : World) (load : Option (List ℕ)) → IsNameIfAny load → IsNameIfAny (unknown_on world load)
unknown_one world None h = tt
unknown_one world (Some load) h = unless_here (is_here (finite.get world.places load)) load h

with_name : (name : Option (List ℕ)) (names : List (List ℕ)) → IsNameIfAny name → All IsName names → All IsName (cons_option name names)
with_name None names h hs = hs
with_name (Some name) names h hs = All-cons IsName name names h hs

pub unknown_named : (world : World) (rows : List Row) → NameLoads rows → All IsName (unknown_in world rows)
unknown_named world [] h = All-nil IsName
unknown_named world (row ∷ rows) h = with_name (unknown_on world row.1) (unknown_in world rows) (unknown_one world row.1 h.0) (unknown_named world rows h.1)
