-- The export of loads as CSV: the fields of its records (RFC 4180, but each record ends in LF alone).
use Rattle.std.specs.Prelude.{ℕ, List, [], ◌∷◌, All, codes, map}
use Rattle.std.specs.List.{flat_map}
use Rattle.csv.specs.Writing.{default_writer, row_text}
use Rattle.agv_header.specs.Name.{IsName}
use Rattle.agv_stock.specs.declared.place.Place.{Place}
use Rattle.agv_stock.specs.declared.place.Place.TheVariants as place
use Rattle.agv_count.specs.Reports.{key_text}

-- the fields of the header record
abbrev pub export_columns : List (List ℕ)
export_columns = codes "load" ∷ codes "place" ∷ codes "at" ∷ []

-- the fields of a load's record
abbrev pub export_fields : List ℕ × Place → List (List ℕ)
export_fields (load, place.Station id) = load ∷ codes "station" ∷ id ∷ []
export_fields (load, place.Vehicle key) = load ∷ codes "vehicle" ∷ key_text key ∷ []
export_fields (load, place.Checking) = load ∷ codes "checking" ∷ [] ∷ []
export_fields (load, place.Left) = load ∷ codes "left" ∷ [] ∷ []

-- the station of the place, or the manufacturer and the serial number of its vehicle, are names
abbrev pub IsPlaceNamed : Place → Type 0
IsPlaceNamed (place.Station id) = IsName id
IsPlaceNamed (place.Vehicle key) = IsName key.manufacturer × IsName key.serial
IsPlaceNamed place.Checking = Unit {0}
IsPlaceNamed place.Left = Unit {0}

-- the names of the loads and of their places are names
abbrev pub AreLoadsNamed : List (List ℕ × Place) → Type 0
AreLoadsNamed loads = All (λ l. IsName l.0 × IsPlaceNamed l.1) loads

-- the bytes that the writer of `csv` writes of the header and the records, by its default settings
abbrev pub written_by_csv : List (List ℕ × Place) → List ℕ
written_by_csv loads = flat_map (row_text default_writer) (export_columns ∷ map export_fields loads)
