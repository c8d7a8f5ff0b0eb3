-- What the rows of a key and of a count encode. No public clause cites this.
use Rattle.std.specs.Prelude.{ℕ, List, [], ◌∷◌, Option, None, Some, Result, Ok, Err}
use Rattle.sqlite_value.specs.Order.{Row, column}
use Rattle.agv_store_rows.specs.ValueEncodings.{number_in}
use Rattle.agv_store_read.specs.declared.open_fault.OpenFault.{OpenFault}
use Rattle.agv_store_read.specs.declared.open_fault.OpenFault.TheVariants as fault

-- the value that a row encodes beside its key; a row that cannot be decoded is damaged
abbrev pub value_of : {K X : Type 0} → Option (K × X) → Result (Option X) OpenFault
value_of None = Err fault.Damaged
value_of (Some entry) = Ok (Some entry.1)

-- the value that the first row encodes, or none if there is no row
abbrev pub first_in : {K X : Type 0} → (Row → Option (K × X)) → List Row → Result (Option X) OpenFault
first_in told [] = Ok None
first_in told (row ∷ rows) = value_of (told row)

-- the key that a row encodes; a row that cannot be decoded is damaged
abbrev pub key_of : {K X : Type 0} → Option (K × X) → Result (Option K) OpenFault
key_of None = Err fault.Damaged
key_of (Some entry) = Ok (Some entry.0)

-- the key that the first row encodes, or none if there is no row
abbrev pub first_key_in : {K X : Type 0} → (Row → Option (K × X)) → List Row → Result (Option K) OpenFault
first_key_in told [] = Ok None
first_key_in told (row ∷ rows) = key_of (told row)

-- all that a row encodes; a row that cannot be decoded is damaged
abbrev pub whole_of : {A : Type 0} → Option A → Result (Option A) OpenFault
whole_of None = Err fault.Damaged
whole_of (Some a) = Ok (Some a)

-- all that the first row encodes, or none if there is no row
abbrev pub first_whole_in : {A : Type 0} → (Row → Option A) → List Row → Result (Option A) OpenFault
first_whole_in told [] = Ok None
first_whole_in told (row ∷ rows) = whole_of (told row)

-- the number that a column encodes; a column that is no number is damaged
abbrev pub number_of : Option ℕ → Result ℕ OpenFault
number_of None = Err fault.Damaged
number_of (Some n) = Ok n

-- the number that the first row encodes; if there is no row, the answer is damaged
abbrev pub first_number_in : List Row → Result ℕ OpenFault
first_number_in [] = Err fault.Damaged
first_number_in (row ∷ rows) = number_of (number_in (column row 0))
