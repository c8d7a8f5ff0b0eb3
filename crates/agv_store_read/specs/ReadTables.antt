-- What all rows of a table encode: each row encodes one entry, and no two the same key.
use Rattle.std.specs.Prelude.{◌≡◌, if◌then◌else◌, List, [], ◌∷◌, Option, None, Some, Result, Ok, Err}
use Rattle.std.specs.FinMap.{FinMap, get, insert}
use Rattle.std.specs.FinSet as set
use Rattle.std.specs.declared.cmp.Ordering.{Ordering}
use Rattle.sqlite_value.specs.Order.{Row}
use Rattle.agv_store_rows.specs.ValueEncodings.{if_some}
use Rattle.agv_store_read.specs.declared.open_fault.OpenFault.{OpenFault}
use Rattle.agv_store_read.specs.declared.open_fault.OpenFault.TheVariants as fault

-- what follows if a key is free; none if the table has it
abbrev pub if_free : {X A : Type 0} → Option X → Option A → Option A
if_free None more = more
if_free (Some x) more = None

-- the table with the entries of the rows added; none if a row cannot be decoded, or its key is already there
abbrev pub read_rows : {K X : Type 0} {R : K → K → Ordering} → (Row → Option (K × X)) → FinMap R X → List Row → Option (FinMap R X)
read_rows told table [] = Some table
read_rows told table (row ∷ rows) = if_some (told row) (λ entry. if_free (get table entry.0) (read_rows told (insert table entry.0 entry.1) rows))

-- the set with the members of the rows added; none if a row cannot be decoded, or its member is already there
abbrev pub read_members : {K : Type 0} {R : K → K → Ordering} → (Row → Option K) → set.FinSet R → List Row → Option (set.FinSet R)
read_members told members [] = Some members
read_members told members (row ∷ rows) = if_some (told row) (λ key. if set.contains members key then None else read_members told (set.insert members key) rows)

-- the result of reading rows that give this table, or none
abbrev pub Reads : {A : Type 0} → Result A OpenFault → Option A → Type 0
Reads (Ok table) given = given ≡ Some table
Reads (Err fault.Memory) given = Unit {0}
Reads (Err fault.Storage) given = ⊥
Reads (Err fault.Damaged) given = given ≡ None
