-- The numbers of the desk's second schema: its own, and the most loads that a vehicle may be built for.
use Rattle.std.specs.Prelude.{ℕ}
-- the number of the schema, as `meta` stores it
pub use Rattle.agv_header.specs.SchemaNumber.{schema_number}

-- the most loads that a vehicle of a lawful world of the desk may be built for
abbrev pub desk_seats : ℕ
desk_seats = 4
