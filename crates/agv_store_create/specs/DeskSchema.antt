-- What creating the desk's tables adds to a schema, whatever else is in it.
use Rattle.std.specs.Prelude.{◌≡◌, ℕ, ◌+◌, Bool, false, if◌then◌else◌, List, [], ◌∷◌, map, fold, codes, None, option_map, option_and_then, unwrap_or, slice_get}
use Rattle.std.specs.List.{list_any}
use Rattle.sqlite_value.specs.declared.value.Value.TheVariants.{Null}
use Rattle.sqlite_value.specs.declared.keys.Collation.TheVariants.{Binary}
use Rattle.sqlite_value.specs.Keys.{plain}
use Rattle.sqlite_schema.specs.declared.schema.Kind.TheVariants as kind
use Rattle.sqlite_schema.specs.declared.schema.Column.{Column}
use Rattle.sqlite_schema.specs.declared.schema.Index.{Index}
use Rattle.sqlite_schema.specs.declared.schema.Table.{Table}
use Rattle.sqlite_schema.specs.declared.schema.Schema.{Schema}
use Rattle.sqlite_schema.specs.Names.{table_named, column_named}
use Rattle.sqlite_catalog.specs.Change.{is_used, created, indexed}
use Rattle.sqlite.specs.Does.{lacks_sequence}
use Rattle.agv_store_schema.specs.Schema.{desk_tables, PlainIndex, desk_indexes}

-- the names of the fourteen tables
abbrev pub desk_names : List (List ℕ)
desk_names = map (λ (t : Table). t.name) desk_tables

-- a table, a view or an index has one of these names
abbrev pub is_name_taken : Schema → Bool
is_name_taken schema = list_any (is_used schema) desk_names

-- the database has no tables, indexes or views
abbrev pub IsEmpty : Schema → Type 0
IsEmpty schema = schema ≡ record { tables = []; indexes = []; views = [] }

-- a column without a type, as only a table that is not STRICT may have
abbrev pub untyped : List ℕ → Column
untyped name = record { name = name; kind = kind.Any; is_strict = false; not_null = false; default = Null; collation = Binary }

-- `sqlite_sequence`, SQLite's own table for AUTOINCREMENT
abbrev pub sequence_table : Table
sequence_table = record {
  name = codes "sqlite_sequence";
  tree = 0;
  columns = untyped (codes "name") ∷ untyped (codes "seq") ∷ [];
  key = None;
  primary = [];
  uniques = [];
  orders = [];
  checks = [];
  references = [];
  computed = [];
  stamps = record { places = []; terms = []; formats = [] };
  is_counted = false;
}

-- the schema with `sqlite_sequence`, if a table needs it and it is missing
abbrev pub with_sequence : Schema → Schema
with_sequence schema = if lacks_sequence schema then created schema sequence_table else schema

-- the schema with one more table
abbrev pub with_new_table : Schema → Table → Schema
with_new_table schema table = with_sequence (created schema table)

-- the columns of a table with these names, counted from 1
abbrev pub places : Table → List (List ℕ) → List ℕ
places table = map (λ name. unwrap_or (column_named table name) 0 + 1)

-- a plain index of a table, which is not UNIQUE
abbrev pub index_on : Table → PlainIndex → Index
index_on table index = record { name = index.name; tree = 0; table = table.tree; columns = places table index.columns; order = plain; is_unique = false }

-- the schema with one more index, unless its name is taken
abbrev pub with_new_index : Schema → PlainIndex → Schema
with_new_index schema index =
    if is_used schema index.name then schema else
    unwrap_or (option_map (λ table. indexed schema table (index_on table index)) (option_and_then (slice_get schema.tables) (table_named schema index.table))) schema

-- the schema with the fourteen tables and those of the four indexes whose names are free
abbrev pub with_desk : Schema → Schema
with_desk schema = fold with_new_index (fold with_new_table schema desk_tables) desk_indexes
