-- Whether a schema has the desk's tables.
use Rattle.std.specs.Prelude.{◌≡◌, ◌⊎◌, ◌^◌, ℕ, Bool, false, true, nat_le, List, [], ◌∷◌, map, Option, None, Some, slice_get}
use Rattle.std.specs.List.{AllByRecursion}
use Rattle.sqlite_value.specs.Keys.{plain}
use Rattle.sqlite_value.specs.declared.value.Value.TheVariants.{Null}
use Rattle.sqlite_schema.specs.declared.schema.Column.{Column}
use Rattle.sqlite_schema.specs.declared.schema.Schema.{Schema}
use Rattle.sqlite_schema.specs.declared.schema.Table.{Table}
use Rattle.sqlite_schema.specs.Names.{table_named}
use Rattle.agv_store_schema.specs.DeskRows.{Placing, IsDesk, RowidColumn, SameKeys, TableKeys, columns_by, indexed_by, key_by, keys_of, with_keys}
use Rattle.agv_store_schema.specs.Schema.{meta_table}

-- the schema has the desk's tables, in some trees
abbrev pub TablesStand : Schema → Type 0
TablesStand schema = (at : Placing) × IsDesk at × (schema ≡ at.schema)

-- the schema has exactly this table under its name, in a tree that a table may have, however its keys are written
pub record StandsAlike (schema : Schema) (table : Table) : Type 0 where
  pub at : ℕ
  pub tree : ℕ
  pub keys : TableKeys
  pub named : table_named schema table.name ≡ Some at
  pub there : slice_get schema.tables at ≡ Some (with_keys keys (record table { tree = tree }))
  pub same_keys : SameKeys keys.indexed table.uniques
  pub low : nat_le (2 ^ 31) tree ≡ false

-- a table that is accepted as `meta`: its first column, `id`, may be the rowid
abbrev pub meta_form : Option RowidColumn → Table
meta_form None = meta_table
meta_form (Some first) =
    let indexed = indexed_by (Some first) meta_table.uniques in
    record meta_table { key = key_by (Some first); columns = columns_by (Some first) meta_table.columns; primary = 0 ∷ []; uniques = indexed; orders = map (λ _. plain) indexed }

-- a rowid column, NOT NULL or not, also UNIQUE or not
abbrev pub a_rowid : Bool → Bool → Option RowidColumn
a_rowid not_null is_unique = Some (record { not_null = not_null; is_unique = is_unique })

-- the tables that are accepted as `meta`
abbrev pub meta_forms : List Table
meta_forms =
    meta_form None
    ∷ meta_form (a_rowid false false)
    ∷ meta_form (a_rowid true false)
    ∷ meta_form (a_rowid false true)
    ∷ meta_form (a_rowid true true) ∷ []

-- the schema has one of these tables
abbrev pub AnyStands : Schema → List Table → Type 0
AnyStands schema [] = ⊥
AnyStands schema (t ∷ tables) = StandsAlike schema t ⊎ AnyStands schema tables

-- no column has a default
abbrev pub HaveNoDefaults : List Column → Type 0
HaveNoDefaults = AllByRecursion (λ (c : Column). c.default ≡ Null)

-- a table without CHECK constraints, foreign keys, computed defaults or AUTOINCREMENT
pub record HasNoRules (table : Table) : Type 0 where
  pub checks : table.checks ≡ []
  pub references : table.references ≡ []
  pub computed : table.computed ≡ []
  pub stamps : table.stamps ≡ record { places = []; terms = []; formats = [] }
  pub uncounted : table.is_counted ≡ false

-- a table with no constraints but its keys and the types of its columns, and no defaults
pub record IsPlain (table : Table) : Type 0 where
  pub rules : HasNoRules table
  pub defaults : HaveNoDefaults table.columns

-- the columns accept the same values, and compare them in the same way
pub record SameKind (a b : Column) : Type 0 where
  pub kind : a.kind ≡ b.kind
  pub strict : a.is_strict ≡ b.is_strict
  pub not_null : a.not_null ≡ b.not_null
  pub collation : a.collation ≡ b.collation

-- the first table has the keys of the second, in any order, and each index of it is in the plain order of its columns
pub record HasKeysOf (a b : Table) : Type 0 where
  pub key : a.key ≡ b.key
  pub uniques : SameKeys a.uniques b.uniques
  pub orders : a.orders ≡ map (λ _. plain) a.uniques

-- the first table equals the second, except for its tree and how its keys are written
abbrev pub IsAlike : Table → Table → Type 0
IsAlike a b = (a ≡ with_keys (keys_of a) (record b { tree = a.tree })) × SameKeys a.uniques b.uniques
