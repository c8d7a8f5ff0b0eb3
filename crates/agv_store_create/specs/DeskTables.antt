-- The desk's tables in a database, and what creating them gives.
use Rattle.std.specs.Prelude.{◌≡◌, ℕ, List, [], ◌∷◌, map, drop, Some, slice_get, pos, IsPermutation}
use Rattle.std.specs.List.{AllZip}
use Rattle.sqlite_value.specs.declared.value.Value.TheVariants.{Int}
use Rattle.sqlite_value.specs.Order.{Row}
use Rattle.sqlite_trees.specs.declared.store.Shape.TheVariants as shape
use Rattle.sqlite_trees.specs.Tree.{Trees}
use Rattle.sqlite_trees.specs.View.{IsShaped}
use Rattle.sqlite_schema.specs.declared.schema.Table.{Table}
use Rattle.sqlite_schema.specs.Names.{table_named}
use Rattle.sqlite_rules.specs.Lists.{Has}
use Rattle.sqlite_catalog.specs.Change.{KeepsRows}
use Rattle.sqlite.specs.Effect.{Database, IsDatabase}
use Rattle.agv_store_schema.specs.Schema.{desk_tables}
use Rattle.agv_store_create.specs.DeskSchema.{with_desk}
use Rattle.agv_store_schema.specs.SchemaNumbers.{schema_number}

-- a table has these rows, in some order, each under a rowid of its own
abbrev pub HasRows : List Row → List Row → Type 0
HasRows entries rows = IsShaped shape.Table entries × IsPermutation rows (map (drop 1) entries)

-- the schema has this table under its name, in some tree, with these rows in some order
pub record HasTable (db : Database) (table : Table) (rows : List Row) : Type 0 where
  pub at : ℕ
  pub tree : ℕ
  pub named : table_named db.schema table.name ≡ Some at
  pub there : slice_get db.schema.tables at ≡ Some (record table { tree = tree })
  -- no other table has that tree
  pub alone : (other : Table) → Has db.schema.tables other → other.tree ≡ tree → other ≡ record table { tree = tree }
  pub rows_are : HasRows (db.trees tree) rows

-- the fourteen tables are there, each with its list of rows
abbrev pub HasDesk : Database → List (List Row) → Type 0
HasDesk db = AllZip (HasTable db) desk_tables

-- the rows of a new desk: only the number of the schema, in the one row of `meta`
abbrev pub first_rows : List (List Row)
first_rows = ((Int (pos 1) ∷ Int (pos schema_number) ∷ []) ∷ []) ∷ [] ∷ [] ∷ [] ∷ [] ∷ [] ∷ [] ∷ [] ∷ [] ∷ [] ∷ [] ∷ [] ∷ [] ∷ [] ∷ []

-- what creating the tables gives
pub record MakesDesk (old new : Database) : Type 0 where
  -- the tables, views and indexes that were there, followed by those of the desk
  pub schema_is : new.schema ≡ with_desk old.schema
  -- the other tables have the rows that they had
  pub others : KeepsRows old.schema.tables old.trees new.trees
  -- the desk's tables have their first rows
  pub rows : HasDesk new first_rows
  -- opening these trees gives this schema
  pub listed : IsDatabase new

-- the trees that a crash may leave of it: those with all of it
abbrev pub LeavesDesk : Database → Trees → Type 0
LeavesDesk old trees = (new : Database) × MakesDesk old new × (trees ≡ new.trees)
