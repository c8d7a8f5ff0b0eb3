-- A new desk beside other tables, as the statements see it.
use Rattle.std.specs.Prelude.{◌≡◌, ◌≢◌, ◌⊎◌, true, false}
use Rattle.sqlite_trees.specs.Tree.{IsAscending}
use Rattle.sqlite_schema.specs.declared.schema.Schema.{Schema}
use Rattle.sqlite_schema.specs.declared.schema.Table.{Table}
use Rattle.sqlite.specs.Effect.{Database, IsDatabase}
use Rattle.agv_store_schema.specs.declared.table_name.TableName.{TableName}
use Rattle.agv_store_schema.specs.DeskRows.{Placing, IsDesk, Holds, table_for, is_unreferred}
use Rattle.agv_store_create.specs.DeskSchema.{is_name_taken}
use Rattle.agv_store_create.specs.DeskTables.{LeavesDesk, MakesDesk, first_rows}

-- a schema whose tables allow the desk's beside them: no foreign key refers to one of the desk's names, and no two tables have the same tree
pub record AllowsDesk (schema : Schema) : Type 0 where
  pub unreferred : (name : TableName) → is_unreferred (table_for name).name schema.tables ≡ true
  pub apart : IsAscending (λ (s t : Table). s.tree ≢ t.tree) schema.tables

-- the database has a desk with its first rows
abbrev pub StandsNew : Database → Type 0
StandsNew db = (desk : Placing) × IsDesk desk × Holds desk db first_rows

-- the trees determine the whole schema, with its indexes and views
abbrev pub TreesTellSchemas : Type 0
TreesTellSchemas = (old found : Database) → IsDatabase old → IsDatabase found → found.trees ≡ old.trees → found.schema ≡ old.schema

-- so opening a database with the trees from before the tables were created finds a name of the desk's taken exactly if one was taken then
abbrev pub TreesTellNames : Type 0
TreesTellNames = (old found : Database) → IsDatabase old → IsDatabase found → found.trees ≡ old.trees → is_name_taken found.schema ≡ is_name_taken old.schema

-- opening the database after a crash during the creation finds either no name of the desk's taken, or a new desk
abbrev pub OpeningsFindEither : Type 0
OpeningsFindEither =
    (old found : Database) → IsDatabase old → AllowsDesk old.schema → is_name_taken old.schema ≡ false → IsDatabase found → (found.trees ≡ old.trees) ⊎ LeavesDesk old found.trees
    → (is_name_taken found.schema ≡ false) ⊎ StandsNew found

-- opening a database with the trees of a finished creation finds a desk; the connection that created it sees one too
abbrev pub MadeDesksStand : Type 0
MadeDesksStand = (old new found : Database) → AllowsDesk old.schema → MakesDesk old new → IsDatabase found → found.trees ≡ new.trees → StandsNew found

-- opening a database with the trees from before the creation finds the tables from before it
abbrev pub TreesTellTables : Type 0
TreesTellTables = (old found : Database) → IsDatabase old → IsDatabase found → found.trees ≡ old.trees → found.schema.tables ≡ old.schema.tables
