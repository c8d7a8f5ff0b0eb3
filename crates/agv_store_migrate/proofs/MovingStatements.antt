-- The statements of the move that are of no change: all rows of a table are taken out, and `meta` gets its row.
use Rattle.std.proofs.Common.{◌≡◌, not, pos, ℕ, Bool, List, [], ◌∷◌, codes, filter, Option, None, Some, Ok, Result, OnOk, ap, refl, subst}
use Rattle.sqlite_value.specs.declared.value.Value.TheVariants.{Int, Null}
use Rattle.sqlite_value.specs.Order.{Row}
use Rattle.sqlite_rules.specs.Cast.{cast_all}
use Rattle.sqlite_rules.specs.Edit.{numbered}
use Rattle.sqlite_rules.specs.declared.error.Rowids.TheVariants.{Chosen}
use Rattle.sqlite_sql.specs.Term.{Term, col, lit}
use Rattle.sqlite_schema.specs.declared.schema.Schema.{Schema}
use Rattle.sqlite_schema.specs.declared.command.Command.TheVariants.{Insert, Delete}
use Rattle.sqlite_schema.specs.declared.command.Source.TheVariants.{Values}
use Rattle.sqlite_tied.specs.Compute.{everything}
use Rattle.sqlite.specs.declared.error.Error.{Error}
use Rattle.sqlite.specs.State.{Executes, State}
use Rattle.agv_store_schema.specs.declared.table_name.TableName.{TableName}
use Rattle.agv_store_schema.specs.declared.table_name.TableName.TheVariants as the
use Rattle.agv_store_migrate.specs.Moved.{without_all}
use Rattle.agv_store_rows.specs.Columns.{meta_columns}
use Rattle.agv_store_schema.specs.DeskRows.{IsDesk, Makes, Placing, RowidColumn, TableKeys, columns_by, on_table, place_of, row_shown, table_for, table_written, with_row}
use Rattle.agv_store_schema.specs.Schema.{meta_table, number}
use Rattle.agv_store_schema.proofs.ColumnValues.{cast_all_keeps}
use Rattle.agv_store_schema.specs.SchemaNumbers.{schema_number}
use Rattle.agv_store_schema.proofs.DeskPlaces.{is_in}
use Rattle.agv_store_schema.proofs.OneTable.{IsIn, Means, parsed, deletion_test, insertion_columns, insertion_rows, query_by}
use Rattle.agv_store_sql.proofs.sql.OneTableWrites.{insert_means, delete_means}
use Rattle.agv_store_sql.proofs.sql.QueryRows.{passes}
use Rattle.agv_store_sql.proofs.DeskStatements.{RunsInside, makes}
use Rattle.agv_store_sql.proofs.RowForms.{Lands, lands_added, one_added, rows_deleted, row_inserted}
use Rattle.agv_store_sql.proofs.RowMeanings.{row_terms}

-- ---- all rows are taken out

-- SQL takes the text for the deletion of all rows of the table
abbrev Empties : TableName → List ℕ → Type 0
Empties name sql = (s : Schema) (at tree : ℕ) (keys : TableKeys) → IsIn s (table_for name).name (table_written name tree keys) at → Means s sql (Delete at (record { lets = []; body = query_by tree [] (col 1 0 ∷ []) }))

pub empties_trip : Empties the.Trip (codes "DELETE FROM trip")
unfolding everything
empties_trip s at tree keys stands =
    let p = parsed (codes "DELETE FROM trip") in
    delete_means s (codes "trip") (table_written the.Trip tree keys) at stands (codes "DELETE FROM trip") p refl refl (deletion_test p.statement) [] refl refl refl refl

pub empties_meta : Empties the.Meta (codes "DELETE FROM meta")
unfolding everything
empties_meta s at tree keys stands =
    let p = parsed (codes "DELETE FROM meta") in
    delete_means s (codes "meta") (table_written the.Meta tree keys) at stands (codes "DELETE FROM meta") p refl refl (deletion_test p.statement) [] refl refl refl refl

none_left : (rows : List Row) → filter (λ row. not (passes [] [] row)) rows ≡ []
none_left [] = refl
none_left (row ∷ rows) = none_left rows

pub all_deleted : (name : TableName) (sql : List ℕ) → Empties name sql → (old new : State) (r : Result ℕ Error) → RunsInside sql [] old new r → OnOk r (Makes (without_all name) old new)
all_deleted name sql empties old new r ran =
    makes (without_all name) sql [] old new r
    (λ desk is has count done.
    subst (λ (f : List Row → List Row). Lands desk old.now new.now (on_table (place_of name) f)) (λ i rows. none_left rows i)
    (rows_deleted desk is name old new has sql [] [] (λ entries. refl) (empties desk.schema (is.stands name).at (desk.tree name) (desk.keys name) (is_in desk is name)) count done))
    ran

-- ---- the row of `meta`

abbrev number_text : List ℕ
number_text = codes "INSERT INTO meta (id, schema) VALUES (?1, ?2)"

-- its values: the rowid, which the database chooses where it is no column, and the columns
abbrev number_terms : Option RowidColumn → List Term
number_terms None = row_terms the.Meta
number_terms (Some first) = col 0 0 ∷ lit Null ∷ col 0 1 ∷ []

abbrev InsertsNumber : TableKeys → Type 0
InsertsNumber keys = (s : Schema) (at tree : ℕ) → IsIn s (codes "meta") (table_written the.Meta tree keys) at → Means s number_text (Insert at (Values (number_terms keys.rowid_column) 3))

inserts_number : (primary : List ℕ) (indexed : List (List ℕ)) (rowid : Option RowidColumn) → InsertsNumber (record { primary = primary; indexed = indexed; rowid_column = rowid })
unfolding everything
inserts_number primary indexed None s at tree stands =
    let p = parsed number_text in
    insert_means s (codes "meta") (table_written the.Meta tree (record { primary = primary; indexed = indexed; rowid_column = None })) at stands number_text p refl refl
    (insertion_columns p.statement) (insertion_rows p.statement) (number_terms None) 3 refl refl refl
inserts_number primary indexed (Some first) s at tree stands =
    let p = parsed number_text in
    insert_means s (codes "meta") (table_written the.Meta tree (record { primary = primary; indexed = indexed; rowid_column = Some first })) at stands number_text p refl refl
    (insertion_columns p.statement) (insertion_rows p.statement) (number_terms (Some first)) 3 refl refl refl

abbrev meta_row : Row
meta_row = meta_columns 1 schema_number

-- the entry where the first column is the rowid: SQL keeps NULL in that column
abbrev number_entry : Row
number_entry = Int (pos 1) ∷ Null ∷ Int (pos schema_number) ∷ []

entry_kept : (r : Option RowidColumn) → cast_all (number (codes "id") ∷ columns_by r meta_table.columns) number_entry ≡ number_entry
entry_kept None = cast_all_keeps (number (codes "id") ∷ meta_table.columns) number_entry refl
entry_kept (Some first) = cast_all_keeps (number (codes "id") ∷ columns_by (Some first) meta_table.columns) number_entry refl

module _ (desk : Placing) (is : IsDesk desk) (old new : State) (has : old.now.schema ≡ desk.schema) (count : ℕ) (done : Executes number_text meta_row old new (Ok count)) where
  abbrev keys : TableKeys
  keys = desk.keys the.Meta

  abbrev at : ℕ
  at = (is.stands the.Meta).at

  means : Means desk.schema number_text (Insert at (Values (number_terms keys.rowid_column) 3))
  means = inserts_number keys.primary keys.indexed keys.rowid_column desk.schema at (desk.tree the.Meta) (is_in desk is the.Meta)

  number_lands : (r : Option RowidColumn) → keys.rowid_column ≡ r → Lands desk old.now new.now (on_table (place_of the.Meta) (λ rows. meta_row ∷ rows))
  number_lands None none =
      row_inserted desk is the.Meta old new has none number_text meta_row refl (subst (λ r. Means desk.schema number_text (Insert at (Values (number_terms r) 3))) none means) count done
  number_lands (Some first) is_first =
      lands_added desk is the.Meta old new has number_entry number_entry
      (one_added desk is the.Meta old new has number_text meta_row (number_terms (Some first)) number_entry number_entry
      (subst (λ r. Means desk.schema number_text (Insert at (Values (number_terms r) 3))) is_first means) refl
      (ap (λ (entry : Row). numbered Chosen (old.now.trees (desk.tree the.Meta)) (entry ∷ [])) (entry_kept keys.rowid_column)) count done)
      meta_row refl (ap (λ r. row_shown r 2 number_entry) is_first)

pub number_written : (row : Row) → row ≡ meta_row → (old new : State) (r : Result ℕ Error) → RunsInside number_text row old new r
    → OnOk r (Makes (with_row the.Meta meta_row) old new)
number_written row is old new r ran =
    makes (with_row the.Meta meta_row) number_text meta_row old new r
    (λ desk stands has count done. number_lands desk stands old new has count done (desk.keys the.Meta).rowid_column refl)
    (subst (λ values. RunsInside number_text values old new r) is ran)
