-- What the statements on one row do to the desk's tables, wherever these stand.
use Rattle.std.proofs.Common.{◌≡◌, ◌∙◌, inl, inr, ℕ, Bool, List, [], Result, Ok, Err, OnOk, OnErr, IfOk, IfErr, IsTrue, None, Vec, Global, ◌∷◌, false, true, not, filter, refl, subst, IsPermutation}
use Rattle.std.specs.List.{list_all}
use Rattle.std.proofs.lemmas.Bool.{cases_Bool}
use Rattle.sqlite_value.specs.Order.{Row}
use Rattle.sqlite_sql.specs.Term.{Term}
use Rattle.sqlite_trees.proofs.ListLemmas.{all_of}
use Rattle.sqlite_rules.proofs.ListLemmas.{all_from, all_has}
use Rattle.sqlite.specs.declared.error.Error.{Error}
use Rattle.sqlite.specs.declared.error.Error.TheVariants.{SqliteFailure}
use Rattle.sqlite.specs.declared.error.ErrorCode.TheVariants.{TransactionState}
use Rattle.sqlite.specs.Effect.{Database}
use Rattle.sqlite.specs.State.{State, Executes, ExecutesInside, Shown}
use Rattle.agv_store_schema.specs.DeskRows.{Holds, Placing, IsDesk, KeepsOthers, StandApart, TableHas, TableKeys, rowid_column_of, on_table, table_at, place_of, width_of, has_columns, has_key, with_put_by, with_row, without_rows, rows_of_key, FitsTable, Makes, Answers, AnswersAlone}
use Rattle.agv_store_sql.specs.RowQueries.{table_asked, columns_asked, equal_from, rows_asked, all_rows_of, query_text, all_rows_text}
use Rattle.agv_store_schema.specs.RowTexts.{columns_deleted, deletion_text, insertion_text, is_looked_up, is_written, look_up_text}
use Rattle.agv_store_schema.specs.declared.rows_by.RowsBy.{RowsBy}
use Rattle.agv_store_schema.specs.declared.table_name.TableName.{TableName}
use Rattle.agv_store_schema.specs.declared.table_name.TableName.TheVariants as the
use Rattle.agv_store_schema.proofs.DeskPlaces.{is_in, is_in_alone}
use Rattle.agv_store_sql.proofs.sql.EntryEdits.{filter_nothing}
use Rattle.agv_store_sql.proofs.QueryMeanings.{Asks, query_no_rowid_column, query_terms, query_passes, query_within, query_asks, all_rows_asked, shown_terms}
use Rattle.agv_store_sql.proofs.sql.QueryRows.{passes, reads_within}
use Rattle.agv_store_sql.proofs.RowForms.{Inserted, Lands, ShowsRows, one_inserted, pass_alike, row_inserted, rows_deleted, rows_shown, rows_shown_alone, shows_columns}
use Rattle.agv_store_sql.proofs.RowMeanings.{key_terms, deleted_terms, column_names, column_terms, inserts, deletes, looked_up_no_rowid_column, looks_up, written_no_rowid_column}
use Rattle.agv_store_sql.proofs.RowParameters.{rows_in_turn}

-- ---- keys

pub key_passes : (name : TableName) (key : Row) → passes (key_terms name) key ≡ has_key name key
key_passes the.Meta key = refl
key_passes _ key = refl

pub within : (name : TableName) → list_all (reads_within (width_of name)) (key_terms name) ≡ true
within the.Meta = refl
within _ = refl

-- ---- columns by which rows are taken out

pub deleted_passes : (name : TableName) (key : Row) → passes (deleted_terms name) key ≡ has_columns (columns_deleted name) key
deleted_passes the.Act key = refl
deleted_passes name key = key_passes name key

pub deleted_within : (name : TableName) → list_all (reads_within (width_of name)) (deleted_terms name) ≡ true
deleted_within the.Act = refl
deleted_within name = within name

-- ---- inside a transaction

-- what the call of a transaction says
abbrev pub RunsInside : List ℕ → Row → State → State → Result ℕ Error → Type 0
RunsInside sql params old new r = (old.in_transaction ≡ false → r ≡ Err (SqliteFailure TransactionState)) × (IsTrue old.in_transaction → ExecutesInside 0 sql params old new r)

pub makes : (change : List (List Row) → List (List Row)) (sql : List ℕ) (params : Row) (old new : State) (r : Result ℕ Error)
    → ((desk : Placing) → IsDesk desk → old.now.schema ≡ desk.schema → (count : ℕ) → Executes sql params old new (Ok count) → Lands desk old.now new.now change)
    → RunsInside sql params old new r → OnOk r (Makes change old new)
makes change sql params old new (Err e) step ran = tt
makes change sql params old new (Ok count) step ran = elim (cases_Bool old.in_transaction) [
  | inl inside ↦ let it = ran.1 inside in record {
    made = λ desk is lists h. (step desk is h.schema_is count it.0).rows lists h;
    others = λ desk is has. (step desk is has count it.0).others;
    listed = λ desk is has _. (step desk is has count it.0).listed;
    kept = it.1.committed_is;
    mode = it.1.mode;
  }
  | inr outside ↦ absurd (let e = ran.0 outside in cc)
]

-- what is left where a row is added
pub added_one : (name : TableName) → is_written name ≡ true → (desk : Placing) (is : IsDesk desk) (old new : State) (has : old.now.schema ≡ desk.schema) (row : Row) → FitsTable name row
    → (count : ℕ) → Executes (insertion_text name) row old new (Ok count) → Inserted desk is name old new has row
added_one name written desk is old new has row fit =
    one_inserted desk is name old new has (written_no_rowid_column name written (desk.keys name)) (insertion_text name) row fit (inserts name written desk.schema (is.stands name).at (desk.tree name) (desk.keys name) (is_in desk is name))

pub inserts_row : (name : TableName) → is_written name ≡ true → (sql : List ℕ) → sql ≡ insertion_text name → (row : Row) → FitsTable name row → (old new : State) (r : Result ℕ Error) → RunsInside sql row old new r → OnOk r (Makes (with_row name row) old new)
inserts_row name written sql text row fit old new r ran =
    makes (with_row name row) (insertion_text name) row old new r
    (λ desk is has. row_inserted desk is name old new has (written_no_rowid_column name written (desk.keys name)) (insertion_text name) row fit (inserts name written desk.schema (is.stands name).at (desk.tree name) (desk.keys name) (is_in desk is name)))
    (subst (λ t. RunsInside t row old new r) text ran)

pub deletes_row : (name : TableName) → is_written name ≡ true → (sql : List ℕ) → sql ≡ deletion_text name → (key : Row) (old new : State) (r : Result ℕ Error) → RunsInside sql key old new r → OnOk r (Makes (without_rows name (columns_deleted name) key) old new)
deletes_row name written sql text key old new r ran =
    makes (without_rows name (columns_deleted name) key) (deletion_text name) key old new r
    (λ desk is has count done.
    subst (λ (p : Row → _). Lands desk old.now new.now (on_table (place_of name) (filter (λ row. not (p row))))) (deleted_passes name key)
    (rows_deleted desk is name old new has (deletion_text name) key (deleted_terms name) (pass_alike desk name (written_no_rowid_column name written (desk.keys name)) (deleted_terms name) key (deleted_within name))
    (deletes name written desk.schema (is.stands name).at (desk.tree name) (desk.keys name) (is_in desk is name)) count done))
    (subst (λ t. RunsInside t key old new r) text ran)

-- the other tables stay where nothing is done, and through one change and then another
pub keeps_others_as_is : (desk : Placing) (db : Database) → KeepsOthers desk db db
keeps_others_as_is desk db = record { schema_is = refl; rows = all_of _ (λ t none. refl) desk.schema.tables }

pub keeps_others_then : (desk : Placing) (a b c : Database) → KeepsOthers desk a b → KeepsOthers desk b c → KeepsOthers desk a c
keeps_others_then desk a b c p q =
    let tables = desk.schema.tables in
    record { schema_is = q.schema_is ∙ p.schema_is; rows = all_from _ tables (λ t there none. all_has _ tables t q.rows there none ∙ all_has _ tables t p.rows there none) }

-- one change and then another
pub makes_then : (f g : List (List Row) → List (List Row)) (a b c : State) → Makes f a b → Makes g b c → Makes (λ lists. g (f lists)) a c
makes_then f g a b c p q =
    let then = λ (desk : Placing) (is : IsDesk desk) (has : a.now.schema ≡ desk.schema). (p.others desk is has).schema_is ∙ has in
    record {
      made = λ desk is lists h. q.made desk is (f lists) (p.made desk is lists h);
      others = λ desk is has. keeps_others_then desk a.now b.now c.now (p.others desk is has) (q.others desk is (then desk is has));
      listed = λ desk is has whole. q.listed desk is (then desk is has) (p.listed desk is has whole);
      kept = q.kept ∙ p.kept;
      mode = q.mode;
    }

pub puts_row : (name : TableName) (columns : List ℕ) (key row : Row) (a b c : State) (last : Result ℕ Error) → OnOk last (Makes (with_row name row) b c) → Makes (without_rows name columns key) a b
    → OnOk last (Makes (with_put_by name columns key row) a c)
puts_row name columns key row a b c (Ok count) added gone = makes_then (without_rows name columns key) (with_row name row) a b c gone added
puts_row name columns key row a b c (Err e) added gone = tt

-- ---- queries

-- what rows answer that a query shows which asks so, of a table whose first column is not the rowid
shows : (name : TableName) → ((keys : TableKeys) → rowid_column_of name keys ≡ None) → (terms : List Term) (sql : List ℕ) → Asks name sql terms → list_all (reads_within (width_of name)) terms ≡ true → (params : Row) (p : Row → Bool) → passes terms params ≡ p
    → (old new : State) (rows : List Row) → Shown sql params old new rows → Answers (λ lists. filter p (table_at (place_of name) lists)) old rows
shows name none terms sql asks alone params p is old new rows shown = λ desk desk_is lists h.
    let means = asks desk.schema (desk_is.stands name).at (desk.tree name) (desk.keys name) (is_in desk desk_is name) in
    let kept = none (desk.keys name) in
    subst (λ (q : Row → Bool). IsPermutation (filter q (table_at (place_of name) lists)) rows) is
    (rows_shown desk name old new h.schema_is sql params terms (column_terms name) (column_names name) (pass_alike desk name kept terms params alone) (shows_columns desk name kept params) means rows shown lists h)

asked : (name : TableName) → ((keys : TableKeys) → rowid_column_of name keys ≡ None) → (terms : List Term) (sql : List ℕ) → Asks name sql terms → list_all (reads_within (width_of name)) terms ≡ true → (params : Row) (p : Row → Bool) → passes terms params ≡ p
    → (old new : State) (r : Result (Vec Row Global) Error) → IfOk r (λ rows. Shown sql params old new rows.items)
    → IfOk r (λ rows. Answers (λ lists. filter p (table_at (place_of name) lists)) old rows.items)
asked name none terms sql asks alone params p is old new (Err e) shown = tt
asked name none terms sql asks alone params p is old new (Ok rows) shown = shows name none terms sql asks alone params p is old new rows.items shown

-- all rows of a table
module _ (name : TableName) (params : Row) (old new : State) (rows : List Row) (shown : Shown (all_rows_text name) params old new rows) (desk : Placing) (has : old.now.schema ≡ desk.schema) where
  each_shown : ShowsRows desk name (shown_terms name (desk.keys name)) params
  each_shown = rows_in_turn (rowid_column_of name (desk.keys name)) (width_of name) params

  all_of_lists : IsDesk desk → (lists : List (List Row)) → Holds desk old.now lists → IsPermutation (all_rows_of name lists) rows
  all_of_lists is lists h =
      let means = all_rows_asked name (desk.keys name) desk.schema (is.stands name).at (desk.tree name) (is_in desk is name) in
      subst (λ all. IsPermutation all rows) (filter_nothing (table_at (place_of name) lists))
      (rows_shown desk name old new has (all_rows_text name) params [] (shown_terms name (desk.keys name)) (column_names name) (λ entries. refl) each_shown means rows shown lists h)

  -- that may stand without the others
  all_of_one : StandApart desk (name ∷ []) → (there : List Row) → TableHas desk old.now.trees name there → IsPermutation there rows
  all_of_one stand there here =
      let means = all_rows_asked name (desk.keys name) desk.schema stand.stands.0.at (desk.tree name) (is_in_alone desk name stand.stands.0 stand.apart) in
      subst (λ all. IsPermutation all rows) (filter_nothing there)
      (rows_shown_alone desk name old new has (all_rows_text name) params [] (shown_terms name (desk.keys name)) (column_names name) (λ entries. refl) each_shown means rows shown there here)

pub all_given : (name : TableName) (params : Row) (old new : State) (rows : List Row) → Shown (all_rows_text name) params old new rows → Answers (all_rows_of name) old rows
all_given name params old new rows shown = λ desk is lists h. all_of_lists name params old new rows shown desk h.schema_is is lists h

alone_given : (name : TableName) (params : Row) (old new : State) (rows : List Row) → Shown (all_rows_text name) params old new rows → AnswersAlone name old rows
alone_given name params old new rows shown = λ desk stand has there here. all_of_one name params old new rows shown desk has stand there here

pub on_failed : {X E B : Type 0} {P : E → Type 0} (r : Result X E) → ((e : E) → P e → B) → IfErr r P → OnErr r B
on_failed (Ok x) f h = tt
on_failed (Err e) f h = f e h

module _ (params : Row) (old new : State) (r : Result (Vec Row Global) Error) (sql : List ℕ) where
  -- by the key
  pub key_shown : (name : TableName) → is_looked_up name ≡ true → sql ≡ look_up_text name → IfOk r (λ rows. Shown sql params old new rows.items) → IfOk r (λ rows. Answers (rows_of_key name params) old rows.items)
  key_shown name looked_up text =
      rw text (asked name (looked_up_no_rowid_column name looked_up) (key_terms name) (look_up_text name) (looks_up name looked_up) (within name) params (has_key name params) (key_passes name params) old new r)

  -- by other columns
  pub query_shown : (query : RowsBy) → sql ≡ query_text query → IfOk r (λ rows. Shown sql params old new rows.items) → IfOk r (λ rows. Answers (rows_asked query params) old rows.items)
  query_shown query text = rw text (asked (table_asked query) (query_no_rowid_column query) (query_terms query) (query_text query) (query_asks query) (query_within query) params (equal_from 0 (columns_asked query) params) (query_passes query params) old new r)

  -- all rows
  pub all_shown : (name : TableName) → sql ≡ all_rows_text name → IfOk r (λ rows. Shown sql params old new rows.items) → IfOk r (λ rows. Answers (all_rows_of name) old rows.items)
  all_shown name text = all_of r
    where
      all_of : (q : Result (Vec Row Global) Error) → IfOk q (λ rows. Shown sql params old new rows.items) → IfOk q (λ rows. Answers (all_rows_of name) old rows.items)
      all_of (Ok rows) shown = all_given name params old new rows.items (subst (λ t. Shown t params old new rows.items) text shown)
      all_of (Err e) shown = tt

  pub all_alone : (name : TableName) → sql ≡ all_rows_text name → IfOk r (λ rows. Shown sql params old new rows.items) → IfOk r (λ rows. AnswersAlone name old rows.items)
  all_alone name text = alone_of r
    where
      alone_of : (q : Result (Vec Row Global) Error) → IfOk q (λ rows. Shown sql params old new rows.items) → IfOk q (λ rows. AnswersAlone name old rows.items)
      alone_of (Ok rows) shown = alone_given name params old new rows.items (subst (λ t. Shown t params old new rows.items) text shown)
      alone_of (Err e) shown = tt
