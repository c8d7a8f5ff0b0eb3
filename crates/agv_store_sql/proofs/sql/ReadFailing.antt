-- Why a look-up fails, where its error is a fault of the store.
use Rattle.std.proofs.Common.{◌≡◌, ◌≤◌, ◌&&◌, ◌∙◌, inl, inr, ℕ, zero, suc, pos, slice_get, true, List, [], ◌∷◌, length, map, Option, None, Some, Ok, Err, Result, IfErr, option_map, option_and_then, Vec, Global, refl, sym, ap, subst, append-nil}
use Rattle.sqlite_value.specs.Order.{Row, column}
use Rattle.sqlite_value.specs.declared.value.Value.{Value}
use Rattle.sqlite_value.specs.declared.value.Value.TheVariants.{Null, Int, Real, Text, Blob}
use Rattle.sqlite_draft.specs.declared.query.Grouping.{Grouping}
use Rattle.sqlite_draft.specs.Query.{grouping_of}
use Rattle.sqlite_sql.specs.Group.{Overflows}
use Rattle.sqlite_sql.specs.Term.{Env, Term}
use Rattle.sqlite_value.specs.declared.keys.Collation.TheVariants.{Binary}
use Rattle.sqlite_sql.specs.declared.ops.BinaryOp.TheVariants.{Compare}
use Rattle.sqlite_sql.specs.declared.ops.CompareOp.TheVariants.{Eq}
use Rattle.sqlite_schema.specs.declared.schema.Kind.TheVariants as kind
use Rattle.sqlite_typing.specs.Types.{class_in, class_of, column_class, binary_class, accepts_after, accepts_program, row_classes, is_count}
use Rattle.sqlite_schema.specs.declared.schema.Column.{Column}
use Rattle.sqlite_schema.specs.declared.command.Command.TheVariants.{Select}
use Rattle.sqlite.specs.declared.error.Error.{Error}
use Rattle.sqlite.specs.Effect.{Database, RefusesToRead}
use Rattle.sqlite.specs.Listing.{understood, reads_listing, IsSourceOf}
use Rattle.sqlite.specs.State.{State, IsNotRun, FailsToQuery}
use Rattle.sqlite.proofs.Callers.{IsPlain, command_of}
use Rattle.std.proofs.lemmas.Bool.{and_parts}
use Rattle.agv_store_schema.specs.DeskRows.{RowidColumn, TableKeys, columns_by, rowid_column_of, table_for, table_written, Placing, IsDesk, StandApart, is_of_kind, fits}
use Rattle.agv_store_schema.specs.Errors.{IsOfStore}
use Rattle.agv_store_schema.specs.declared.table_name.TableName.{TableName}
use Rattle.agv_store_schema.specs.declared.table_name.TableName.TheVariants as the
use Rattle.agv_store_schema.proofs.OneTable.{Means, parsed, query_by, query_in, compiled_as}
use Rattle.agv_store_schema.proofs.DeskPlaces.{is_in, is_in_alone, one_stands}
use Rattle.agv_store_sql.proofs.sql.OneTableTexts.{read_whole}
use Rattle.agv_store_sql.proofs.sql.Failing.{IsCaused, IsWhole, caused, is_statement}
use Rattle.agv_store_schema.specs.RowTexts.{is_looked_up, look_up_text}
use Rattle.agv_store_sql.specs.RowQueries.{table_asked, columns_asked, columns_at, FitsColumns, query_text, all_rows_text}
use Rattle.agv_store_schema.specs.declared.rows_by.RowsBy.{RowsBy}
use Rattle.agv_store_schema.specs.declared.rows_by.RowsBy.TheVariants as by
use Rattle.agv_store_sql.proofs.QueryMeanings.{query_terms, query_asks, query_reads, all_rows_asked, all_rows_read, shown_terms, terms_by}
use Rattle.agv_store_sql.proofs.RowMeanings.{key_terms, look_up_reads, looks_up, no_keys, column_terms, column_names}

-- ---- types

pub fits_at : (columns : List Column) (row : Row) → fits columns row ≡ true → (k : ℕ) (c : Column) → slice_get columns k ≡ Some c → is_of_kind c.kind (column row k) ≡ true
fits_at [] row h k c there = absurd (cc)
fits_at (x ∷ columns) [] h k c there = absurd (cc)
fits_at (x ∷ columns) (v ∷ row) h zero c there = let same : x ≡ c = cc in subst (λ (y : Column). is_of_kind y.kind v ≡ true) same (and_parts _ _ h).0
fits_at (x ∷ columns) (v ∷ row) h (suc k) c there = fits_at columns row (and_parts _ _ h).1 k c there

pub fits_length : (columns : List Column) (row : Row) → fits columns row ≡ true → length row ≡ length columns
fits_length [] [] h = refl
fits_length [] (v ∷ row) h = absurd (cc)
fits_length (x ∷ columns) [] h = absurd (cc)
fits_length (x ∷ columns) (v ∷ row) h = ap suc (fits_length columns row (and_parts _ _ h).1)

-- SQL compares a column of texts with a text or NULL, and one of whole numbers with a whole number or NULL
pub text_compares : (v : Value) → is_of_kind kind.Text v ≡ true → option_and_then (binary_class (Compare Eq Binary) (column_class kind.Text)) (class_of v) ≡ option_and_then (binary_class (Compare Eq Binary) (column_class kind.Text)) (class_of (Text []))
text_compares Null h = refl
text_compares (Int n) h = absurd (cc)
text_compares (Real x) h = absurd (cc)
text_compares (Text t) h = refl
text_compares (Blob b) h = absurd (cc)

number_compares : (v : Value) → is_of_kind kind.Integer v ≡ true → option_and_then (binary_class (Compare Eq Binary) (column_class kind.Integer)) (class_of v) ≡ option_and_then (binary_class (Compare Eq Binary) (column_class kind.Integer)) (class_of (Int (pos 0)))
number_compares Null h = refl
number_compares (Int n) h = refl
number_compares (Real x) h = absurd (cc)
number_compares (Text t) h = absurd (cc)
number_compares (Blob b) h = absurd (cc)

-- the tests of the query, and what it shows, are of types that SQL takes
abbrev pub IsTypedIn : Option Grouping → TableName → List Term → List Term → Row → Type 0
IsTypedIn group name terms project params =
    (accepts_after params (query_in group 0 terms project) (Some (row_classes (table_for name) ∷ [])) && (is_count params (query_in None 0 [] []).limit && is_count params (query_in None 0 [] []).offset)) ≡ true

abbrev pub IsTypedTo : TableName → List Term → List Term → Row → Type 0
IsTypedTo = IsTypedIn None

abbrev pub IsTypedFor : TableName → List Term → Row → Type 0
IsTypedFor name terms params = IsTypedTo name terms (column_terms name) params

key_typed : (name : TableName) (params : Row) → FitsColumns name (table_for name).primary params → IsTypedFor name (key_terms name) params
key_typed the.Meta params h =
    let k0 : is_of_kind kind.Integer (column params 0) ≡ true = fits_at (columns_at the.Meta (table_for the.Meta).primary) params h 0 _ refl in
    rw (number_compares (column params 0) k0)
key_typed the.Node params h =
    let k0 : is_of_kind kind.Text (column params 0) ≡ true = fits_at (columns_at the.Node (table_for the.Node).primary) params h 0 _ refl in
    rw (text_compares (column params 0) k0)
key_typed the.Edge params h =
    let k0 : is_of_kind kind.Text (column params 0) ≡ true = fits_at (columns_at the.Edge (table_for the.Edge).primary) params h 0 _ refl in
    rw (text_compares (column params 0) k0)
key_typed the.Station params h =
    let k0 : is_of_kind kind.Text (column params 0) ≡ true = fits_at (columns_at the.Station (table_for the.Station).primary) params h 0 _ refl in
    rw (text_compares (column params 0) k0)
key_typed the.Vehicle params h =
    let k0 : is_of_kind kind.Text (column params 0) ≡ true = fits_at (columns_at the.Vehicle (table_for the.Vehicle).primary) params h 0 _ refl in
    let k1 : is_of_kind kind.Text (column params 1) ≡ true = fits_at (columns_at the.Vehicle (table_for the.Vehicle).primary) params h 1 _ refl in
    rw (text_compares (column params 0) k0, text_compares (column params 1) k1)
key_typed the.Trip params h =
    let k0 : is_of_kind kind.Text (column params 0) ≡ true = fits_at (columns_at the.Trip (table_for the.Trip).primary) params h 0 _ refl in
    rw (text_compares (column params 0) k0)
key_typed the.Leg params h =
    let k0 : is_of_kind kind.Text (column params 0) ≡ true = fits_at (columns_at the.Leg (table_for the.Leg).primary) params h 0 _ refl in
    let k1 : is_of_kind kind.Integer (column params 1) ≡ true = fits_at (columns_at the.Leg (table_for the.Leg).primary) params h 1 _ refl in
    rw (text_compares (column params 0) k0, number_compares (column params 1) k1)
key_typed the.Load params h =
    let k0 : is_of_kind kind.Text (column params 0) ≡ true = fits_at (columns_at the.Load (table_for the.Load).primary) params h 0 _ refl in
    rw (text_compares (column params 0) k0)
key_typed the.Job params h =
    let k0 : is_of_kind kind.Text (column params 0) ≡ true = fits_at (columns_at the.Job (table_for the.Job).primary) params h 0 _ refl in
    rw (text_compares (column params 0) k0)
key_typed the.Hold params h =
    let k0 : is_of_kind kind.Text (column params 0) ≡ true = fits_at (columns_at the.Hold (table_for the.Hold).primary) params h 0 _ refl in
    let k1 : is_of_kind kind.Text (column params 1) ≡ true = fits_at (columns_at the.Hold (table_for the.Hold).primary) params h 1 _ refl in
    rw (text_compares (column params 0) k0, text_compares (column params 1) k1)
key_typed the.Used params h =
    let k0 : is_of_kind kind.Text (column params 0) ≡ true = fits_at (columns_at the.Used (table_for the.Used).primary) params h 0 _ refl in
    let k1 : is_of_kind kind.Text (column params 1) ≡ true = fits_at (columns_at the.Used (table_for the.Used).primary) params h 1 _ refl in
    rw (text_compares (column params 0) k0, text_compares (column params 1) k1)
key_typed the.Capacity params h =
    let k0 : is_of_kind kind.Text (column params 0) ≡ true = fits_at (columns_at the.Capacity (table_for the.Capacity).primary) params h 0 _ refl in
    let k1 : is_of_kind kind.Text (column params 1) ≡ true = fits_at (columns_at the.Capacity (table_for the.Capacity).primary) params h 1 _ refl in
    rw (text_compares (column params 0) k0, text_compares (column params 1) k1)
key_typed the.Journey params h =
    let k0 : is_of_kind kind.Text (column params 0) ≡ true = fits_at (columns_at the.Journey (table_for the.Journey).primary) params h 0 _ refl in
    rw (text_compares (column params 0) k0)
key_typed the.Act params h =
    let k0 : is_of_kind kind.Text (column params 0) ≡ true = fits_at (columns_at the.Act (table_for the.Act).primary) params h 0 _ refl in
    let k1 : is_of_kind kind.Integer (column params 1) ≡ true = fits_at (columns_at the.Act (table_for the.Act).primary) params h 1 _ refl in
    rw (text_compares (column params 0) k0, number_compares (column params 1) k1)

query_typed : (query : RowsBy) (params : Row) → FitsColumns (table_asked query) (columns_asked query) params → IsTypedFor (table_asked query) (query_terms query) params
query_typed by.VehicleJourney params h =
    let k0 : is_of_kind kind.Text (column params 0) ≡ true = fits_at (columns_at the.Journey (columns_asked by.VehicleJourney)) params h 0 _ refl in
    let k1 : is_of_kind kind.Text (column params 1) ≡ true = fits_at (columns_at the.Journey (columns_asked by.VehicleJourney)) params h 1 _ refl in
    rw (text_compares (column params 0) k0, text_compares (column params 1) k1)
query_typed by.OrderActs params h =
    let k0 : is_of_kind kind.Text (column params 0) ≡ true = fits_at (columns_at the.Act (columns_asked by.OrderActs)) params h 0 _ refl in
    rw (text_compares (column params 0) k0)
query_typed by.OrderLegs params h =
    let k0 : is_of_kind kind.Text (column params 0) ≡ true = fits_at (columns_at the.Leg (columns_asked by.OrderLegs)) params h 0 _ refl in
    rw (text_compares (column params 0) k0)
query_typed by.StationLoads params h =
    let k0 : is_of_kind kind.Text (column params 0) ≡ true = fits_at (columns_at the.Load (columns_asked by.StationLoads)) params h 0 _ refl in
    rw (text_compares (column params 0) k0)
query_typed by.LoadJobs params h =
    let k0 : is_of_kind kind.Text (column params 0) ≡ true = fits_at (columns_at the.Job (columns_asked by.LoadJobs)) params h 0 _ refl in
    let k1 : is_of_kind kind.Text (column params 1) ≡ true = fits_at (columns_at the.Job (columns_asked by.LoadJobs)) params h 1 _ refl in
    rw (text_compares (column params 0) k0, text_compares (column params 1) k1)

all_typed : (name : TableName) (keys : TableKeys) → IsTypedTo name [] (shown_terms name keys) []
all_typed the.Meta keys = meta_typed keys.rowid_column
  where
    meta_typed : (r : Option RowidColumn) → IsTypedTo the.Meta [] (terms_by r 2) []
    meta_typed None = refl
    meta_typed (Some first) = refl
all_typed _ keys = refl

-- ---- why it fails

-- the text is one statement with so many parameters
abbrev pub IsWholeText : List ℕ → ℕ → Type 0
IsWholeText sql n = (length sql ≤ (parsed sql).tail) × (length (parsed sql).names ≡ n)

-- no sum of a group is too large
abbrev pub NeverOverflows : Option Grouping → Type 0
NeverOverflows group = (all : List Env) → ¬ Overflows (option_map grouping_of group) all

-- the rowid is of the class of the column that it is
same_classes : (r : Option RowidColumn) (columns : List Column) → map class_in (columns_by r columns) ≡ map class_in columns
same_classes None columns = refl
same_classes (Some first) [] = refl
same_classes (Some first) (c ∷ columns) = refl

module _ (group : Option Grouping) (fit : NeverOverflows group) (name : TableName) (terms project : List Term) (names : List (List ℕ)) (sql : List ℕ)
    (params : Row) (whole : IsWholeText sql (length params)) (typed : IsTypedIn group name terms project params)
    (old new : State) (e : Error) (desk : Placing) (stand : StandApart desk (name ∷ [])) (has : old.now.schema ≡ desk.schema)
    (means : Means desk.schema sql (Select (record { lets = []; body = query_in group (desk.tree name) terms project }) names)) where
  accepted : accepts_program desk.schema [] (query_in group (desk.tree name) terms project) params ≡ true
  accepted =
      let here = is_in_alone desk name stand.stands.0 stand.apart in
      rw (here.low, here.by_tree, same_classes (rowid_column_of name (desk.keys name)) (table_for name).columns, typed)

  refused : (db : Database) → db.schema ≡ desk.schema → RefusesToRead old.step_limit (Select (record { lets = []; body = query_in group (desk.tree name) terms project }) names) db params e → IsCaused old new
  refused db schema (inl untyped) = absurd (let wrong = sym (ap (λ s. accepts_program s [] (query_in group (desk.tree name) terms project) params) schema ∙ accepted) ∙ untyped.1 in cc)
  refused db schema (inr (inl over)) = absurd (elim over.1 [ inl sum ↦ fit _ sum | inr row ↦ row.4 ])
  refused db schema (inr (inr stopped)) = inr (inr stopped.1)

  -- a look-up that fails as the store does
  pub read_caused_in : IsOfStore e → FailsToQuery sql params old new e → IsCaused old new
  unfolding FailsToQuery IsNotRun
  read_caused_in stored (inl (inl unread)) =
      let known : understood old.now.schema sql ≡ Ok (compiled_as (parsed sql) _) = ap (λ s. understood s sql) has ∙ means.known in
      absurd (is_statement old sql params e (subst (IsWhole sql (length params)) (sym known) (whole.0, whole.1, refl)) unread.0)
  read_caused_in stored (inl (inr fails)) = caused old new e stored fails
  read_caused_in stored (inr it) =
      let known = sym it.1.is ∙ ap (λ s. understood s sql) has in
      let bare = subst IsPlain (sym known) means.plain in
      let shows = rw (bare.0, bare.1, append-nil params) at it.2 in
      let db : shows.0 ≡ old.now = subst (λ b. IsSourceOf b old.now shows.0) (ap (λ s. reads_listing s sql) has ∙ means.own) shows.1 in
      let schema : shows.0.schema ≡ desk.schema = ap (λ (d : Database). d.schema) db ∙ has in
      refused shows.0 schema (subst (λ k. RefusesToRead old.step_limit k shows.0 params e) (ap command_of known ∙ means.is) shows.2)

-- the same with nothing grouped
pub read_caused : (name : TableName) (terms project : List Term) (names : List (List ℕ)) (sql : List ℕ) (params : Row) → IsWholeText sql (length params)
    → IsTypedTo name terms project params → (old new : State) (e : Error) (desk : Placing) → StandApart desk (name ∷ []) → old.now.schema ≡ desk.schema
    → Means desk.schema sql (Select (record { lets = []; body = query_by (desk.tree name) terms project }) names)
    → IsOfStore e → FailsToQuery sql params old new e → IsCaused old new
read_caused = read_caused_in None (λ all none. none)

-- ---- the texts are one statement each

key_whole : (name : TableName) → is_looked_up name ≡ true → IsWholeText (look_up_text name) (length (columns_at name (table_for name).primary))
key_whole name is = read_whole (table_written name 0 no_keys) (look_up_text name) _ _ (look_up_reads name is no_keys 0)

query_whole : (query : RowsBy) → IsWholeText (query_text query) (length (columns_at (table_asked query) (columns_asked query)))
query_whole query = read_whole (table_written (table_asked query) 0 no_keys) (query_text query) _ _ (query_reads query no_keys 0)

all_whole : (name : TableName) → IsWholeText (all_rows_text name) 0
all_whole name = read_whole (table_written name 0 no_keys) (all_rows_text name) _ _ (all_rows_read name no_keys 0)

-- ---- the look-ups

pub on_err_all : {X : Type 0} {P Q : Error → Type 0} (r : Result X Error) → ((e : Error) → P e → Q e) → IfErr r P → IfErr r Q
on_err_all (Ok x) f h = tt
on_err_all (Err e) f h = f e h

module _ (params : Row) (old new : State) (r : Result (Vec Row Global) Error) (sql : List ℕ) (fails : IfErr r (FailsToQuery sql params old new)) where
  -- by the key
  pub key_caused : (name : TableName) → is_looked_up name ≡ true → sql ≡ look_up_text name
      → IfErr r (λ e. IsOfStore e → (desk : Placing) → IsDesk desk → old.now.schema ≡ desk.schema → FitsColumns name (table_for name).primary params → IsCaused old new)
  key_caused name looked_up text = on_err_all r (λ e h stored desk is has fit.
      read_caused name (key_terms name) (column_terms name) (column_names name) (look_up_text name) params (subst (IsWholeText (look_up_text name)) (sym (fits_length _ params fit)) (key_whole name looked_up)) (key_typed name params fit) old new e desk (one_stands desk is name) has
      (looks_up name looked_up desk.schema (is.stands name).at (desk.tree name) (desk.keys name) (is_in desk is name)) stored
      (subst (λ t. FailsToQuery t params old new e) text h)) fails

  -- by other columns
  pub query_caused : (query : RowsBy) → sql ≡ query_text query → IfErr r (λ e. IsOfStore e → (desk : Placing) → IsDesk desk → old.now.schema ≡ desk.schema → FitsColumns (table_asked query) (columns_asked query) params → IsCaused old new)
  query_caused query text = on_err_all r (λ e h stored desk is has fit.
      read_caused (table_asked query) (query_terms query) (column_terms (table_asked query)) (column_names (table_asked query)) (query_text query) params (subst (IsWholeText (query_text query)) (sym (fits_length _ params fit)) (query_whole query)) (query_typed query params fit) old new e desk (one_stands desk is (table_asked query)) has
      (query_asks query desk.schema (is.stands (table_asked query)).at (desk.tree (table_asked query)) (desk.keys (table_asked query)) (is_in desk is (table_asked query))) stored
      (subst (λ t. FailsToQuery t params old new e) text h)) fails

  -- all rows
  pub all_caused : (name : TableName) → params ≡ [] → sql ≡ all_rows_text name → IfErr r (λ e. IsOfStore e → (desk : Placing) → StandApart desk (name ∷ []) → old.now.schema ≡ desk.schema → IsCaused old new)
  all_caused name none text = on_err_all r (λ e h stored desk stand has.
      read_caused name [] (shown_terms name (desk.keys name)) (column_names name) (all_rows_text name) [] (all_whole name) (all_typed name (desk.keys name)) old new e desk stand has
      (all_rows_asked name (desk.keys name) desk.schema stand.stands.0.at (desk.tree name) (is_in_alone desk name stand.stands.0 stand.apart)) stored
      (subst (λ p. FailsToQuery (all_rows_text name) p old new e) none (subst (λ t. FailsToQuery t params old new e) text h))) fails
