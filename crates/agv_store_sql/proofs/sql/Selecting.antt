-- A SELECT has no RETURNING, whatever the schema: so it changes nothing and commits nothing, whatever the database has.
use Rattle.std.proofs.Common.{◌≡◌, ℕ, true, false, cond, List, Option, Some, None, Ok, Err, Result, IfOk, OnOk, IsSome, Vec, Global, refl, sym, subst}
use Rattle.sqlite_value.specs.Order.{Row}
use Rattle.sqlite_trees.specs.Tree.{Trees}
use Rattle.sqlite_ast.specs.declared.Statement.{Statement}
use Rattle.sqlite_ast.specs.declared.Statement.TheVariants as written
use Rattle.sqlite_syntax.specs.declared.statement.Parsed.{Parsed}
use Rattle.sqlite_schema.specs.declared.schema.Schema.{Schema}
use Rattle.sqlite_schema.specs.declared.schema.Table.{Table}
use Rattle.sqlite_schema.specs.declared.command.Command.{Command}
use Rattle.sqlite_schema.specs.declared.command.Returning.{Returning}
use Rattle.sqlite_resolve.specs.Lowering.{Checked, and_then}
use Rattle.sqlite_resolve.specs.Compile.{compiled, first, meaning, planned, returning, with_command}
use Rattle.sqlite_resolve.specs.declared.compiled.Compiled.{Compiled}
use Rattle.sqlite_resolve.specs.declared.error.CompileError.TheVariants.{NoSuchTable}
use Rattle.sqlite_resolve.specs.Program.{Shown as Made}
use Rattle.sqlite.specs.declared.error.Error.{Error}
use Rattle.sqlite.specs.Listing.{if_select, is_select, listing_schema, reads_listing, understood}
use Rattle.sqlite.specs.State.{CommitsShowing, IsUnchanged, Shown, ShowsRows, State, Survives}
use Rattle.sqlite.proofs.StateLemmas.{survives_weaker}
use Rattle.agv_store_schema.specs.DeskRows.{table_written}
use Rattle.agv_store_sql.specs.RowQueries.{all_rows_text, query_text, table_asked}
use Rattle.agv_store_schema.specs.RowTexts.{is_looked_up, look_up_text}
use Rattle.agv_store_schema.specs.declared.rows_by.RowsBy.{RowsBy}
use Rattle.agv_store_schema.specs.declared.table_name.TableName.{TableName}
use Rattle.agv_store_sql.proofs.QueryMeanings.{all_rows_read, query_reads}
use Rattle.agv_store_sql.proofs.RowMeanings.{look_up_reads, no_keys}
use Rattle.agv_store_sql.proofs.sql.OneTableTexts.{IsReadAs, selection_is}

-- ---- at every schema

abbrev IsSelect : Statement → Type 0
IsSelect (written.Select query) = Unit {0}
IsSelect _ = ⊥

abbrev ReadsSelect : Checked Parsed → Type 0
ReadsSelect (Ok p) = IsSelect p.statement
ReadsSelect (Err e) = ⊥

-- the text is a SELECT
abbrev pub IsSelectText : List ℕ → Type 0
IsSelectText sql = ReadsSelect (first sql)

-- what is understood of a text has no RETURNING
abbrev pub IsSilent : Checked Compiled → Type 0
IsSilent (Ok c) = c.returning ≡ None
IsSilent (Err e) = Unit {0}

none_returned : (schema : Schema) (base : ℕ) (statement : Statement) → IsSelect statement → returning schema base statement ≡ Ok None
unfolding returning
none_returned schema base (written.Select query) is = refl
none_returned schema base _ is = absurd is

abbrev with_none : Parsed → List (List ℕ) → Checked Command → Checked Compiled
with_none p formats command =
    and_then (and_then (and_then command (λ (c : Command). let none : Option Returning = None in Ok (c, none))) (λ found. Ok (formats, found))) (λ plan. Ok (with_command p plan))

silent_with_none : (p : Parsed) (formats : List (List ℕ)) (command : Checked Command) → IsSilent (with_none p formats command)
silent_with_none p formats (Ok c) = refl
silent_with_none p formats (Err e) = tt

silent_read : (schema : Schema) (read : Checked Parsed) → ReadsSelect read → IsSilent (and_then read (λ p. and_then (planned schema p) (λ plan. Ok (with_command p plan))))
unfolding planned meaning
silent_read schema (Ok p) is = rw (none_returned schema _ p.statement is) (silent_with_none p _ _)
silent_read schema (Err e) is = absurd is

silent : (schema : Schema) (sql : List ℕ) → IsSelectText sql → IsSilent (compiled schema sql)
unfolding compiled
silent schema sql is = silent_read schema (first sql) is

silent_if_select : (c : Checked Compiled) → IsSilent c → IsSilent (if_select c)
silent_if_select (Ok c) is = elim (is_select c.command) as (λ b. IsSilent (cond b (Ok c) (Err NoSuchTable))) [ true ↦ is | false ↦ tt ]
silent_if_select (Err e) is = tt

pub silent_understood : (schema : Schema) (sql : List ℕ) → IsSelectText sql → IsSilent (understood schema sql)
unfolding understood
silent_understood schema sql is =
    elim (reads_listing schema sql) as (λ b. IsSilent (cond b (if_select (compiled listing_schema sql)) (compiled schema sql)))
    [ true ↦ silent_if_select (compiled listing_schema sql) (silent listing_schema sql is) | false ↦ silent schema sql is ]

-- ---- what it leaves

module _ (params : Row) (old new : State) (sql : List ℕ) (select : IsSelectText sql) where
  none_of : (c : Compiled) → understood old.now.schema sql ≡ Ok c → c.returning ≡ None
  none_of c is = subst IsSilent is (silent_understood old.now.schema sql select)

  same_by : (c : Compiled) (given : Row) (rows : List Row) (shows : Option Returning) → shows ≡ None → ShowsRows old new sql c given rows shows → IsUnchanged old new
  same_by c given rows None none shown = shown.3
  same_by c given rows (Some what) none shown = absurd (cc none)

  same_of : (rows : List Row) → Shown sql params old new rows → IsUnchanged old new
  unfolding Shown
  same_of rows shown = same_by shown.0 _ rows shown.0.returning (none_of shown.0 shown.1.is) shown.2

  -- rows that it shows change nothing
  pub select_keeps : (r : Result (Vec Row Global) Error) → IfOk r (λ rows. Shown sql params old new rows.items) → OnOk r (IsUnchanged old new)
  select_keeps (Ok rows) shown = same_of rows.items shown
  select_keeps (Err e) shown = tt

  none_committed : (trees : Trees) → ¬ CommitsShowing sql params old trees
  unfolding CommitsShowing
  none_committed trees commits = let some = subst IsSome (none_of commits.0 commits.1.is) commits.2 in absurd (cc some)

  -- a crash leaves what it could leave before
  pub select_survives : Survives old new (CommitsShowing sql params old) → Survives old new (λ _. ⊥)
  select_survives = survives_weaker old new _ _ (λ _ trees commits. none_committed trees commits)

-- ---- the texts

-- a text that is read as a SELECT from a table
pub read_selects : (t : Table) (sql : List ℕ) (n : ℕ) (made : Made) → IsReadAs t sql n made → IsSelectText sql
read_selects t sql n made read = let it = selection_is t sql n made read in subst ReadsSelect (sym it.parses) (subst IsSelect (sym it.is) tt)

pub look_up_selects : (name : TableName) → is_looked_up name ≡ true → (sql : List ℕ) → sql ≡ look_up_text name → IsSelectText sql
look_up_selects name looked_up sql text = subst IsSelectText (sym text) (read_selects (table_written name 0 no_keys) (look_up_text name) _ _ (look_up_reads name looked_up no_keys 0))

pub query_selects : (query : RowsBy) (sql : List ℕ) → sql ≡ query_text query → IsSelectText sql
query_selects query sql text = subst IsSelectText (sym text) (read_selects (table_written (table_asked query) 0 no_keys) (query_text query) _ _ (query_reads query no_keys 0))

pub all_selects : (name : TableName) (sql : List ℕ) → sql ≡ all_rows_text name → IsSelectText sql
all_selects name sql text = subst IsSelectText (sym text) (read_selects (table_written name 0 no_keys) (all_rows_text name) _ _ (all_rows_read name no_keys 0))
