-- The text that gives `meta` its row: what it means wherever that table stands, and what it does.
use Rattle.std.proofs.Common.{◌≡◌, ◌≢◌, ◌∙◌, ◌+◌, ◌==◌, ℕ, ℤ, Bool, true, false, cond, List, [], ◌∷◌, length, Option, Some, None, pos, Ok, inl, inr, codes, slice_get, refl, sym, ap, subst}
use Rattle.std.specs.List.{AllByRecursion, flat_map, filter_map}
use Rattle.std.proofs.lemmas.Bool.{cases_Bool}
use Rattle.sqlite_value.specs.declared.value.Value.{Value}
use Rattle.sqlite_value.specs.declared.value.Value.TheVariants.{Null, Int}
use Rattle.sqlite_value.specs.Order.{Row}
use Rattle.sqlite_trees.specs.Tree.{Trees}
use Rattle.sqlite_ast.specs.declared.Rows.{Rows}
use Rattle.sqlite_ast.specs.declared.Rows.TheVariants as rows
use Rattle.sqlite_ast.specs.declared.Conflict.TheVariants as conflict
use Rattle.sqlite_ast.specs.declared.Statement.{Statement}
use Rattle.sqlite_ast.specs.declared.Statement.TheVariants as written
use Rattle.sqlite_sql.specs.Term.{Term, lit}
use Rattle.sqlite_sql.specs.Ops.{unary}
use Rattle.sqlite_schema.specs.declared.command.Command.{Command}
use Rattle.sqlite_schema.specs.declared.command.Command.TheVariants.{Insert}
use Rattle.sqlite_schema.specs.declared.command.Source.TheVariants.{Values}
use Rattle.sqlite_schema.specs.declared.schema.Keys.{Keys}
use Rattle.sqlite_schema.specs.declared.schema.Keys.TheVariants.{Enforced}
use Rattle.sqlite_schema.specs.declared.schema.Kind.TheVariants.{Integer}
use Rattle.sqlite_schema.specs.declared.schema.Reference.{Reference}
use Rattle.sqlite_schema.specs.declared.schema.Schema.{Schema}
use Rattle.sqlite_schema.specs.declared.schema.Table.{Table}
use Rattle.sqlite_schema.specs.Names.{table_named}
use Rattle.sqlite_schema.specs.Rules.{ParentKey, parent_key}
use Rattle.sqlite_rules.specs.Cast.{cast, cast_all}
use Rattle.sqlite_rules.specs.Edit.{Edit, edit_of, next_rowid, put_all, Applies}
use Rattle.sqlite_rules.specs.Action.{works, work_for, work_by, deed_for}
use Rattle.sqlite_rules.specs.declared.action.Deed.{Deed}
use Rattle.sqlite_rules.specs.declared.error.Rowids.TheVariants.{Chosen}
use Rattle.sqlite_rules.proofs.PlaceLemmas.{next_is_free}
use Rattle.sqlite_resolve.specs.Scope.{Name}
use Rattle.sqlite_resolve.specs.Compile.{first, compiled, timed, returning, command, shows, small, insert_or_abort, insert, new_rows}
use Rattle.sqlite_tied.specs.Compute.{everything}
use Rattle.sqlite.specs.Rows.{Written, Task, Edited}
use Rattle.sqlite.specs.Does.{Tally, OnRows, AtPlace}
use Rattle.sqlite.specs.Effect.{Database, IsDatabase}
use Rattle.sqlite.specs.State.{text_of}
use Rattle.sqlite.proofs.Callers.{one_step}
use Rattle.agv_store_schema.specs.Schema.{meta_table}
use Rattle.agv_store_schema.specs.SchemaNumbers.{schema_number}
use Rattle.agv_store_create.specs.SchemaTexts.{meta_text}
use Rattle.agv_store_create.specs.DeskTables.{HasRows}
use Rattle.agv_store_create.specs.DeskTables.{HasTable}
use Rattle.agv_store_create.specs.TextsRun.{RunsText, enforced}
use Rattle.agv_store_create.proofs.Creations.{Says, says, compiled_is, compiled_to}
use Rattle.agv_store_create.proofs.Entries.{HasRows-put_row}
use Rattle.agv_store_schema.proofs.Running.{went, same_value}
use Rattle.agv_store_create.proofs.TableTexts.{parsed}

-- the row
abbrev pub meta_row : Row
meta_row = Int (pos 1) ∷ Int (pos schema_number) ∷ []

-- its terms, behind the number of the row, which the database chooses
abbrev pub row_terms : List Term
row_terms = lit Null ∷ lit (Int (pos 1)) ∷ lit (Int (pos schema_number)) ∷ []

abbrev pub insertion : ℕ → Command
insertion at = Insert at (Values row_terms 3)

abbrev columns_in : Statement → List Name
columns_in (written.Insert how name columns all clauses shown) = columns
columns_in _ = []

abbrev rows_in : Statement → Rows
rows_in (written.Insert how name columns all clauses shown) = all
rows_in _ = rows.Defaults

-- ---- what the text means

pub read : first meta_text ≡ Ok (parsed meta_text)
unfolding everything
read = refl

is_insertion : (parsed meta_text).statement ≡ written.Insert conflict.Abort (codes "meta") (columns_in (parsed meta_text).statement) (rows_in (parsed meta_text).statement) [] []
unfolding everything
is_insertion = refl

untimed : (parsed meta_text).formats ≡ []
unfolding everything
untimed = refl

whole : (at : ℕ) → text_of meta_text (compiled_to (parsed meta_text) (insertion at)) ≡ meta_text
unfolding everything
whole at = refl

terms_are : (s : Schema) (tree : ℕ) → new_rows s (record meta_table { tree = tree }) (small (parsed meta_text).names + 0) (columns_in (parsed meta_text).statement) (rows_in (parsed meta_text).statement) ≡ Ok (Values row_terms 3)
unfolding everything
terms_are s tree = refl

pub compiles : (s : Schema) (at tree : ℕ) → table_named s (codes "meta") ≡ Some at → slice_get s.tables at ≡ Some (record meta_table { tree = tree }) → compiled s meta_text ≡ Ok (compiled_to (parsed meta_text) (insertion at))
unfolding command returning timed shows insert_or_abort insert
compiles s at tree named there =
    compiled_is s meta_text (parsed meta_text) (insertion at) read (rw (is_insertion, untimed, named, there)) (rw is_insertion) (rw (is_insertion, named, there, terms_are s tree))

says_row : (s : Schema) (at tree : ℕ) → table_named s (codes "meta") ≡ Some at → slice_get s.tables at ≡ Some (record meta_table { tree = tree }) → Says s meta_text (insertion at)
says_row s at tree named there = says s meta_text (parsed meta_text) (insertion at) (compiles s at tree named there) (whole at)

-- ---- what it does

-- where no row is taken out, no key acts
module _ (s : Schema) (keys : Keys) (depth tree : ℕ) (news : List Row) where
  no_work : (child : Table) (ref : Reference) (deed : Option Deed) (key : Option ParentKey) → work_by depth tree [] child ref deed key ≡ None
  no_work child ref None key = refl
  no_work child ref (Some deed) None = refl
  no_work child ref (Some deed) (Some key) = elim (cases_Bool (key.0 == tree)) [ inl e ↦ rw e refl | inr e ↦ rw e refl ]

  no_ref : (child : Table) (refs : List Reference) → filter_map (work_for s keys depth tree [] news child) refs ≡ []
  no_ref child [] = refl
  no_ref child (r ∷ refs) = rw (no_work child r (deed_for keys (length news == 0) r) (parent_key s.tables r), no_ref child refs)

  no_child : (tables : List Table) → flat_map (λ (child : Table). filter_map (work_for s keys depth tree [] news child) child.references) tables ≡ []
  no_child [] = refl
  no_child (u ∷ tables) = rw (no_ref u u.references, no_child tables)

  pub no_works : works s keys depth tree [] news ≡ []
  no_works = no_child s.tables

either : (b : Bool) (x : Value) → cond b x x ≡ x
either true x = refl
either false x = refl

pub no_number : cast Integer Null ≡ Null
unfolding unary
no_number = either _ Null

number_kept : (n : ℤ) → cast Integer (Int n) ≡ Int n
unfolding unary
number_kept n = either _ (Int n)

pub fits : cast_all meta_table.columns meta_row ≡ meta_row
fits = rw (number_kept (pos 1), number_kept (pos schema_number)) refl

-- the row is in `meta`, and the other tables have the rows that they had
pub record GetsRow (old new : Database) (tree : ℕ) : Type 0 where
  pub schema_is : new.schema ≡ old.schema
  pub others : AllByRecursion (λ (t : Table). t.tree ≢ tree → new.trees t.tree ≡ old.trees t.tree) old.schema.tables
  pub row : HasRows (new.trees tree) (meta_row ∷ [])
  pub listed : IsDatabase new

abbrev pub task_on : Option ℕ → Schema → Table → Task
task_on limit schema table = record { limit = limit; keys = Enforced; schema = schema; table = table; params = [] }

abbrev with_trees : Schema → Trees → Database
with_trees schema trees = record { schema = schema; trees = trees }

pub gets_row : (old new : Database) (h : HasTable old meta_table []) → RunsText meta_text old new → GetsRow old new h.tree
gets_row old new h ran =
    let table = record meta_table { tree = h.tree } in
    let says = says_row old.schema h.at h.tree h.named h.there in
    let did = ran (insertion h.at) says.is says.plain tt in
    let db = old.trees in
    let placed : OnRows (task_on did.limit old.schema table) enforced None (insertion h.at) db (Ok (did.tally, new)) =
    subst (λ (o : Option Table). AtPlace (λ t. OnRows (task_on did.limit old.schema t) enforced None (insertion h.at) db) o (Ok (did.tally, new))) h.there did.does in
    let done = went placed in
    let given = went done.1 in
    let counter = went given.2 in
    let edited = went counter.2 in
    let counted = went edited.2 in
    let mid = edited.0 in
    let edit = edit_of db table [] Chosen 0 ((Null ∷ meta_row) ∷ []) in
    let same : edit_of db table [] Chosen 0 given.0 ≡ edit = ap (edit_of db table [] Chosen 0) given.1.1 in
    let one : Edited old.schema Enforced db edit (Ok mid) = subst (λ (e : Edit). Edited old.schema Enforced db e (Ok mid)) same edited.1 in
    let a : Applies old.schema Enforced db edit mid = one_step old.schema Enforced db mid edit (no_works old.schema Enforced 0 h.tree edit.news) one in
    let trees : done.0.trees ≡ mid = ap (λ (it : Written). it.trees) (same_value counted.2) ∙ same_value counted.1 in
    let tested = went done.2 in
    let returned = went tested.2 in
    let now : new ≡ record { schema = old.schema; trees = mid } = ap (λ (p : Tally × Database). p.1) (same_value returned.2) ∙ ap (with_trees old.schema) trees in
    let entry = Int (next_rowid (db h.tree)) ∷ meta_row in
    let news : edit.news ≡ entry ∷ [] = rw (no_number, fits) refl in
    let put = HasRows-put_row entry (db h.tree) [] (next_is_free Chosen (db h.tree) meta_row h.rows_are.0.0 h.rows_are.0.1) refl h.rows_are in
    record {
      schema_is = ap (λ (d : Database). d.schema) now;
      others = subst (λ (d : Database). AllByRecursion (λ (t : Table). t.tree ≢ h.tree → d.trees t.tree ≡ old.trees t.tree) old.schema.tables) (sym now) a.tables;
      row = subst (λ (d : Database). HasRows (d.trees h.tree) (meta_row ∷ [])) (sym now) (subst (λ entries. HasRows entries (meta_row ∷ [])) (sym (a.rows ∙ ap (put_all (db h.tree)) news)) put);
      listed = did.listed;
    }
