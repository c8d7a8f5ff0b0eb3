-- What a DELETE, an UPDATE and an INSERT on one table mean, wherever the table stands.
use Rattle.std.proofs.Common.{◌≡◌, ◌+◌, ◌∙◌, [], ◌∷◌, ◌++◌, ℕ, List, if◌then◌else◌, true, false, Option, Some, None, Ok, slice_get, refl, sym, ap, subst}
use Rattle.sqlite_ast.specs.declared.Expr.{Expr}
use Rattle.std.proofs.lemmas.Bool.{and_parts}
use Rattle.sqlite_ast.specs.declared.Rows.{Rows}
use Rattle.sqlite_ast.specs.declared.Conflict.TheVariants as conflict
use Rattle.sqlite_ast.specs.declared.Statement.TheVariants as written
use Rattle.sqlite_syntax.specs.declared.statement.Parsed.{Parsed}
use Rattle.sqlite_sql.specs.Term.{Term, col}
use Rattle.sqlite_sql.specs.Query.{inner, end}
use Rattle.sqlite_schema.specs.declared.schema.Table.{Table}
use Rattle.sqlite_schema.specs.declared.schema.Schema.{Schema}
use Rattle.sqlite_schema.specs.declared.command.Command.{Command}
use Rattle.sqlite_schema.specs.declared.command.Command.TheVariants.{Insert, Update, Delete}
use Rattle.sqlite_schema.specs.declared.command.Source.TheVariants.{Values}
use Rattle.sqlite_draft.specs.declared.join.Step.TheVariants.{Inner}
use Rattle.sqlite_draft.specs.declared.query.Draft.{Draft}
use Rattle.sqlite_draft.specs.Query.{query_of}
use Rattle.sqlite_resolve.specs.declared.compiled.Compiled.{Compiled}
use Rattle.sqlite_resolve.specs.declared.error.CompileError.TheVariants.{Unsupported}
use Rattle.sqlite_resolve.specs.Lowering.{◌<$>◌, ◌>>=◌, Checked, Lowering, and_then, fail, fresh, get, max_budget, pure, take_steps}
use Rattle.sqlite_resolve.specs.Scope.{Name, Context}
use Rattle.sqlite_resolve.specs.Terms.{conjuncts}
use Rattle.sqlite_resolve.specs.Expr.{lower}
use Rattle.sqlite_resolve.specs.Body.{tests}
use Rattle.sqlite_resolve.specs.Reach.{any_scans}
use Rattle.sqlite_resolve.specs.Select.{value_of}
use Rattle.sqlite_resolve.specs.Program.{program}
use Rattle.sqlite_resolve.specs.Write.{simple, picked, deleted, over, row as new_row, with_place, sets, sets_from, assigned, updated, updated_in}
use Rattle.sqlite_resolve.specs.Compile.{first, compiled, planned, meaning, timed, returning, command, shows, small, on_table, insert_or_abort, insert, new_rows, update, delete}
use Rattle.sqlite.specs.Listing.{understood, misses_table}
use Rattle.sqlite.proofs.Callers.{IsPlain, command_of}
use Rattle.agv_store_schema.proofs.OneTable.{IsIn, Means, compiled_as, parsed_or, unparsed, sole, deepest, test_reads_only, is_typed, query_by, sets_read_only}
use Rattle.agv_store_sql.proofs.sql.OneTableTerms.{lower_same}

-- ---- from a compiled statement to its meaning

understood_is : (s : Schema) (sql : List ℕ) (c : Compiled) → compiled s sql ≡ Ok c → understood s sql ≡ Ok c
unfolding understood
understood_is s sql c e = rw e

compiled_is : (s : Schema) (sql : List ℕ) (p : Parsed) (c : Command) → first sql ≡ Ok p → timed s p.formats p.statement ≡ [] → returning s (small p.names + 0) p.statement ≡ Ok None
    → command s p.formats (small p.names + 0) p.statement ≡ Ok c → compiled s sql ≡ Ok (compiled_as p c)
unfolding compiled planned meaning
compiled_is s sql p c read untimed silent is = rw (read, untimed, silent, is)

pub means : (s : Schema) (sql : List ℕ) (p : Parsed) (c : Command) → first sql ≡ Ok p → timed s p.formats p.statement ≡ [] → returning s (small p.names + 0) p.statement ≡ Ok None
    → command s p.formats (small p.names + 0) p.statement ≡ Ok c → Means s sql c
means s sql p c read untimed silent is =
    let e = compiled_is s sql p c read untimed silent is in
    let known = understood_is s sql (compiled_as p c) e in
    record { is = ap command_of known; plain = subst IsPlain (sym known) (refl, refl); own = ap misses_table e; known = known ∙ ap (λ q. Ok (compiled_as q c)) (sym (ap (parsed_or unparsed) read)) }

on_table_is : (s : Schema) (name : Name) (t : Table) (at : ℕ) → IsIn s name t at → (f : ℕ → Table → Checked Command) → on_table s name f ≡ f at t
on_table_is s name t at stands f = rw (stands.named, stands.there)

pub program_is : (s : Schema) (name : Name) (t : Table) (at : ℕ) → IsIn s name t at → (d : Draft) → d.from ≡ inner t.tree end → is_typed t (query_of d) ≡ true
    → program s [] d ≡ Ok (record { lets = []; body = query_of d })
unfolding program
program_is s name t at stands d from typed = rw (from, stands.low, stands.by_tree, typed)

-- ---- the rows that are picked

module _ (s s' : Schema) (t : Table) (at at' : ℕ) (there : slice_get s.tables at ≡ Some t) (there' : slice_get s'.tables at' ≡ Some t) where
  tests_same : (done : List Term) (test : Option Expr) → test_reads_only t test ≡ true → tests lower (over s at t.name) done test ≡ tests lower (over s' at' t.name) done test
  unfolding tests
  tests_same done None h = refl
  tests_same done (Some e) h = ap (λ (l : Lowering Term). (λ x. done ++ conjuncts x) <$> l) (lower_same t s s' at at' there there' t.name [] false true deepest e h)

  abbrev drafted : List Term → Lowering (List Term) → Lowering Draft
  drafted project found = do
    filter ← found
    pure (simple (Inner t.tree ∷ (← take_steps)) filter project)

  picked_is : (c : Context) (project : List Term) (test : Option Expr) → picked c t project test ≡ drafted project (tests lower c [] test)
  unfolding picked
  picked_is c project test = refl

  picked_same : (project : List Term) (test : Option Expr) → test_reads_only t test ≡ true → picked (over s at t.name) t project test ≡ picked (over s' at' t.name) t project test
  picked_same project test h = picked_is _ project test ∙ ap (drafted project) (tests_same [] test h) ∙ sym (picked_is _ project test)

  deleted_same : (test : Option Expr) → test_reads_only t test ≡ true → deleted s at t test ≡ deleted s' at' t test
  unfolding deleted
  deleted_same test h = rw (picked_same (col 1 0 ∷ []) test h)

  -- the columns that are set, and what they are set to
  sets_same : (done : List ℕ × List Term) (all : List (Name × Expr)) → sets_read_only t all ≡ true → sets_from (over s at t.name) t done all ≡ sets_from (over s' at' t.name) t done all
  sets_same done [] h = refl
  sets_same done (set ∷ more) h =
      let both = and_parts _ _ h in
      λ i st. and_then (with_place t done.0 set.0) (λ places. and_then (lower_same t s s' at at' there there' t.name [] false true deepest set.1 both.0 i st) (λ r. sets_same (places, done.1 ++ r.0 ∷ []) more both.1 i r.1))

  abbrev unscanned : Lowering (List ℕ × List Term) → Lowering (List ℕ × List Term)
  unscanned sets = do
    found ← sets
    st ← get
    if any_scans t.tree st.steps then fail Unsupported else pure found

  assigned_is : (c : Context) (all : List (Name × Expr)) → assigned c t all ≡ unscanned (sets_from c t ([], []) all)
  unfolding assigned sets
  assigned_is c all = refl

  assigned_same : (all : List (Name × Expr)) → sets_read_only t all ≡ true → assigned (over s at t.name) t all ≡ assigned (over s' at' t.name) t all
  assigned_same all h = assigned_is _ all ∙ ap unscanned (sets_same ([], []) all h) ∙ sym (assigned_is _ all)

  updated_same : (all : List (Name × Expr)) (test : Option Expr) → sets_read_only t all ≡ true → test_reads_only t test ≡ true → updated s at t all test ≡ updated s' at' t all test
  unfolding updated updated_in
  updated_same all test h g =
      λ i. and_then (assigned_same all h i (fresh 2 max_budget)) (λ r. and_then (new_row t None r.0.0 (col 1 0 ∷ []) r.0.1) (λ project. value_of (picked_same project test g i r.1)))

-- ---- the statements

module _ (s : Schema) (name : Name) (t : Table) (at : ℕ) (stands : IsIn s name t at) (sql : List ℕ) (p : Parsed) (read : first sql ≡ Ok p) (untimed : p.formats ≡ []) where
  pub delete_means : (test : Option Expr) (terms : List Term) → test_reads_only t test ≡ true → p.statement ≡ written.Delete name test []
      → deleted (sole t) 0 t test ≡ Ok (simple (Inner t.tree ∷ []) terms (col 1 0 ∷ [])) → is_typed t (query_by t.tree terms (col 1 0 ∷ [])) ≡ true
      → Means s sql (Delete at (record { lets = []; body = query_by t.tree terms (col 1 0 ∷ []) }))
  unfolding command returning timed shows delete
  delete_means test terms reads is found typed =
      let d = simple (Inner t.tree ∷ []) terms (col 1 0 ∷ []) in
      let picks : deleted s at t test ≡ Ok d = deleted_same s (sole t) t at 0 stands.there refl test reads ∙ found in
      let runs = program_is s name t at stands d refl typed in
      means s sql p _ read (rw (is, untimed)) (rw is) (rw is (on_table_is s name t at stands _ ∙ rw (picks, runs)))

  pub update_means : (sets : List (Name × Expr)) (test : Option Expr) (terms project : List Term) → sets_read_only t sets ≡ true → test_reads_only t test ≡ true → p.statement ≡ written.Update name sets test []
      → updated (sole t) 0 t sets test ≡ Ok (simple (Inner t.tree ∷ []) terms project) → is_typed t (query_by t.tree terms project) ≡ true
      → Means s sql (Update at (record { lets = []; body = query_by t.tree terms project }))
  unfolding command returning timed shows update
  update_means sets test terms project sets_read reads is found typed =
      let d = simple (Inner t.tree ∷ []) terms project in
      let changes : updated s at t sets test ≡ Ok d = updated_same s (sole t) t at 0 stands.there refl sets test sets_read reads ∙ found in
      let runs = program_is s name t at stands d refl typed in
      means s sql p _ read (rw (is, untimed)) (rw is) (rw is (on_table_is s name t at stands _ ∙ rw (changes, runs)))

  pub insert_means : (columns : List Name) (all : Rows) (terms : List Term) (width : ℕ) → p.statement ≡ written.Insert conflict.Abort name columns all [] [] → t.stamps.formats ≡ []
      → new_rows s t (small p.names + 0) columns all ≡ Ok (Values terms width)
      → Means s sql (Insert at (Values terms width))
  unfolding command returning timed shows insert_or_abort insert
  insert_means columns all terms width is unstamped made =
      means s sql p _ read (rw (is, untimed, stands.named, stands.there, unstamped)) (rw is) (rw is (on_table_is s name t at stands _ ∙ rw made))
