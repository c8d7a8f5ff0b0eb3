-- What a SELECT on one table means, wherever the table stands.
use Rattle.std.proofs.Common.{◌≡◌, ◌==◌, ◌∙◌, not, [], ◌∷◌, ◌++◌, ℕ, List, Bool, true, false, length, map, Option, Some, None, Ok, Err, slice_get, refl, sym, ap, unwrap_or, is_some}
use Rattle.std.proofs.lemmas.Bool.{and_parts}
use Rattle.sqlite_ast.specs.declared.Expr.{Expr, out-Expr}
use Rattle.sqlite_ast.specs.declared.Expr.TheOpen.{Expr-F, Shown-F}
use Rattle.sqlite_ast.specs.declared.Shown.{Shown, out-Shown}
use Rattle.sqlite_ast.specs.declared.Core.{Core, out-Core}
use Rattle.sqlite_ast.specs.declared.Select.{Select, out-Select}
use Rattle.sqlite_ast.specs.declared.Statement.TheVariants as written
use Rattle.sqlite_ast.specs.Layer.{ShownLayer}
use Rattle.sqlite_syntax.specs.declared.statement.Parsed.{Parsed}
use Rattle.sqlite_value.specs.declared.keys.Collation.{Collation}
use Rattle.sqlite_sql.specs.Term.{Term}
use Rattle.sqlite_schema.specs.declared.schema.Table.{Table}
use Rattle.sqlite_schema.specs.declared.schema.Schema.{Schema}
use Rattle.sqlite_schema.specs.Names.{table_named}
use Rattle.sqlite_schema.specs.declared.command.Command.TheVariants as make
use Rattle.sqlite_draft.specs.declared.join.Step.TheVariants.{Inner}
use Rattle.sqlite_draft.specs.declared.query.Grouping.{Grouping}
use Rattle.sqlite_resolve.specs.declared.body.Joined.{Joined}
use Rattle.sqlite_resolve.specs.declared.body.Body.{Body}
use Rattle.sqlite_resolve.specs.declared.select.Clauses.{Clauses}
use Rattle.sqlite_resolve.specs.declared.scope.Output.{Output}
use Rattle.sqlite_resolve.specs.declared.state.State.{State}
use Rattle.sqlite_resolve.specs.declared.error.CompileError.{CompileError}
use Rattle.sqlite_resolve.specs.Lowering.{◌<$>◌, ◌>>=◌, Checked, Lowering, and_then, pure, last, take_slot, fresh, max_budget}
use Rattle.sqlite_resolve.specs.Scope.{Name, Context}
use Rattle.sqlite_resolve.specs.Terms.{conjuncts}
use Rattle.sqlite_resolve.specs.Expr.{lower}
use Rattle.sqlite_resolve.specs.Order.{sorts, keys}
use Rattle.sqlite_resolve.specs.Body.{table_in, bound, bounds, shared, tests, shown, shown_at, outputs, outputs_from, is_column, inner_join, join, joins, result, matching, body}
use Rattle.sqlite_resolve.specs.Select.{outermost, having, parts, assembled, named, paging, constant_or}
use Rattle.sqlite_resolve.specs.Program.{Shown as Made, Building, source, sources, viewing, single, alone, whole, with, level, query_to, query}
use Rattle.sqlite_resolve.specs.Compile.{first, timed, returning, command, read}
use Rattle.agv_store_schema.proofs.OneTable.{IsIn, Means, sole, deepest, test_reads_only, shown_reads_only_at, shown_read_only, is_typed, query_by, query_in, draft_by, draft_in, no_limit, bound_at, scope_of, IsPlainFrom, IsAlone}
use Rattle.agv_store_sql.proofs.sql.OneTableTerms.{NamesRowid, around, rowid_term, rowid_heading, rowid_lowered, rowid_headed, lower_same, heading_same}
use Rattle.agv_store_sql.proofs.sql.OneTableWrites.{means, program_is}

-- ---- the columns that are shown, and the test of WHERE

abbrev one_output : List Output → Lowering Term → Option Name → Name → Bool → Lowering (List Output)
one_output done l alias head bare = do
  x ← l
  pure (done ++ record { name = unwrap_or alias head; is_alias = is_some alias; is_column = bare; term = x; carried = (← last) } ∷ [])

-- what shows the rowid alone
pub record ShowsRowid (t : Table) (all : List Shown) (e : Expr) : Type 0 where
  pub one : Shown
  pub text : Name
  pub word : Name
  pub all_is : all ≡ one ∷ []
  pub one_is : out-Shown one ≡ Shown-F.One e None text
  pub expr_is : out-Expr e ≡ Expr-F.Column None word
  pub names : NamesRowid t word

abbrev rowid_outputs : Table → Expr → Lowering (List Output)
rowid_outputs t e = one_output [] (around e rowid_term) None (rowid_heading t) (is_column e) >>= pure

module _ (t : Table) (s s' : Schema) (at at' : ℕ) (there : slice_get s.tables at ≡ Some t) (there' : slice_get s'.tables at' ≡ Some t) (name : Name) where
  tests_same : (cols : List Output) (done : List Term) (test : Option Expr) → test_reads_only t test ≡ true → tests lower (scope_of s at name cols false true) done test ≡ tests lower (scope_of s' at' name cols false true) done test
  unfolding tests
  tests_same cols done None h = refl
  tests_same cols done (Some e) h = ap (λ (l : Lowering Term). (λ x. done ++ conjuncts x) <$> l) (lower_same t s s' at at' there there' name cols false true deepest e h)

  output_same : (done : List Output) (x : ShownLayer) → shown_reads_only_at t x ≡ true
      → shown_at lower (scope_of s at name [] true true) (bound_at at name ∷ []) done x ≡ shown_at lower (scope_of s' at' name [] true true) (bound_at at' name ∷ []) done x
  output_same done (Shown-F.One e alias text) h = λ i. one_output done (lower_same t s s' at at' there there' name [] true true deepest e h i) alias (heading_same t s s' at at' there there' name [] true true 699 e text h i) (is_column e)
  output_same done _ h = absurd (cc)

  abbrev outputs_at : Schema → ℕ → List Output → List Shown → Lowering (List Output)
  outputs_at u n = outputs_from lower (scope_of u n name [] true true) (bound_at n name ∷ [])

  next_output : (u : Schema) (n : ℕ) (done : List Output) (x : Shown) (more : List Shown)
      → outputs_at u n done (x ∷ more) ≡ (shown_at lower (scope_of u n name [] true true) (bound_at n name ∷ []) done (out-Shown x) >>= (λ longer. outputs_at u n longer more))
  unfolding shown
  next_output u n done x more = refl

  all_outputs_same : (done : List Output) (all : List Shown) → shown_read_only t all ≡ true → outputs_at s at done all ≡ outputs_at s' at' done all
  all_outputs_same done [] h = refl
  all_outputs_same done (x ∷ more) h =
      let both = and_parts _ _ h in
      next_output s at done x more ∙ (λ i. output_same done (out-Shown x) both.0 i >>= (λ longer. all_outputs_same longer more both.1 i)) ∙ sym (next_output s' at' done x more)

  outputs_same : (all : List Shown) → shown_read_only t all ≡ true → outputs lower (scope_of s at name [] true true) (bound_at at name ∷ []) all ≡ outputs lower (scope_of s' at' name [] true true) (bound_at at' name ∷ []) all
  unfolding outputs
  outputs_same all h = all_outputs_same [] all h

  rowid_shown : (all : List Shown) (e : Expr) → ShowsRowid t all e → outputs lower (scope_of s at name [] true true) (bound_at at name ∷ []) all ≡ rowid_outputs t e
  unfolding outputs
  rowid_shown all e it =
      let cx = scope_of s at name [] true true in
      ap (outputs_at s at []) it.all_is ∙ next_output s at [] it.one []
      ∙ ap (λ x. shown_at lower cx (bound_at at name ∷ []) [] x >>= pure) it.one_is
      ∙ (λ i. one_output [] (rowid_lowered t s s' at at' there there' name [] true true 699 e it.word it.expr_is it.names i) None (rowid_headed t s s' at at' there there' name [] true true e it.text it.word it.expr_is it.names i) (is_column e) >>= pure)

-- ---- the query in its stages

module _ (t : Table) (name : Name) (core : Core) where
  abbrev body_of : ℕ → List Output → List Term → Body
  body_of n cols terms = record { level = record { tables = bound_at n name ∷ []; shown = cols }; steps = Inner t.tree ∷ []; filter = terms }

  abbrev has_groups : State → Bool
  has_groups st = not (length st.aggregates == 0)

  abbrev clauses_of : ℕ → Bool → List Output → List Term → Clauses
  clauses_of n g cols terms = record { body = body_of n cols terms; is_grouped = g; keys = []; collations = []; having = []; order = [] }

  abbrev last_stage : Bool → List Output → List Term → State → Checked Made
  last_stage g cols terms st = and_then (assembled false no_limit.0 no_limit.1 (clauses_of 0 g cols terms) st) (λ d. Ok (d, map (λ o. o.name) cols, map (λ o. o.carried.collation) cols))

  abbrev all_stages : Checked (List Output × State) → (List Output → State → Checked (List Term × State)) → Checked Made
  all_stages shows tested = and_then shows (λ r. and_then (tested r.0 r.1) (λ q. last_stage (has_groups q.1) r.0 q.0 q.1))

  module _ (plain : IsPlainFrom core name) (s : Schema) (at : ℕ) (named_at : table_named s name ≡ Some at) (there : slice_get s.tables at ≡ Some t) where
    abbrev shows : Lowering (List Output)
    shows = outputs lower (scope_of s at name [] true true) (bound_at at name ∷ []) (out-Core core).shown

    abbrev tested : List Output → Lowering (List Term)
    tested cols = tests lower (scope_of s at name cols false true) [] (out-Core core).filter

    unsorted : (c : Context) (cols : List Output) (st : State) → sorts lower c cols [] st ≡ Ok ([], st)
    unfolding sorts
    unsorted c cols st = refl

    bounds_is : bounds s (out-Core core).from (fresh 1 max_budget) ≡ Ok (bound_at at name ∷ [], fresh 2 max_budget)
    unfolding bounds bound table_in take_slot
    bounds_is = rw (plain.from, plain.origin, named_at, plain.alias, plain.using)

    abbrev scan : Joined
    scan = record { steps = Inner t.tree ∷ []; filter = [] }

    joins_is : (c : Context) → c.schema ≡ s → (st : State) → joins lower c (bound_at at name ∷ []) (out-Core core).from st ≡ Ok (scan, st)
    unfolding joins join shared inner_join tests
    joins_is c is st = rw (plain.from, plain.on, plain.using, is, there, plain.inner)

    body_fails : (e : CompileError) → shows (fresh 2 max_budget) ≡ Err e → body lower (outermost s) core (fresh 1 max_budget) ≡ Err e
    unfolding body result
    body_fails e h = rw (bounds_is, h)

    body_goes_on : (cols : List Output) (st2 : State) (r : Checked (List Term × State)) → shows (fresh 2 max_budget) ≡ Ok (cols, st2) → tested cols st2 ≡ r
        → body lower (outermost s) core (fresh 1 max_budget) ≡ and_then r (λ q. Ok (body_of at cols q.0, q.1))
    unfolding body result matching
    body_goes_on cols st2 (Err e) h k = rw (bounds_is, h, joins_is (scope_of s at name cols false true) refl st2, k)
    body_goes_on cols st2 (Ok q) h k = rw (bounds_is, h, joins_is (scope_of s at name cols false true) refl st2, k)

    parts_are : (cols : List Output) (terms : List Term) (st3 : State) → body lower (outermost s) core (fresh 1 max_budget) ≡ Ok (body_of at cols terms, st3)
        → parts s core [] (fresh 1 max_budget) ≡ Ok (clauses_of at (has_groups st3) cols terms, st3)
    unfolding parts keys having tests
    parts_are cols terms st3 made = rw (made, plain.group, plain.having, unsorted (scope_of s at name cols (has_groups st3) true) cols st3)

    parts_fail : (e : CompileError) → body lower (outermost s) core (fresh 1 max_budget) ≡ Err e → parts s core [] (fresh 1 max_budget) ≡ Err e
    unfolding parts
    parts_fail e made = rw made

    named_from : Checked (Clauses × State) → Checked Made
    named_from r = and_then r (λ x. and_then (assembled (out-Core core).distinct no_limit.0 no_limit.1 x.0 x.1) (λ d. Ok (d, map (λ o. o.name) x.0.body.level.shown, map (λ o. o.carried.collation) x.0.body.level.shown)))

    named_is : named s core [] no_limit ≡ named_from (parts s core [] (fresh 1 max_budget))
    unfolding named named_from
    named_is = refl

    from_body : (cols : List Output) (terms : List Term) (st3 : State) → body lower (outermost s) core (fresh 1 max_budget) ≡ Ok (body_of at cols terms, st3)
        → named s core [] no_limit ≡ last_stage (has_groups st3) cols terms st3
    unfolding named_from assembled
    from_body cols terms st3 made = named_is ∙ ap named_from (parts_are cols terms st3 made) ∙ rw plain.repeats

    from_outputs : (cols : List Output) (st2 : State) (r : Checked (List Term × State)) → shows (fresh 2 max_budget) ≡ Ok (cols, st2) → tested cols st2 ≡ r
        → named s core [] no_limit ≡ and_then r (λ q. last_stage (has_groups q.1) cols q.0 q.1)
    unfolding named_from
    from_outputs cols st2 (Err e) h k = named_is ∙ ap named_from (parts_fail e (body_goes_on cols st2 (Err e) h k))
    from_outputs cols st2 (Ok q) h k = from_body cols q.0 q.1 (body_goes_on cols st2 (Ok q) h k)

    from_start : (r : Checked (List Output × State)) → shows (fresh 2 max_budget) ≡ r → named s core [] no_limit ≡ all_stages r tested
    unfolding named_from
    from_start (Err e) h = named_is ∙ ap named_from (parts_fail e (body_fails e h))
    from_start (Ok r) h = from_outputs r.0 r.1 _ h refl

    in_stages : named s core [] no_limit ≡ all_stages (shows (fresh 2 max_budget)) tested
    in_stages = from_start _ refl

  -- the rowids of all rows
  abbrev pub rowid_stages : Expr → Checked Made
  rowid_stages e = all_stages (rowid_outputs t e (fresh 2 max_budget)) (λ cols st. Ok ([], st))

  pub rowids_named : IsPlainFrom core name → (e : Expr) → ShowsRowid t (out-Core core).shown e → (out-Core core).filter ≡ None
      → (s : Schema) (at : ℕ) → table_named s name ≡ Some at → slice_get s.tables at ≡ Some t → named s core [] no_limit ≡ rowid_stages e
  unfolding tests
  rowids_named plain e it untested s at named_at there =
      in_stages plain s at named_at there
      ∙ (λ i. all_stages (rowid_shown t s s at at there there name (out-Core core).shown e it i (fresh 2 max_budget)) (λ cols. tests lower (scope_of s at name cols false true) [] (untested i)))

  named_same : IsPlainFrom core name → shown_read_only t (out-Core core).shown ≡ true → test_reads_only t (out-Core core).filter ≡ true
      → (s s' : Schema) (at at' : ℕ) → table_named s name ≡ Some at → table_named s' name ≡ Some at' → slice_get s.tables at ≡ Some t → slice_get s'.tables at' ≡ Some t
      → named s core [] no_limit ≡ named s' core [] no_limit
  named_same plain shown_so tested_so s s' at at' named_at named_at' there there' =
      in_stages plain s at named_at there
      ∙ (λ i. all_stages (outputs_same t s s' at at' there there' name (out-Core core).shown shown_so i (fresh 2 max_budget)) (λ cols. tests_same t s s' at at' there there' name cols [] (out-Core core).filter tested_so i))
      ∙ sym (in_stages plain s' at' named_at' there')

module _ (s : Schema) (name : Name) (core : Core) (plain : IsPlainFrom core name) (q : Made) (is : named s core [] no_limit ≡ Ok q) (next : Schema → Select → Building Made) where
  sources_are : sources next s (out-Core core).from [] ≡ Ok (s, [])
  unfolding sources source
  sources_are = rw (plain.from, plain.origin)

  viewing_is : viewing next s core [] no_limit 64 s [] ≡ Ok ((q, s), [])
  unfolding viewing
  viewing_is = rw is

  alone_is : alone next s core [] no_limit [] ≡ Ok (q, [])
  unfolding alone single
  alone_is = rw (sources_are, viewing_is)

module _ (s : Schema) (name : Name) (sel : Select) (one : IsAlone sel) (plain : IsPlainFrom (out-Select sel).first name) (q : Made) (is : named s (out-Select sel).first [] no_limit ≡ Ok q) where
  paging_is : paging s sel ≡ Ok no_limit
  unfolding paging constant_or
  paging_is = rw (one.limit, one.offset)

  level_is : (next : Schema → Select → Building Made) → level next s sel [] ≡ Ok (q, [])
  unfolding level with whole
  level_is next = rw (one.with, paging_is, one.others, one.order, alone_is s name (out-Select sel).first plain q is next)

  query_is : query s sel ≡ Ok (q, [])
  unfolding query query_to
  query_is = level_is (query_to 15)

-- ---- the statement

module _ (s : Schema) (name : Name) (t : Table) (at : ℕ) (stands : IsIn s name t at) (sql : List ℕ) (p : Parsed) (parses : first sql ≡ Ok p) (untimed : p.formats ≡ [])
    (sel : Select) (is : p.statement ≡ written.Select sel) (one : IsAlone sel) (plain : IsPlainFrom (out-Select sel).first name) where
  pub select_means_in : (group : Option Grouping) (terms project : List Term) (names : List Name) (collations : List (Option Collation))
      → shown_read_only t (out-Core (out-Select sel).first).shown ≡ true → test_reads_only t (out-Core (out-Select sel).first).filter ≡ true
      → table_named (sole t) name ≡ Some 0 → named (sole t) (out-Select sel).first [] no_limit ≡ Ok (draft_in group t.tree terms project, names, collations)
      → is_typed t (query_in group t.tree terms project) ≡ true → Means s sql (make.Select (record { lets = []; body = query_in group t.tree terms project }) names)
  unfolding command returning timed read
  select_means_in group terms project names collations shown_so tested_so own found typed =
      let built = named_same t name (out-Select sel).first plain shown_so tested_so s (sole t) at 0 stands.named own stands.there refl ∙ found in
      let asks = query_is s name sel one plain _ built in
      let runs = program_is s name t at stands (draft_in group t.tree terms project) refl typed in
      means s sql p _ parses (rw (is, untimed)) (rw is) (rw (is, asks, runs))

  -- with nothing grouped
  pub select_means : (terms project : List Term) (names : List Name) (collations : List (Option Collation))
      → shown_read_only t (out-Core (out-Select sel).first).shown ≡ true → test_reads_only t (out-Core (out-Select sel).first).filter ≡ true
      → table_named (sole t) name ≡ Some 0 → named (sole t) (out-Select sel).first [] no_limit ≡ Ok (draft_by t.tree terms project, names, collations)
      → is_typed t (query_by t.tree terms project) ≡ true → Means s sql (make.Select (record { lets = []; body = query_by t.tree terms project }) names)
  select_means = select_means_in None
