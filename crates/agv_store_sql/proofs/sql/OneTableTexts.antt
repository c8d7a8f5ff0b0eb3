-- What SQL reads of a text on one table. Each text is evaluated once, to all that is asked of it, and the rest follows from that.
use Rattle.std.proofs.Common.{◌≡◌, ◌+◌, ◌≤◌, ◌&&◌, ◌∙◌, not, cond, [], ◌∷◌, ℕ, zero, suc, List, Bool, true, false, length, Option, Some, None, is_none, Ok, Err, refl, sym, ap, subst, le_refl}
use Rattle.std.proofs.lemmas.Bool.{and_parts, not-true}
use Rattle.sqlite_ast.specs.declared.Conflict.{Conflict}
use Rattle.sqlite_ast.specs.declared.Conflict.TheVariants as conflict
use Rattle.sqlite_ast.specs.declared.Core.{Core, out-Core}
use Rattle.sqlite_ast.specs.declared.Origin.{Origin}
use Rattle.sqlite_ast.specs.declared.Origin.TheVariants as origin
use Rattle.sqlite_ast.specs.declared.Select.{Select, out-Select}
use Rattle.sqlite_ast.specs.declared.Source.{Source, out-Source}
use Rattle.sqlite_ast.specs.declared.Statement.{Statement}
use Rattle.sqlite_ast.specs.declared.Statement.TheVariants as written
use Rattle.sqlite_syntax.specs.declared.statement.Parsed.{Parsed}
use Rattle.sqlite_value.specs.declared.keys.Collation.{Collation}
use Rattle.sqlite_sql.specs.Term.{Term, col}
use Rattle.sqlite_schema.specs.declared.schema.Table.{Table}
use Rattle.sqlite_schema.specs.declared.schema.Schema.{Schema}
use Rattle.sqlite_schema.specs.declared.command.Command.TheVariants as make
use Rattle.sqlite_schema.specs.declared.command.Source.{Source as RowSource}
use Rattle.sqlite_schema.specs.declared.command.Source.TheVariants.{Values}
use Rattle.sqlite_schema.specs.Names.{table_named}
use Rattle.sqlite_draft.specs.declared.join.Step.TheVariants.{Inner}
use Rattle.sqlite_draft.specs.declared.query.Draft.{Draft}
use Rattle.sqlite_draft.specs.declared.query.Grouping.{Grouping}
use Rattle.sqlite_draft.specs.Query.{query_of}
use Rattle.sqlite_resolve.specs.declared.error.CompileError.TheVariants.{NoSuchTable}
use Rattle.sqlite_resolve.specs.Lowering.{Checked}
use Rattle.sqlite_resolve.specs.Scope.{Name}
use Rattle.sqlite_resolve.specs.Select.{named}
use Rattle.sqlite_resolve.specs.Program.{Shown as Made}
use Rattle.sqlite_resolve.specs.Write.{deleted, simple, updated}
use Rattle.sqlite_resolve.specs.Compile.{first, new_rows, small}
use Rattle.agv_store_schema.proofs.OneTable.{IsAlone, IsIn, IsPlainFrom, Means, draft_in, is_typed, no_limit, parsed, parsed_or, query_by, query_in, sets_read_only, shown_read_only, sole, test_reads_only, unparsed}
use Rattle.agv_store_sql.proofs.sql.OneTableReads.{select_means_in}
use Rattle.agv_store_sql.proofs.sql.OneTableWrites.{delete_means, insert_means, update_means}

-- ---- what is asked of the parts of a text

abbrev is_nil : {X : Type 0} → List X → Bool
is_nil [] = true
is_nil (x ∷ xs) = false

abbrev is_first : Option ℕ → Bool
is_first (Some zero) = true
is_first _ = false

nil_is : {X : Type 0} (xs : List X) → is_nil xs ≡ true → xs ≡ []
nil_is [] h = refl
nil_is (x ∷ xs) h = absurd (cc)

none_is : {X : Type 0} (o : Option X) → is_none o ≡ true → o ≡ None
none_is None h = refl
none_is (Some x) h = absurd (cc)

first_is : (o : Option ℕ) → is_first o ≡ true → o ≡ Some 0
first_is None h = absurd (cc)
first_is (Some zero) h = refl
first_is (Some (suc n)) h = absurd (cc)

-- ---- a SELECT

-- no WITH, UNION, ORDER BY or LIMIT
abbrev is_alone : Select → Bool
is_alone sel =
    is_nil (out-Select sel).with && (is_nil (out-Select sel).others && (is_nil (out-Select sel).order && (is_none (out-Select sel).limit && is_none (out-Select sel).offset)))

-- nothing grouped and no DISTINCT
abbrev is_ungrouped : Core → Bool
is_ungrouped core = is_nil (out-Core core).group && (is_none (out-Core core).having && not (out-Core core).distinct)

-- no join and no other name
abbrev is_bare : Source → Bool
is_bare x = is_none (out-Source x).alias && (is_none (out-Source x).on && (is_nil (out-Source x).using && not (out-Source x).is_left))

abbrev table_of : Origin Select → Option Name
table_of (origin.Table name) = Some name
table_of (origin.Query q) = None

-- the table that it selects from, if it is one alone
abbrev sole_table : List Source → Option Name
sole_table (x ∷ []) = cond (is_bare x) (table_of (out-Source x).origin) None
sole_table _ = None

-- the types of what it asks are accepted over the table
abbrev typed_made : Table → Checked Made → Bool
typed_made t (Ok made) = is_typed t (query_of made.0)
typed_made t (Err e) = false

-- how far the text is read, how many parameters it has, whether it has nothing but columns and a test that SQL takes, from which table,
-- and what it asks of a schema of this table alone
pub record Reading : Type 0 where
  pub tail : ℕ
  pub parameters : ℕ
  pub is_plain : Bool
  pub table : Option Name
  pub made : Checked Made

abbrev unread : Reading
unread = record { tail = 0; parameters = 0; is_plain = false; table = None; made = Err NoSuchTable }

abbrev reading_of : Table → Parsed → Statement → Reading
reading_of t p (written.Select sel) =
    let core = (out-Select sel).first in
    let made = named (sole t) core [] no_limit in
    record {
      tail = p.tail;
      parameters = length p.names;
      is_plain = is_nil p.formats && (is_alone sel && (is_ungrouped core && (shown_read_only t (out-Core core).shown && (test_reads_only t (out-Core core).filter
          && (is_first (table_named (sole t) t.name) && typed_made t made)))));
      table = sole_table (out-Core core).from;
      made = made;
    }
reading_of t p _ = unread

abbrev reading : Table → Checked Parsed → Reading
reading t (Ok p) = reading_of t p p.statement
reading t (Err e) = unread

-- the whole text is read as a SELECT from this table alone with so many parameters, that asks for this
abbrev pub IsReadAs : Table → List ℕ → ℕ → Made → Type 0
IsReadAs t sql n made = reading t (first sql) ≡ record { tail = length sql; parameters = n; is_plain = true; table = Some t.name; made = Ok made }

-- what follows from it

alone_is : (sel : Select) → is_alone sel ≡ true → IsAlone sel
alone_is sel h =
    let a = and_parts _ _ h in
    let b = and_parts _ _ a.1 in
    let c = and_parts _ _ b.1 in
    let d = and_parts _ _ c.1 in
    record { with = nil_is _ a.0; others = nil_is _ b.0; order = nil_is _ c.0; limit = none_is _ d.0; offset = none_is _ d.1 }

-- the one source
record IsSole (xs : List Source) (name : Name) : Type 0 where
  source : Source
  from : xs ≡ source ∷ []
  origin : (out-Source source).origin ≡ origin.Table name
  bare : is_bare source ≡ true

sole_is : (xs : List Source) (name : Name) → sole_table xs ≡ Some name → IsSole xs name
sole_is [] name h = absurd (cc)
sole_is (x ∷ []) name h = go (is_bare x) refl (out-Source x).origin refl h
  where
    go : (b : Bool) → is_bare x ≡ b → (o : Origin Select) → (out-Source x).origin ≡ o → cond b (table_of o) None ≡ Some name → IsSole (x ∷ []) name
    go true bare (origin.Table n) is h = record { source = x; from = refl; origin = is ∙ ap origin.Table (let e : n ≡ name = cc in e); bare = bare }
    go true bare (origin.Query q) is h = absurd (cc)
    go false bare o is h = absurd (cc)
sole_is (x ∷ y ∷ xs) name h = absurd (cc)

plain_is : (core : Core) (name : Name) → is_ungrouped core ≡ true → IsSole (out-Core core).from name → IsPlainFrom core name
plain_is core name h it =
    let a = and_parts _ _ h in
    let b = and_parts _ _ a.1 in
    let c = and_parts _ _ it.bare in
    let d = and_parts _ _ c.1 in
    let e = and_parts _ _ d.1 in
    record {
      source = it.source;
      from = it.from;
      origin = it.origin;
      alias = none_is _ c.0;
      on = none_is _ d.0;
      using = nil_is _ e.0;
      inner = not-true _ e.1;
      group = nil_is _ a.0;
      having = none_is _ b.0;
      repeats = not-true _ b.1;
    }

-- the text as it is parsed, and its clauses
pub record IsSelection (t : Table) (sql : List ℕ) (n : ℕ) (made : Made) : Type 0 where
  pub p : Parsed
  pub parses : first sql ≡ Ok p
  pub tail : p.tail ≡ length sql
  pub parameters : length p.names ≡ n
  pub untimed : p.formats ≡ []
  pub sel : Select
  pub is : p.statement ≡ written.Select sel
  pub one : IsAlone sel
  pub plain : IsPlainFrom (out-Select sel).first t.name
  pub shown_so : shown_read_only t (out-Core (out-Select sel).first).shown ≡ true
  pub tested_so : test_reads_only t (out-Core (out-Select sel).first).filter ≡ true
  pub own : table_named (sole t) t.name ≡ Some 0
  pub found : named (sole t) (out-Select sel).first [] no_limit ≡ Ok made
  pub typed : is_typed t (query_of made.0) ≡ true

module _ (t : Table) (sql : List ℕ) (n : ℕ) (made : Made) where
  abbrev all_read : Reading
  all_read = record { tail = length sql; parameters = n; is_plain = true; table = Some t.name; made = Ok made }

  by_statement : (p : Parsed) → first sql ≡ Ok p → (x : Statement) → p.statement ≡ x → reading_of t p x ≡ all_read → IsSelection t sql n made
  by_statement p parses (written.Select sel) is h =
      let a = and_parts _ _ (ap (λ (r : Reading). r.is_plain) h) in
      let b = and_parts _ _ a.1 in
      let c = and_parts _ _ b.1 in
      let d = and_parts _ _ c.1 in
      let e = and_parts _ _ d.1 in
      let f = and_parts _ _ e.1 in
      let found = ap (λ (r : Reading). r.made) h in
      record {
        p = p;
        parses = parses;
        tail = ap (λ (r : Reading). r.tail) h;
        parameters = ap (λ (r : Reading). r.parameters) h;
        untimed = nil_is _ a.0;
        sel = sel;
        is = is;
        one = alone_is sel b.0;
        plain = plain_is (out-Select sel).first t.name c.0 (sole_is _ t.name (ap (λ (r : Reading). r.table) h));
        shown_so = d.0;
        tested_so = e.0;
        own = first_is _ f.0;
        found = found;
        typed = ap (typed_made t) (sym found) ∙ f.1;
      }
  by_statement p parses _ is h = absurd (let e : false ≡ true = ap (λ (r : Reading). r.is_plain) h in cc)

  by_parse : (r : Checked Parsed) → first sql ≡ r → reading t r ≡ all_read → IsSelection t sql n made
  by_parse (Ok p) parses h = by_statement p parses p.statement refl h
  by_parse (Err e) parses h = absurd (let e : false ≡ true = ap (λ (r : Reading). r.is_plain) h in cc)

  pub selection_is : IsReadAs t sql n made → IsSelection t sql n made
  selection_is h = by_parse (first sql) refl h

-- what it means wherever the table stands
pub read_means : (s : Schema) (t : Table) (at : ℕ) → IsIn s t.name t at → (sql : List ℕ) (n : ℕ) (group : Option Grouping) (terms project : List Term) (names : List Name) (collations : List (Option Collation))
    → IsReadAs t sql n (draft_in group t.tree terms project, names, collations) → Means s sql (make.Select (record { lets = []; body = query_in group t.tree terms project }) names)
read_means s t at stands sql n group terms project names collations read =
    let it = selection_is t sql n _ read in
    select_means_in s t.name t at stands sql it.p it.parses it.untimed it.sel it.is it.one it.plain group terms project names collations it.shown_so it.tested_so it.own it.found it.typed

-- it is one statement with so many parameters
pub read_whole : (t : Table) (sql : List ℕ) (n : ℕ) (made : Made) → IsReadAs t sql n made → (length sql ≤ (parsed sql).tail) × (length (parsed sql).names ≡ n)
read_whole t sql n made read =
    let it = selection_is t sql n made read in
    let same : parsed sql ≡ it.p = ap (parsed_or unparsed) it.parses in
    (subst (λ (k : ℕ). length sql ≤ k) (sym (ap (λ (p : Parsed). p.tail) same ∙ it.tail)) (le_refl (length sql)), ap (λ (p : Parsed). length p.names) same ∙ it.parameters)

-- ---- a DELETE and an UPDATE

-- whether the text has nothing but the table, columns that are set and a test, which table, and the rows that it picks in a schema of this table alone
pub record Change : Type 0 where
  pub is_plain : Bool
  pub table : Name
  pub picked : Checked Draft

abbrev no_change : Change
no_change = record { is_plain = false; table = []; picked = Err NoSuchTable }

abbrev typed_draft : Table → Checked Draft → Bool
typed_draft t (Ok d) = is_typed t (query_of d)
typed_draft t (Err e) = false

abbrev change_of : Table → Parsed → Statement → Change
change_of t p (written.Delete name test shown) =
    let picked = deleted (sole t) 0 t test in
    record { is_plain = is_nil p.formats && (is_nil shown && (test_reads_only t test && typed_draft t picked)); table = name; picked = picked }
change_of t p (written.Update name sets test shown) =
    let picked = updated (sole t) 0 t sets test in
    record { is_plain = is_nil p.formats && (is_nil shown && (sets_read_only t sets && (test_reads_only t test && typed_draft t picked))); table = name; picked = picked }
change_of t p _ = no_change

abbrev is_deletion : Statement → Bool
is_deletion (written.Delete name test shown) = true
is_deletion _ = false

abbrev change : Table → Checked Parsed → Bool × Change
change t (Ok p) = (is_deletion p.statement, change_of t p p.statement)
change t (Err e) = (false, no_change)

-- the text is read as a DELETE, or else as an UPDATE, that picks these rows of this table alone
abbrev pub IsReadToChange : Bool → Table → List ℕ → Draft → Type 0
IsReadToChange deletes t sql picked = change t (first sql) ≡ (deletes, record { is_plain = true; table = t.name; picked = Ok picked })

module _ (s : Schema) (t : Table) (at : ℕ) (stands : IsIn s t.name t at) (sql : List ℕ) (terms : List Term) where
  abbrev these : List Term → Change
  these shown = record { is_plain = true; table = t.name; picked = Ok (simple (Inner t.tree ∷ []) terms shown) }

  abbrev Deletes : Type 0
  Deletes = Means s sql (make.Delete at (record { lets = []; body = query_by t.tree terms (col 1 0 ∷ []) }))

  abbrev Updates : List Term → Type 0
  Updates project = Means s sql (make.Update at (record { lets = []; body = query_by t.tree terms project }))

  deletion_by : (p : Parsed) → first sql ≡ Ok p → (x : Statement) → p.statement ≡ x → is_deletion x ≡ true → change_of t p x ≡ these (col 1 0 ∷ []) → Deletes
  deletion_by p parses (written.Delete name test shown) is right h =
      let a = and_parts _ _ (ap (λ (c : Change). c.is_plain) h) in
      let b = and_parts _ _ a.1 in
      let c = and_parts _ _ b.1 in
      let found = ap (λ (c : Change). c.picked) h in
      let statement = is ∙ (λ i. written.Delete ((h i).table) test (nil_is shown b.0 i)) in
      delete_means s t.name t at stands sql p parses (nil_is _ a.0) test terms c.0 statement found (ap (typed_draft t) (sym found) ∙ c.1)
  deletion_by p parses _ is right h = absurd (cc)

  update_by : (project : List Term) (p : Parsed) → first sql ≡ Ok p → (x : Statement) → p.statement ≡ x → is_deletion x ≡ false → change_of t p x ≡ these project → Updates project
  update_by project p parses (written.Update name sets test shown) is right h =
      let a = and_parts _ _ (ap (λ (c : Change). c.is_plain) h) in
      let b = and_parts _ _ a.1 in
      let c = and_parts _ _ b.1 in
      let d = and_parts _ _ c.1 in
      let found = ap (λ (c : Change). c.picked) h in
      let statement = is ∙ (λ i. written.Update ((h i).table) sets test (nil_is shown b.0 i)) in
      update_means s t.name t at stands sql p parses (nil_is _ a.0) sets test terms project c.0 d.0 statement found (ap (typed_draft t) (sym found) ∙ d.1)
  update_by project p parses (written.Delete name test shown) is right h = absurd (cc)
  update_by project p parses _ is right h = absurd (let e : false ≡ true = ap (λ (c : Change). c.is_plain) h in cc)

  pub deletion_means : IsReadToChange true t sql (simple (Inner t.tree ∷ []) terms (col 1 0 ∷ [])) → Deletes
  deletion_means h = go (first sql) refl h
    where
      go : (r : Checked Parsed) → first sql ≡ r → change t r ≡ (true, these (col 1 0 ∷ [])) → Deletes
      go (Ok p) parses h = deletion_by p parses p.statement refl (ap (λ c. c.0) h) (ap (λ c. c.1) h)
      go (Err e) parses h = absurd (let e : false ≡ true = ap (λ c. c.0) h in cc)

  pub change_means : (project : List Term) → IsReadToChange false t sql (simple (Inner t.tree ∷ []) terms project) → Updates project
  change_means project h = go (first sql) refl h
    where
      go : (r : Checked Parsed) → first sql ≡ r → change t r ≡ (false, these project) → Updates project
      go (Ok p) parses h = update_by project p parses p.statement refl (ap (λ c. c.0) h) (ap (λ c. c.1) h)
      go (Err e) parses h = absurd (let e : false ≡ true = ap (λ c. c.1.is_plain) h in cc)

-- ---- an INSERT

abbrev is_abort : Conflict → Bool
is_abort conflict.Abort = true
is_abort _ = false

abort_is : (how : Conflict) → is_abort how ≡ true → how ≡ conflict.Abort
abort_is conflict.Abort h = refl
abort_is _ h = absurd (cc)

-- whether the text has nothing but the table, its columns and the rows, which table, and the rows as they are made
pub record Addition : Type 0 where
  pub is_plain : Bool
  pub table : Name
  pub made : Checked RowSource

abbrev no_addition : Addition
no_addition = record { is_plain = false; table = []; made = Err NoSuchTable }

abbrev addition_of : Schema → Table → Parsed → Statement → Addition
addition_of s t p (written.Insert how name columns all clauses shown) =
    record { is_plain = is_nil p.formats && (is_nil t.stamps.formats && (is_abort how && (is_nil clauses && is_nil shown))); table = name; made = new_rows s t (small p.names + 0) columns all }
addition_of s t p _ = no_addition

abbrev addition : Schema → Table → Checked Parsed → Addition
addition s t (Ok p) = addition_of s t p p.statement
addition s t (Err e) = no_addition

-- the text is read as an INSERT of these rows into the table
abbrev pub IsReadToAdd : Schema → Table → List ℕ → RowSource → Type 0
IsReadToAdd s t sql made = addition s t (first sql) ≡ record { is_plain = true; table = t.name; made = Ok made }

module _ (s : Schema) (t : Table) (at : ℕ) (stands : IsIn s t.name t at) (sql : List ℕ) (terms : List Term) (width : ℕ) where
  abbrev those : Addition
  those = record { is_plain = true; table = t.name; made = Ok (Values terms width) }

  abbrev Inserts : Type 0
  Inserts = Means s sql (make.Insert at (Values terms width))

  addition_by : (p : Parsed) → first sql ≡ Ok p → (x : Statement) → p.statement ≡ x → addition_of s t p x ≡ those → Inserts
  addition_by p parses (written.Insert how name columns all clauses shown) is h =
      let a = and_parts _ _ (ap (λ (c : Addition). c.is_plain) h) in
      let b = and_parts _ _ a.1 in
      let c = and_parts _ _ b.1 in
      let d = and_parts _ _ c.1 in
      let statement = is ∙ (λ i. written.Insert (abort_is how c.0 i) ((h i).table) columns all (nil_is clauses d.0 i) (nil_is shown d.1 i)) in
      insert_means s t.name t at stands sql p parses (nil_is _ a.0) columns all terms width statement (nil_is _ b.0) (ap (λ (c : Addition). c.made) h)
  addition_by p parses _ is h = absurd (let e : false ≡ true = ap (λ (c : Addition). c.is_plain) h in cc)

  pub addition_means : IsReadToAdd s t sql (Values terms width) → Inserts
  addition_means h = go (first sql) refl h
    where
      go : (r : Checked Parsed) → first sql ≡ r → addition s t r ≡ those → Inserts
      go (Ok p) parses h = addition_by p parses p.statement refl h
      go (Err e) parses h = absurd (let e : false ≡ true = ap (λ (c : Addition). c.is_plain) h in cc)
