-- What an INSERT, an UPDATE, a DELETE and a SELECT on one of the desk's tables do to its rows.
use Rattle.std.proofs.Common.{◌≡◌, ◌≢◌, ◌++◌, ℕ, suc, ℤ, Bool, true, false, not, MatchBool, cond, List, [], ◌∷◌, ◌/◌, length, map, drop, filter, slice_get, unwrap_or, Option, Some, None, Ok, refl, sym, ap, subst, ◌∙◌, IsPermutation}
use Rattle.std.specs.List.{AllByRecursion, list_all}
use Rattle.std.proofs.lemmas.Bool.{and_parts, not-true}
use Rattle.std.proofs.lemmas.List.{length-map}
use Rattle.std.proofs.lemmas.List.Sorted.{IsPermutation-append_left, IsPermutation-map, IsPermutation-sym, IsPermutation-trans, length_permutation}
use Rattle.sqlite_value.specs.declared.value.Value.TheVariants.{Null, Int}
use Rattle.sqlite_value.specs.Order.{Row}
use Rattle.sqlite_trees.specs.Tree.{Trees, put_row, rowid}
use Rattle.sqlite_trees.specs.View.{is_int}
use Rattle.sqlite_trees.proofs.ListLemmas.{IsPermutation-filter}
use Rattle.sqlite_sql.specs.Term.{Term, col, eval_all}
use Rattle.sqlite_sql.specs.Ops.{unary}
use Rattle.sqlite_schema.specs.declared.schema.Kind.TheVariants.{Integer}
use Rattle.sqlite_schema.specs.declared.schema.Keys.TheVariants.{Enforced}
use Rattle.sqlite_schema.specs.declared.schema.Table.{Table}
use Rattle.sqlite_schema.specs.declared.schema.Schema.{Schema}
use Rattle.sqlite_schema.specs.declared.command.Command.{Command}
use Rattle.sqlite_schema.specs.declared.command.Command.TheVariants.{Insert, Update, Delete, Select}
use Rattle.sqlite_schema.specs.declared.command.Source.TheVariants.{Values}
use Rattle.sqlite_rules.specs.Cast.{cast, cast_all, cast_row}
use Rattle.sqlite_rules.proofs.ListLemmas.{all_from, all_has}
use Rattle.sqlite_rules.specs.Edit.{id_in, next_rowid, taken_by, Edit, edit_of, Applies, numbered, put_all, are_fresh, is_taken, without_all}
use Rattle.sqlite_rules.specs.Action.{works}
use Rattle.sqlite_rules.specs.Calls.{ids_of}
use Rattle.sqlite_rules.specs.declared.error.Rowids.TheVariants.{Chosen, Above, Given}
use Rattle.sqlite_rules.specs.declared.error.Rowids.{Rowids}
use Rattle.sqlite.specs.Effect.{Database, IsDatabase, value_rows}
use Rattle.sqlite.specs.Rows.{Written, Task, Edited, rowids_for, count_of, stamped}
use Rattle.sqlite.specs.Does.{Tally, OnRows, Concludes, AtPlace}
use Rattle.sqlite.specs.State.{State, mode_of, Executes, Shown}
use Rattle.sqlite.proofs.Callers.{runs_as, reads_as, one_step}
use Rattle.agv_store_schema.specs.DeskRows.{RowidColumn, columns_by, shown_in, width_of, table_for, place_of, Placing, table_in, IsDesk, first_columns, HaveRows, Holds, KeepsOthers, TableHas, table_at, on_table, FitsTable}
use Rattle.agv_store_schema.specs.declared.table_name.TableName.{TableName}
use Rattle.agv_store_schema.proofs.OneTable.{Means, query_by}
use Rattle.agv_store_sql.proofs.RowMeanings.{from_slot, row_terms, over_terms, column_terms}
use Rattle.agv_store_sql.proofs.RowParameters.{columns_in_turn, one_row, params_in_turn, uncounted, unstamped}
use Rattle.agv_store_sql.proofs.sql.QueryRows.{entry_passes, passes, reads_within, filter_alike, answered_by}
use Rattle.agv_store_sql.proofs.sql.EntryEdits.{filter_of_map, map_of_map, one_more_row, fewer_rows}
use Rattle.agv_store_schema.proofs.OnTables.{added, added-permuted}
use Rattle.agv_store_schema.proofs.ColumnValues.{same_either_way, cast_all_keeps, all_columns}
use Rattle.agv_store_schema.proofs.DeskPlaces.{HasNoRowidColumn, is_among, one_of_a_tree, shown_as_kept, table_changes, table_has}
use Rattle.agv_store_sql.proofs.sql.NoReferences.{sets_off_nothing}
use Rattle.agv_store_schema.proofs.Running.{went, same_value}

-- ---- parts of what a statement does

-- nothing is written after the rows
settled : (task : Task) (s : State) (w : Written) (tally : Tally) (after : Database) → Concludes task (mode_of s) None w (Ok (tally, after)) → after ≡ record { schema = task.schema; trees = w.trees }
settled task s w tally after h =
    let tested = went h in
    let returned = went tested.2 in
    ap (λ (p : Tally × Database). p.1) (same_value returned.2)

-- and so many rows are counted
tallied : (task : Task) (s : State) (w : Written) (tally : Tally) (after : Database) → Concludes task (mode_of s) None w (Ok (tally, after)) → tally.rows ≡ Some (length w.rows)
tallied task s w tally after h =
    let tested = went h in
    let returned = went tested.2 in
    ap (λ (p : Tally × Database). p.0.rows) (same_value returned.2)

-- a query that shows the rowid first shows those of the entries that pass
same_ids : (terms more : List Term) (params : Row) (entries passing answer : List Row) → filter (entry_passes terms params) entries ≡ passing
    → IsPermutation (map (λ e. eval_all (col 1 0 ∷ more) (params ∷ e ∷ [])) (filter (entry_passes terms params) entries)) answer
    → IsPermutation (ids_of passing) (ids_of answer)
same_ids terms more params entries passing answer alike h =
    subst (λ xs. IsPermutation xs (ids_of answer)) (map_of_map (λ e. id_in (rowid e)) (λ e. eval_all (col 1 0 ∷ more) (params ∷ e ∷ [])) (filter (entry_passes terms params) entries) ∙ ap ids_of alike)
    (IsPermutation-map (λ e. id_in (rowid e)) _ _ h)

cast_null : cast Integer Null ≡ Null
unfolding unary
cast_null = same_either_way _ Null

chosen : (b : Bool) (top : ℤ) → b ≡ false → cond b (Above top) Chosen ≡ Chosen
chosen true top h = absurd (cc)
chosen false top h = refl

fresh_one : (entries : List Row) (entry : Row) → are_fresh entries (entry ∷ []) ≡ true → is_taken entries entry ≡ false
fresh_one entries entry h = not-true _ (and_parts _ _ h).0

second : (P Q : Type 0) (b c : Bool) → b ≡ false → MatchBool (cond b c false) P Q → Q
second P Q true c h x = absurd (cc)
second P Q false c h x = x

-- rows whose rowids are given keep them
numbered_given : (entries rows : List Row) → numbered Given entries rows ≡ rows
numbered_given entries [] = refl
numbered_given entries (r ∷ rows) = ap (λ (more : List Row). r ∷ more) (numbered_given (put_row r entries) rows)

-- entries are added one after the other
more_rows : (shown : Row → Row) (news entries rows : List Row) → are_fresh entries news ≡ true → list_all (λ r. is_int (rowid r)) news ≡ true → HaveRows shown entries rows → HaveRows shown (put_all entries news) (added (map shown news) rows)
more_rows shown [] entries rows fresh whole h = h
more_rows shown (r ∷ news) entries rows fresh whole h =
    let free = and_parts _ _ fresh in
    let int = and_parts _ _ whole in
    more_rows shown news (put_row r entries) (shown r ∷ rows) free.1 int.1 (one_more_row shown r entries rows (not-true _ free.0) int.0 h)

-- what is written over an entry, as a query shows it
abbrev written_in : Table → Row → Row
written_in table s = cast_row table (drop 1 s)

-- what is written over the entries that pass is the row, each time
copied : (shown : Row → Row) (table : Table) (row : Row) (over terms : List Term) → ((e : Row) → shown (written_in table (eval_all over (row ∷ e ∷ []))) ≡ row) → (entries rows answer : List Row)
    → filter (entry_passes terms row) entries ≡ filter (λ e. passes terms row (shown e)) entries → IsPermutation rows (map shown entries)
    → IsPermutation (map (λ e. eval_all over (row ∷ e ∷ [])) (filter (entry_passes terms row) entries)) answer
    → IsPermutation (map (λ _. row) (filter (passes terms row) rows)) (map (λ s. shown (written_in table s)) answer)
copied shown table row over terms each entries rows answer alike was found =
    let p = passes terms row in
    let asked : Row → Row = λ e. eval_all over (row ∷ e ∷ []) in
    let g : Row → Row = λ s. shown (written_in table s) in
    let same : map (λ _. row) (filter p (map shown entries)) ≡ map g (map asked (filter (entry_passes terms row) entries)) =
    ap (map (λ _. row)) (filter_of_map p shown entries)
    ∙ map_of_map (λ _. row) shown (filter (λ e. p (shown e)) entries)
    ∙ (λ i. map (λ e. sym (each e) i) (filter (λ e. p (shown e)) entries))
    ∙ ap (map (λ e. g (asked e))) (sym alike)
    ∙ sym (map_of_map g asked (filter (entry_passes terms row) entries)) in
    IsPermutation-trans _ _ _ (IsPermutation-map (λ _. row) _ _ (IsPermutation-filter p _ _ was)) (subst (λ xs. IsPermutation xs (map g answer)) (sym same) (IsPermutation-map g _ _ found))

-- what holds of each table but one of the desk's holds of each that is none of them
of_fewer : (tree : TableName → ℕ) (name : TableName) (P : Table → Type 0) (tables : List Table) → AllByRecursion (λ (t : Table). t.tree ≢ tree name → P t) tables
    → AllByRecursion (λ (t : Table). ((n : TableName) → t.tree ≢ tree n) → P t) tables
of_fewer tree name P tables h = all_from _ tables (λ t there none. all_has _ tables t h there (none name))

-- ---- the statements

-- what a statement that changes the desk's rows does
pub record Lands (desk : Placing) (old new : Database) (change : List (List Row) → List (List Row)) : Type 0 where
  pub rows : (lists : List (List Row)) → Holds desk old lists → Holds desk new (change lists)
  pub others : KeepsOthers desk old new
  pub listed : IsDatabase new

module _ (desk : Placing) (name : TableName) where
  -- the entries that pass these tests are those whose rows do
  abbrev pub PassAlike : List Term → Row → Type 0
  PassAlike terms params = (entries : List Row) → filter (entry_passes terms params) entries ≡ filter (λ e. passes terms params (shown_in desk name e)) entries

  pub pass_alike : HasNoRowidColumn desk name → (terms : List Term) (params : Row) → list_all (reads_within (width_of name)) terms ≡ true → PassAlike terms params
  pass_alike none terms params within entries =
      filter_alike (width_of name) terms params within entries ∙ ap (λ (f : Row → Row). filter (λ e. passes terms params (f e)) entries) (sym (shown_as_kept desk name none))

  -- what a query shows of the entries are their rows
  abbrev pub ShowsRows : List Term → Row → Type 0
  ShowsRows project params = (e : Row) → eval_all project (params ∷ e ∷ []) ≡ shown_in desk name e

  pub shows_columns : HasNoRowidColumn desk name → (params : Row) → ShowsRows (column_terms name) params
  shows_columns none params e = columns_in_turn 1 (width_of name) params e ∙ ap (λ (f : Row → Row). f e) (sym (shown_as_kept desk name none))

module _ (desk : Placing) (is : IsDesk desk) (name : TableName) (old new : State) (has : old.now.schema ≡ desk.schema) where
  abbrev table : Table
  table = table_in desk name

  abbrev at : ℕ
  at = (is.stands name).at

  abbrev width : ℕ
  width = width_of name

  abbrev shown_row : Row → Row
  shown_row = shown_in desk name

  abbrev task_for : Row → Task
  task_for params = record { limit = old.step_limit; keys = Enforced; schema = old.now.schema; table = table; params = params }

  sets_nothing_off : (olds news : List Row) → works old.now.schema Enforced 0 table.tree olds news ≡ []
  sets_nothing_off olds news =
      let here = is_among desk.schema.tables at table (is.stands name).there in
      subst (λ s. works s Enforced 0 table.tree olds news ≡ []) (sym has)
      (sets_off_nothing table desk.schema (λ u there same. one_of_a_tree desk.schema.tables is.apart u table there here same) Enforced olds news (is.stands name).unreferred)

  on_table_here : (params : Row) (command : Command) (out : Tally × Database)
      → AtPlace (λ t. OnRows (record { limit = old.step_limit; keys = Enforced; schema = old.now.schema; table = t; params = params }) (mode_of old) None command old.now.trees) (slice_get old.now.schema.tables at) (Ok out)
      → OnRows (task_for params) (mode_of old) None command old.now.trees (Ok out)
  on_table_here params command out h =
      subst (λ (o : Option Table). AtPlace (λ t. OnRows (record { limit = old.step_limit; keys = Enforced; schema = old.now.schema; table = t; params = params }) (mode_of old) None command old.now.trees) o (Ok out))
      (ap (λ (s : Schema). slice_get s.tables at) has ∙ (is.stands name).there) h

  applied : (edit : Edit) (next : Trees) → edit.table ≡ table → Edited old.now.schema Enforced old.now.trees edit (Ok next) → Applies old.now.schema Enforced old.now.trees edit next
  applied edit next here h =
      one_step old.now.schema Enforced old.now.trees next edit
      (subst (λ (t : Table). works old.now.schema Enforced 0 t.tree (taken_by old.now.trees edit) edit.news ≡ []) (sym here) (sets_nothing_off (taken_by old.now.trees edit) edit.news)) h

  lands : (edit : Edit) (next : Trees) (f : List Row → List Row) → edit.table ≡ table → Applies old.now.schema Enforced old.now.trees edit next
      → ((rows : List Row) → TableHas desk old.now.trees name rows → TableHas desk next name (f rows))
      → new.now ≡ record { schema = old.now.schema; trees = next } → IsDatabase new.now → Lands desk old.now new.now (on_table (place_of name) f)
  lands edit next f here a step now listed =
      let same = subst (λ s. AllByRecursion (λ (t : Table). t.tree ≢ table.tree → next t.tree ≡ old.now.trees t.tree) s.tables) has (rw here at a.tables) in
      record {
        rows = λ lists h. rw now (record { schema_is = has; rows = table_changes desk is name old.now.trees next f step same lists h.rows });
        others = rw now (record { schema_is = refl; rows = of_fewer desk.tree name (λ t. next t.tree ≡ old.now.trees t.tree) desk.schema.tables same });
        listed = listed;
      }

  pub rows_deleted : (sql : List ℕ) (params : Row) (terms : List Term) → PassAlike desk name terms params
      → Means desk.schema sql (Delete at (record { lets = []; body = query_by table.tree terms (col 1 0 ∷ []) }))
      → (count : ℕ) → Executes sql params old new (Ok count) → Lands desk old.now new.now (on_table (place_of name) (filter (λ row. not (passes terms params row))))
  rows_deleted sql params terms alike means count ran =
      let command = Delete at (record { lets = []; body = query_by table.tree terms (col 1 0 ∷ []) }) in
      let db = old.now.trees in
      let w = runs_as sql params old new desk.schema has command means.is means.plain count ran in
      let done = went (on_table_here params command (w.tally, new.now) w.changed) in
      let queried = went done.1 in
      let gone = ids_of queried.0 in
      let edit = edit_of db table gone Given 0 [] in
      let edited = went queried.2 in
      let next = edited.0 in
      let a = applied edit next refl edited.1 in
      let trees : done.0.trees ≡ next = ap (λ (it : Written). it.trees) (same_value edited.2) in
      let now : new.now ≡ record { schema = old.now.schema; trees = next } = settled (task_for params) old done.0 w.tally new.now done.2 ∙ ap (λ (t : Trees). record { schema = old.now.schema; trees = t }) trees in
      let found = answered_by table.tree terms (col 1 0 ∷ []) db params queried.0 (queried.1.answer Null) in
      lands edit next (filter (λ row. not (passes terms params row))) refl a (λ rows was.
      rw a.rows (fewer_rows shown_row (passes terms params) (db table.tree) rows was gone (same_ids terms [] params (db table.tree) _ queried.0 (alike (db table.tree)) found))) now w.sound

  pub rows_updated : HasNoRowidColumn desk name → (sql : List ℕ) (row : Row) → FitsTable name row → (terms : List Term) → list_all (reads_within width) terms ≡ true
      → Means desk.schema sql (Update at (record { lets = []; body = query_by table.tree terms (over_terms name) }))
      → (count : ℕ) → Executes sql row old new (Ok count)
      → Lands desk old.now new.now (on_table (place_of name) (λ rows. map (λ _. row) (filter (passes terms row) rows) ++ filter (λ other. not (passes terms row other)) rows))
      × ((lists : List (List Row)) → Holds desk old.now lists → count ≡ length (filter (passes terms row) (table_at (place_of name) lists)))
  rows_updated none sql row fit terms within means count ran =
      let command = Update at (record { lets = []; body = query_by table.tree terms (over_terms name) }) in
      let db = old.now.trees in
      let entries = db table.tree in
      let p = passes terms row in
      let w = runs_as sql row old new desk.schema has command means.is means.plain count ran in
      let done = went (on_table_here row command (w.tally, new.now) w.changed) in
      let queried = went done.1 in
      let answer = queried.0 in
      let gone = ids_of answer in
      let edit = edit_of db table gone Given 1 answer in
      let edited = went queried.2 in
      let next = edited.0 in
      let a = applied edit next refl edited.1 in
      let written : done.0 ≡ record { trees = next; rows = edit.news; last = None } = same_value edited.2 in
      let now : new.now ≡ record { schema = old.now.schema; trees = next } =
      settled (task_for row) old done.0 w.tally new.now done.2 ∙ ap (λ (it : Written). record { schema = old.now.schema; trees = it.trees }) written in
      let found = answered_by table.tree terms (over_terms name) db row answer (queried.1.answer Null) in
      let whole : first_columns width row ≡ row = all_columns (table_for name).columns row fit in
      let fits : cast_all table.columns row ≡ row = ap (λ (r : Option RowidColumn). cast_all (columns_by r (table_for name).columns) row) none ∙ cast_all_keeps (table_for name).columns row fit in
      let each : (e : Row) → shown_row (written_in table (eval_all (over_terms name) (row ∷ e ∷ []))) ≡ row =
      λ e. ap (λ (f : Row → Row). f (written_in table (eval_all (over_terms name) (row ∷ e ∷ [])))) (shown_as_kept desk name none)
      ∙ ap (λ (cells : Row). first_columns width (cast_all table.columns cells)) (params_in_turn 0 width row (e ∷ []) ∙ whole) ∙ ap (first_columns width) fits ∙ whole in
      let news : map shown_row edit.news ≡ map (λ s. shown_row (written_in table s)) answer =
      ap (map shown_row) (numbered_given (without_all entries gone) (map (written_in table) answer)) ∙ map_of_map shown_row (written_in table) answer in
      let alike = pass_alike desk name none terms row within entries in
      let copies : (rows : List Row) → HaveRows shown_row entries rows → IsPermutation (map (λ _. row) (filter p rows)) (map shown_row edit.news) =
      λ rows was. subst (IsPermutation (map (λ _. row) (filter p rows))) (sym news) (copied shown_row table row (over_terms name) terms each entries rows answer alike was.1 found) in (
        lands edit next (λ rows. map (λ _. row) (filter p rows) ++ filter (λ other. not (p other)) rows) refl a (λ rows was.
            let rest = filter (λ other. not (p other)) rows in
            let fewer = fewer_rows shown_row p entries rows was gone (same_ids terms (col 1 0 ∷ from_slot 0 0 width) row entries _ answer alike found) in
            let more = more_rows shown_row edit.news (without_all entries gone) rest a.fresh a.keyed fewer in
            subst (λ es. HaveRows shown_row es (map (λ _. row) (filter p rows) ++ rest)) (sym a.rows) (
              more.0,
              IsPermutation-trans _ _ _
                  (IsPermutation-trans _ _ _ (IsPermutation-append_left rest (map (λ _. row) (filter p rows)) (map shown_row edit.news) (copies rows was)) (IsPermutation-sym _ _ (added-permuted (map shown_row edit.news) rest)))
                  more.1,
            )) now w.sound,
        λ lists h.
            let rows = table_at (place_of name) lists in
            w.counted ∙ ap (λ (o : Option ℕ). unwrap_or o 0) (tallied (task_for row) old done.0 w.tally new.now done.2) ∙ ap (λ (it : Written). length it.rows) written
            ∙ sym (length-map edit.news shown_row) ∙ length_permutation _ _ (copies rows (table_has desk name db lists h.rows)) ∙ length-map (filter p rows) (λ _. row),
      )

  -- what an INSERT of one row leaves: it stands as this entry, whose rowid is new
  pub record Adds (given entry : Row) : Type 0 where
    pub next : Trees
    pub step : Applies old.now.schema Enforced old.now.trees (edit_of old.now.trees table [] Chosen 0 (given ∷ [])) next
    pub news : (edit_of old.now.trees table [] Chosen 0 (given ∷ [])).news ≡ entry ∷ []
    pub now : new.now ≡ record { schema = old.now.schema; trees = next }
    pub sound : IsDatabase new.now

  pub one_added : (sql : List ℕ) (params : Row) (terms : List Term) (given entry : Row) → Means desk.schema sql (Insert at (Values terms (suc width)))
      → value_rows (stamped table params) (suc width) (length terms / suc width) terms ≡ given ∷ [] → (edit_of old.now.trees table [] Chosen 0 (given ∷ [])).news ≡ entry ∷ []
      → (count : ℕ) → Executes sql params old new (Ok count) → Adds given entry
  one_added sql params terms given entry means is news count ran =
      let command = Insert at (Values terms (suc width)) in
      let db = old.now.trees in
      let w = runs_as sql params old new desk.schema has command means.is means.plain count ran in
      let done = went (on_table_here params command (w.tally, new.now) w.changed) in
      let source = went done.1 in
      let counter = went source.2 in
      let edited = went counter.2 in
      let counted = went edited.2 in
      let mid = edited.0 in
      let first = edit_of db table [] (rowids_for table (count_of counter.0)) 0 source.0 in
      let edit = edit_of db table [] Chosen 0 (given ∷ []) in
      let one : source.0 ≡ given ∷ [] = source.1.1 ∙ is in
      let same : first ≡ edit = ap (λ (how : Rowids). edit_of db table [] how 0 source.0) (chosen table.is_counted (count_of counter.0) (uncounted name)) ∙ ap (edit_of db table [] Chosen 0) one in
      let quiet = second _ _ table.is_counted _ (uncounted name) counted.1 in
      let trees : done.0.trees ≡ mid = ap (λ (it : Written). it.trees) (same_value counted.2) ∙ same_value quiet in
      record {
        next = mid;
        step = applied edit mid refl (subst (λ (e : Edit). Edited old.now.schema Enforced db e (Ok mid)) same edited.1);
        news = news;
        now = settled (task_for params) old done.0 w.tally new.now done.2 ∙ ap (λ (t : Trees). record { schema = old.now.schema; trees = t }) trees;
        sound = w.sound;
      }

  module _ (given entry : Row) (it : Adds given entry) where
    abbrev entries : List Row
    entries = old.now.trees table.tree

    -- its rowid is new, and it stands with the entries that were there
    pub rowid_is_new : is_taken entries entry ≡ false
    rowid_is_new = fresh_one entries entry (subst (λ ns. are_fresh entries ns ≡ true) it.news it.step.fresh)

    pub stands_with_them : it.next table.tree ≡ put_row entry entries
    stands_with_them = it.step.rows ∙ ap (put_all entries) it.news

    pub lands_added : (row : Row) → is_int (rowid entry) ≡ true → shown_row entry ≡ row → Lands desk old.now new.now (on_table (place_of name) (λ rows. row ∷ rows))
    lands_added row whole is = lands (edit_of old.now.trees table [] Chosen 0 (given ∷ [])) it.next (λ rows. row ∷ rows) refl it.step (λ rows was.
        subst (λ es. HaveRows shown_row es (row ∷ rows)) (sym stands_with_them)
        (subst (λ r. HaveRows shown_row (put_row entry entries) (r ∷ rows)) is (one_more_row shown_row entry entries rows rowid_is_new whole was))) it.now it.sound

  -- a row under a rowid that the database chooses
  abbrev pub new_entry : Row → Row
  new_entry row = Int (next_rowid (old.now.trees table.tree)) ∷ row

  abbrev pub Inserted : Row → Type 0
  Inserted row = Adds (Null ∷ row) (new_entry row)

  pub one_inserted : HasNoRowidColumn desk name → (sql : List ℕ) (row : Row) → FitsTable name row
      → Means desk.schema sql (Insert at (Values (row_terms name) (suc width)))
      → (count : ℕ) → Executes sql row old new (Ok count) → Inserted row
  one_inserted none sql row fit means count ran =
      let whole : first_columns width row ≡ row = all_columns (table_for name).columns row fit in
      let fits : cast_all table.columns row ≡ row = ap (λ (r : Option RowidColumn). cast_all (columns_by r (table_for name).columns) row) none ∙ cast_all_keeps (table_for name).columns row fit in
      one_added sql row (row_terms name) (Null ∷ row) (new_entry row) means
      (ap (λ ps. value_rows ps (suc width) (length (row_terms name) / suc width) (row_terms name)) (unstamped name (desk.tree name) row) ∙ one_row name row
      ∙ ap (λ (r : Row). (Null ∷ r) ∷ []) (params_in_turn 0 width row [] ∙ whole))
      (rw (cast_null, fits)) count ran

  pub row_inserted : HasNoRowidColumn desk name → (sql : List ℕ) (row : Row) → FitsTable name row
      → Means desk.schema sql (Insert at (Values (row_terms name) (suc width)))
      → (count : ℕ) → Executes sql row old new (Ok count) → Lands desk old.now new.now (on_table (place_of name) (λ rows. row ∷ rows))
  row_inserted none sql row fit means count ran =
      lands_added (Null ∷ row) (new_entry row) (one_inserted none sql row fit means count ran) row refl
      (ap (λ (f : Row → Row). f (new_entry row)) (shown_as_kept desk name none) ∙ all_columns (table_for name).columns row fit)

module _ (desk : Placing) (name : TableName) (old new : State) (has : old.now.schema ≡ desk.schema) where
  abbrev tree : ℕ
  tree = desk.tree name

  -- the rows that pass, in some order, of a table that may stand without the others
  pub rows_shown_alone : (sql : List ℕ) (params : Row) (terms project : List Term) (names : List (List ℕ)) → PassAlike desk name terms params → ShowsRows desk name project params
      → Means desk.schema sql (Select (record { lets = []; body = query_by tree terms project }) names)
      → (rows : List Row) → Shown sql params old new rows → (there : List Row) → TableHas desk old.now.trees name there
      → IsPermutation (filter (passes terms params) there) rows
  rows_shown_alone sql params terms project names alike each means rows shown there here =
      let q = query_by tree terms project in
      let got = reads_as sql params old new desk.schema has (Select (record { lets = []; body = q }) names) means.is means.plain means.own rows shown in
      let found = answered_by tree terms project old.now.trees params rows (got.answer Null) in
      let entries = old.now.trees tree in
      let same : map (λ e. eval_all project (params ∷ e ∷ [])) (filter (entry_passes terms params) entries) ≡ filter (passes terms params) (map (shown_in desk name) entries) =
      (λ i. map (λ e. each e i) (filter (entry_passes terms params) entries))
      ∙ ap (map (shown_in desk name)) (alike entries)
      ∙ sym (filter_of_map (passes terms params) (shown_in desk name) entries) in
      IsPermutation-trans _ _ _ (IsPermutation-filter (passes terms params) _ _ here.1) (subst (λ xs. IsPermutation xs rows) same found)

  -- the same of one of the lists
  pub rows_shown : (sql : List ℕ) (params : Row) (terms project : List Term) (names : List (List ℕ)) → PassAlike desk name terms params → ShowsRows desk name project params
      → Means desk.schema sql (Select (record { lets = []; body = query_by tree terms project }) names)
      → (rows : List Row) → Shown sql params old new rows → (lists : List (List Row)) → Holds desk old.now lists
      → IsPermutation (filter (passes terms params) (table_at (place_of name) lists)) rows
  rows_shown sql params terms project names alike each means rows shown lists h =
      rows_shown_alone sql params terms project names alike each means rows shown (table_at (place_of name) lists) (table_has desk name old.now.trees lists h.rows)
