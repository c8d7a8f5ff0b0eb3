-- Rows that are shown inside a transaction, and are there already: they are as if they were written.
use Rattle.std.proofs.Common.{◌∙◌, ℕ, zero, suc, List, [], ◌∷◌, not, filter, IsTrue, IsPermutation, refl, sym, subst}
use Rattle.std.proofs.lemmas.List.Sorted.{IsPermutation-append_left, IsPermutation-filter_both, IsPermutation-refl, IsPermutation-sym, IsPermutation-trans}
use Rattle.sqlite_value.specs.Order.{Row}
use Rattle.sqlite.specs.Effect.{IsDatabase}
use Rattle.sqlite.specs.State.{State, IsUnchanged}
use Rattle.agv_store_schema.specs.DeskRows.{Answers, Holds, KeepsOthers, Makes, has_columns, on_table, place_of, table_at, with_rows, without_rows}
use Rattle.agv_store_rows.specs.Rows.{AreAlike}
use Rattle.agv_store_schema.specs.declared.table_name.TableName.{TableName}
use Rattle.agv_store_schema.proofs.OnTables.{added, added-permuted, on_table-twice, with_rows-added}
use Rattle.agv_store_rows.proofs.ListsHeld.{alike_itself, held_alike}
use Rattle.agv_store_sql.proofs.DeskStatements.{keeps_others_as_is, makes_then}

-- ---- nothing is done

makes_unchanged : (a b : State) → IsUnchanged a b → IsTrue a.in_transaction → Makes (λ lists. lists) a b
makes_unchanged a b same inside =
    let now = sym same.0.now_is in
    record {
      made = λ desk is lists h. subst (λ db. Holds desk db lists) now h;
      others = λ desk is has. subst (KeepsOthers desk a.now) now (keeps_others_as_is desk a.now);
      listed = λ desk is has whole. subst IsDatabase now whole;
      kept = same.0.committed_is;
      mode = subst IsTrue (sym same.0.mode) inside;
    }

-- what is made after it is made after what was before it
pub makes_after : (change : List (List Row) → List (List Row)) (a b c : State) → IsUnchanged a b → IsTrue a.in_transaction → Makes change b c → Makes change a c
makes_after change a b c same inside made = makes_then (λ lists. lists) change a b c (makes_unchanged a b same inside) made

-- ---- rows that are there already

changed-alike : (at : ℕ) (f : List Row → List Row) (lists : List (List Row)) → IsPermutation (table_at at lists) (f (table_at at lists)) → AreAlike lists (on_table at f lists)
changed-alike at f [] h = tt
changed-alike zero f (rows ∷ lists) h = (h, alike_itself lists)
changed-alike (suc at) f (rows ∷ lists) h = (IsPermutation-refl rows, changed-alike at f lists h)

-- where the rows that go are those that come, the tables have the same rows
pub stay-alike : (name : TableName) (columns : List ℕ) (key : Row) (more : List Row) (lists : List (List Row))
    → IsPermutation (filter (has_columns columns key) (table_at (place_of name) lists)) more → AreAlike lists (with_rows name more (without_rows name columns key lists))
stay-alike name columns key more lists h =
    let at = place_of name in
    let passes = has_columns columns key in
    let fails = λ (row : Row). not (has_columns columns key row) in
    let all = table_at at lists in
    let whole : IsPermutation all (added more (filter fails all)) =
    IsPermutation-trans _ _ _ (IsPermutation-filter_both passes fails (λ row. refl) all)
    (IsPermutation-trans _ _ _ (IsPermutation-append_left (filter fails all) (filter passes all) more h) (IsPermutation-sym _ _ (added-permuted more (filter fails all)))) in
    subst (AreAlike lists) (sym (with_rows-added name more (without_rows name columns key lists) ∙ on_table-twice at (added more) (filter fails) lists))
    (changed-alike at (λ rows. added more (filter fails rows)) lists whole)

-- the rows that are shown are those that would be written in their place
pub rows_stay : (name : TableName) (columns : List ℕ) (key : Row) (more : List Row) (a b : State) → IsUnchanged a b → IsTrue a.in_transaction
    → Answers (λ lists. filter (has_columns columns key) (table_at (place_of name) lists)) a more → Makes (λ lists. with_rows name more (without_rows name columns key lists)) a b
rows_stay name columns key more a b same inside shown =
    let nothing = makes_unchanged a b same inside in
    record {
      made = λ desk is lists h. held_alike desk b.now lists (with_rows name more (without_rows name columns key lists)) (stay-alike name columns key more lists (shown desk is lists h)) (nothing.made desk is lists h);
      others = nothing.others;
      listed = nothing.listed;
      kept = nothing.kept;
      mode = nothing.mode;
    }
