-- What a count of the rows of one table answers: one row, which says how many rows pass its tests.
use Rattle.std.proofs.Common.{◌≡◌, ◌∙◌, ℕ, List, [], ◌∷◌, length, map, filter, Some, None, Any, IsPermutation, arith, sym, ap, subst}
use Rattle.std.specs.List.{AllZip, list_all}
use Rattle.std.proofs.lemmas.List.{length-map}
use Rattle.std.proofs.lemmas.List.Sorted.{length_permutation}
use Rattle.std.proofs.lemmas.Option.{same_Some}
use Rattle.sqlite_value.specs.declared.value.Value.TheVariants.{Null}
use Rattle.sqlite_value.specs.Order.{Row}
use Rattle.sqlite_trees.specs.Tree.{Trees}
use Rattle.sqlite_draft.specs.Query.{grouping_of}
use Rattle.sqlite_sql.specs.Aggregate.{count}
use Rattle.sqlite_sql.specs.Group.{Aggregate, IsSummary, Summarizes, value_over}
use Rattle.sqlite_sql.specs.Program.{overlay}
use Rattle.sqlite_sql.specs.Query.{IsAnswer, Output, output}
use Rattle.sqlite_sql.specs.Term.{Env, Term, eval, holds, lit}
use Rattle.sqlite.proofs.Callers.{one_permutation}
use Rattle.agv_store_schema.proofs.OneTable.{counting, query_in, their_count}
use Rattle.agv_store_sql.proofs.sql.QueryRows.{entry_passes, passing}
use Rattle.agv_store_sql.proofs.sql.ReadFailing.{NeverOverflows}

-- ---- the row of the one group

-- the values of its aggregates
values_are : (group : List Env) (values : Row) → AllZip (λ (a : Aggregate) v. value_over group a ≡ Some v) (grouping_of counting).aggregates values → values ≡ count (length group) ∷ []
values_are group [] h = absurd h
values_are group (v ∷ []) h = ap (λ w. w ∷ []) (same_Some _ _ (sym h.0) ∙ ap count (length-map group (eval (lit Null))))
values_are group (v ∷ w ∷ values) h = absurd h.1

rows_are : (group : List Env) (rows : List Row) → AllZip (IsSummary (grouping_of counting)) (group ∷ []) rows → rows ≡ (count (length group) ∷ []) ∷ []
rows_are group [] h = absurd h
rows_are group (row ∷ []) h = ap (λ r. r ∷ []) (h.0.2 ∙ values_are group h.0.0 h.0.1)
rows_are group (row ∷ other ∷ rows) h = absurd h.1

staged_are : (params : Row) (all staged : List Env) → Summarizes (grouping_of counting) params all staged → staged ≡ (params ∷ (count (length all) ∷ []) ∷ []) ∷ []
staged_are params all staged it =
    let group = it.grouping.0 in
    let rows : it.rows ≡ (count (length group) ∷ []) ∷ [] = rows_are group it.rows (subst (λ groups. AllZip (IsSummary (grouping_of counting)) groups it.rows) it.grouping.2 it.summaries) in
    it.having ∙ ap (λ rs. filter (λ env. list_all (holds env) []) (map (λ r. params ∷ r ∷ []) rs)) rows ∙ ap (λ n. (params ∷ (count n ∷ []) ∷ []) ∷ []) (length_permutation _ _ it.grouping.1)

any_one : {X : Type 0} (P : X → Type 0) (x : X) → Any P (x ∷ []) → P x
any_one P x h = let first : h.0 ≡ 0 = omega (arith, h.2) in subst P (sym (rw first at h.3)) h.4

-- a count always has a value, so it never overflows
pub never_overflows : NeverOverflows (Some counting)
never_overflows all over =
    let group = over.2.1 in
    let none = any_one (λ (a : Aggregate). value_over group a ≡ None) _ over.2.4 in
    absurd (cc none)

-- ---- the answer

pub counted_by : (tree : ℕ) (terms : List Term) (db : Trees) (params : Row) (rows : List Row) → IsAnswer (query_in (Some counting) tree terms their_count) (overlay db []) params rows
    → rows ≡ (count (length (filter (entry_passes terms params) (db tree))) ∷ []) ∷ []
counted_by tree terms db params rows a =
    let q = query_in (Some counting) tree terms their_count in
    let entries = filter (entry_passes terms params) (db tree) in
    let number = ap length (passing tree terms db params) ∙ length-map entries (λ e. params ∷ e ∷ []) in
    let staged = staged_are params _ a.staged a.grouped ∙ ap (λ n. (params ∷ (count n ∷ []) ∷ []) ∷ []) number in
    let kept = a.distinct ∙ ap (map (output q)) staged in
    let ordered = one_permutation _ a.ordered (subst (λ all. IsPermutation all a.ordered) kept a.same) in
    a.shown ∙ ap (map (λ (o : Output). o.1)) ordered
