-- How many of a table's rows a text counts, wherever the desk's tables stand, and why it fails.
use Rattle.std.proofs.Common.{◌≡◌, ◌∙◌, ℕ, Bool, List, [], ◌∷◌, length, filter, Some, Ok, Err, Result, IfOk, IfErr, Vec, Global, IsPermutation, sym, ap, subst}
use Rattle.std.proofs.lemmas.List.{length-map}
use Rattle.std.proofs.lemmas.List.Sorted.{IsPermutation-refl, length_permutation}
use Rattle.sqlite_value.specs.declared.value.Value.TheVariants.{Null}
use Rattle.sqlite_value.specs.Order.{Row}
use Rattle.sqlite_trees.proofs.ListLemmas.{IsPermutation-filter}
use Rattle.sqlite_sql.specs.Aggregate.{count}
use Rattle.sqlite_schema.specs.declared.command.Command.TheVariants.{Select}
use Rattle.sqlite.specs.declared.error.Error.{Error}
use Rattle.sqlite.specs.State.{FailsToQuery, Shown, State}
use Rattle.sqlite.proofs.Callers.{reads_as}
use Rattle.agv_store_schema.specs.DeskRows.{Answers, IsDesk, Placing, place_of, shown_in, table_at}
use Rattle.agv_store_schema.specs.Errors.{IsOfStore}
use Rattle.agv_store_sql.specs.CountQueries.{columns_counted, count_shown, count_text, table_counted}
use Rattle.agv_store_sql.specs.RowQueries.{FitsColumns}
use Rattle.agv_store_schema.specs.declared.rows_counted.RowsCounted.{RowsCounted}
use Rattle.agv_store_schema.proofs.DeskPlaces.{is_in, one_stands, table_has}
use Rattle.agv_store_sql.proofs.sql.CountRows.{counted_by, never_overflows}
use Rattle.agv_store_sql.proofs.sql.EntryEdits.{filter_of_map}
use Rattle.agv_store_sql.proofs.sql.Failing.{IsCaused}
use Rattle.agv_store_schema.proofs.OneTable.{counting, query_in, their_count}
use Rattle.agv_store_sql.proofs.sql.QueryRows.{entry_passes, passes}
use Rattle.agv_store_sql.proofs.sql.ReadFailing.{IsWholeText, fits_length, on_err_all, read_caused_in}
use Rattle.agv_store_sql.proofs.CountMeanings.{count_asks, count_names, count_no_rowid_column, count_passes, count_terms, count_typed, count_whole, count_within}
use Rattle.agv_store_sql.proofs.RowForms.{pass_alike}

module _ (query : RowsCounted) (params : Row) (old new : State) where
  counted_at : (rows : List Row) → Shown (count_text query) params old new rows → Answers (count_shown query params) old rows
  counted_at rows shown = λ desk is lists h.
      let name = table_counted query in
      let terms = count_terms query in
      let entries = old.now.trees (desk.tree name) in
      let means = count_asks query desk.schema (is.stands name).at (desk.tree name) (desk.keys name) (is_in desk is name) in
      let command = Select (record { lets = []; body = query_in (Some counting) (desk.tree name) terms their_count }) count_names in
      let got = reads_as (count_text query) params old new desk.schema h.schema_is command means.is means.plain means.own rows shown in
      let found = counted_by (desk.tree name) terms old.now.trees params rows (got.answer Null) in
      let here = table_has desk name old.now.trees lists h.rows in
      let number : length (filter (entry_passes terms params) entries) ≡ length (filter (passes terms params) (table_at (place_of name) lists)) =
      ap length (pass_alike desk name (count_no_rowid_column query (desk.keys name)) terms params (count_within query) entries)
      ∙ sym (length-map (filter (λ e. passes terms params (shown_in desk name e)) entries) (shown_in desk name))
      ∙ ap length (sym (filter_of_map (passes terms params) (shown_in desk name) entries))
      ∙ length_permutation _ _ (IsPermutation-filter (passes terms params) _ _ here.1) in
      let counted = found ∙ ap (λ n. (count n ∷ []) ∷ []) (number ∙ ap (λ (p : Row → Bool). length (filter p (table_at (place_of name) lists))) (count_passes query params)) in
      subst (IsPermutation (count_shown query params lists)) (sym counted) (IsPermutation-refl (count_shown query params lists))

  pub count_given : (r : Result (Vec Row Global) Error) (sql : List ℕ) → sql ≡ count_text query → IfOk r (λ rows. Shown sql params old new rows.items) → IfOk r (λ rows. Answers (count_shown query params) old rows.items)
  count_given (Ok rows) sql text shown = counted_at rows.items (subst (λ t. Shown t params old new rows.items) text shown)
  count_given (Err e) sql text shown = tt

  pub count_caused : (r : Result (Vec Row Global) Error) (sql : List ℕ) → sql ≡ count_text query → IfErr r (FailsToQuery sql params old new)
      → IfErr r (λ e. IsOfStore e → (desk : Placing) → IsDesk desk → old.now.schema ≡ desk.schema → FitsColumns (table_counted query) (columns_counted query) params → IsCaused old new)
  count_caused r sql text = on_err_all r (λ e h stored desk is has fit.
      read_caused_in (Some counting) never_overflows (table_counted query) (count_terms query) their_count count_names (count_text query) params
      (subst (IsWholeText (count_text query)) (sym (fits_length _ params fit)) (count_whole query)) (count_typed query params fit) old new e desk (one_stands desk is (table_counted query)) has
      (count_asks query desk.schema (is.stands (table_counted query)).at (desk.tree (table_counted query)) (desk.keys (table_counted query)) (is_in desk is (table_counted query))) stored
      (subst (λ t. FailsToQuery t params old new e) text h))
