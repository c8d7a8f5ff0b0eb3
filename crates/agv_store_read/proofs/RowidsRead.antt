-- The rowids that a text shows are those of the table's entries, wherever the desk's tables stand.
use Rattle.std.proofs.Common.{◌≡◌, ◌∙◌, ℕ, List, [], ◌∷◌, map, Result, Ok, Err, IfOk, IfErr, Vec, Global, refl, ap, subst, IsPermutation}
use Rattle.sqlite_value.specs.Order.{Row}
use Rattle.sqlite_value.specs.declared.value.Value.TheVariants.{Null}
use Rattle.sqlite_sql.specs.Term.{eval_all}
use Rattle.sqlite_schema.specs.declared.command.Command.TheVariants.{Select}
use Rattle.sqlite_trees.specs.Tree.{rowid}
use Rattle.sqlite.specs.declared.error.Error.{Error}
use Rattle.sqlite.specs.State.{FailsToQuery, State, Shown}
use Rattle.sqlite.proofs.Callers.{reads_as}
use Rattle.agv_store_schema.specs.DeskRows.{StandApart, Placing}
use Rattle.agv_store_schema.specs.Errors.{IsOfStore}
use Rattle.agv_store_read.specs.Rowids.{ShowRowids, rowids_text}
use Rattle.agv_store_schema.specs.declared.table_name.TableName.{TableName}
use Rattle.agv_store_schema.proofs.DeskPlaces.{is_in_alone}
use Rattle.agv_store_sql.proofs.sql.EntryEdits.{filter_nothing}
use Rattle.agv_store_sql.proofs.sql.Failing.{IsCaused}
use Rattle.agv_store_schema.proofs.OneTable.{query_by}
use Rattle.agv_store_sql.proofs.sql.QueryRows.{answered_by}
use Rattle.agv_store_sql.proofs.sql.ReadFailing.{read_caused}
use Rattle.agv_store_read.proofs.RowidMeanings.{rowid_names, rowid_terms, rowids_asked, rowids_typed, rowids_whole}

module _ (params : Row) (old new : State) (name : TableName) where
  ids_alone : (entries : List Row) → map (λ e. eval_all rowid_terms (params ∷ e ∷ [])) entries ≡ map (λ e. rowid e ∷ []) entries
  ids_alone [] = refl
  ids_alone (e ∷ entries) = ap (λ rows. (rowid e ∷ []) ∷ rows) (ids_alone entries)

  read_by : (rows : List Row) → Shown (rowids_text name) params old new rows → ShowRowids name old.now rows
  read_by rows shown desk stand has =
      let means = rowids_asked name (desk.keys name) desk.schema stand.stands.0.at (desk.tree name) (is_in_alone desk name stand.stands.0 stand.apart) in
      let got = reads_as (rowids_text name) params old new desk.schema has (Select (record { lets = []; body = query_by (desk.tree name) [] rowid_terms }) (rowid_names name (desk.keys name))) means.is means.plain means.own rows shown in
      let found = answered_by (desk.tree name) [] rowid_terms old.now.trees params rows (got.answer Null) in
      let entries = old.now.trees (desk.tree name) in
      subst (λ xs. IsPermutation xs rows) (ap (map (λ e. eval_all rowid_terms (params ∷ e ∷ []))) (filter_nothing entries) ∙ ids_alone entries) found

  pub rowids_read : (r : Result (Vec Row Global) Error) (sql : List ℕ) → sql ≡ rowids_text name → IfOk r (λ rows. Shown sql params old new rows.items) → IfOk r (λ rows. ShowRowids name old.now rows.items)
  rowids_read (Ok rows) sql text shown = read_by rows.items (subst (λ t. Shown t params old new rows.items) text shown)
  rowids_read (Err e) sql text shown = tt

-- why they aren't shown
pub rowids_caused : (params : Row) (old new : State) (name : TableName) (r : Result (Vec Row Global) Error) (sql : List ℕ) → params ≡ [] → sql ≡ rowids_text name → IfErr r (FailsToQuery sql params old new)
    → IfErr r (λ e. IsOfStore e → (desk : Placing) → StandApart desk (name ∷ []) → old.now.schema ≡ desk.schema → IsCaused old new)
rowids_caused params old new name (Ok rows) sql none text fails = tt
rowids_caused params old new name (Err e) sql none text fails = λ stored desk stand has.
    read_caused name [] rowid_terms (rowid_names name (desk.keys name)) (rowids_text name) [] (rowids_whole name) (rowids_typed name) old new e desk stand has
    (rowids_asked name (desk.keys name) desk.schema stand.stands.0.at (desk.tree name) (is_in_alone desk name stand.stands.0 stand.apart)) stored
    (subst (λ p. FailsToQuery (rowids_text name) p old new e) none (subst (λ t. FailsToQuery t params old new e) text fails))
