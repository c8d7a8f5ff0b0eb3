-- The steps make the desk, where its names are free.
use Rattle.std.proofs.Common.{◌≡◌, ◌≢◌, ◌∙◌, ◌++◌, not, ℕ, Bool, true, false, List, [], ◌∷◌, map, drop, fold, codes, None, slice_get, refl, sym, ap, subst}
use Rattle.std.specs.List.{AllByRecursion, AllZip, list_all, list_any}
use Rattle.std.proofs.lemmas.Bool.{and_parts, not-true, or_parts}
use Rattle.sqlite_value.specs.Order.{Row}
use Rattle.sqlite_trees.specs.Tree.{Trees}
use Rattle.sqlite_schema.specs.declared.schema.Schema.{Schema}
use Rattle.sqlite_schema.specs.declared.schema.Table.{Table}
use Rattle.sqlite_schema.specs.Names.{same_name, table_named}
use Rattle.sqlite_rules.specs.Lists.{Has}
use Rattle.sqlite_rules.proofs.ListLemmas.{all_from, all_has}
use Rattle.sqlite_catalog.specs.Change.{is_used, KeepsRows}
use Rattle.sqlite_catalog.proofs.StepLemmas.{same_itself}
use Rattle.sqlite_tied.specs.Compute.{everything}
use Rattle.sqlite.specs.Effect.{Database}
use Rattle.agv_store_schema.specs.Schema.{meta_table, desk_tables, desk_indexes}
use Rattle.agv_store_create.specs.SchemaTexts.{table_texts, index_texts, meta_text, making_steps}
use Rattle.agv_store_create.specs.DeskSchema.{is_name_taken, with_new_table, with_new_index}
use Rattle.agv_store_create.specs.DeskTables.{HasRows}
use Rattle.agv_store_create.specs.DeskTables.{HasTable, MakesDesk, LeavesDesk}
use Rattle.agv_store_create.specs.TextsRun.{RunSteps, LeavesSteps}
use Rattle.agv_store_create.proofs.Creations.{unused}
use Rattle.agv_store_create.proofs.IndexTexts.{index_texts_are}
use Rattle.agv_store_create.proofs.IndexesMade as indexes
use Rattle.agv_store_create.proofs.MetaRow.{meta_row, GetsRow, gets_row}
use Rattle.agv_store_create.proofs.NamesKept.{IsOwn, position_all, same_use}
use Rattle.agv_store_create.proofs.TableTexts.{each_defined}
use Rattle.agv_store_create.proofs.TablesKept.{Grows, grows_again, has_got}
use Rattle.agv_store_create.proofs.TablesMade as tables

-- ---- the names

pub free_of : (s : Schema) (all : List Table) → list_any (is_used s) (map (λ (t : Table). t.name) all) ≡ false → tables.AreFree s all
free_of s [] free = tt
free_of s (t ∷ all) free = let p = or_parts _ _ free in (p.0, free_of s all p.1)

pub tables_own : tables.AreOwn desk_tables
unfolding everything
tables_own = (((λ rest. refl), refl), (((λ rest. refl), refl), (((λ rest. refl), refl), (((λ rest. refl), refl), (((λ rest. refl), refl), (((λ rest. refl), refl), (((λ rest. refl), refl), (((λ rest. refl), refl), (((λ rest. refl), refl), (((λ rest. refl), refl), (((λ rest. refl), refl), (((λ rest. refl), refl), (((λ rest. refl), refl), (((λ rest. refl), refl), tt))))))))))))))

tables_apart : tables.are_apart desk_tables ≡ true
unfolding everything
tables_apart = refl

pub indexes_apart : indexes.are_apart index_texts ≡ true
unfolding everything
indexes_apart = refl

-- no table has the name of an index
abbrev pub IsAside : List ℕ → Type 0
IsAside name = IsOwn name × (list_all (λ (t : Table). not (same_name t.name name)) desk_tables ≡ true)

pub indexes_aside : AllByRecursion (λ (it : List ℕ × List ℕ). IsAside it.0) index_texts
unfolding everything
indexes_aside = ((((λ rest. refl), refl), refl), ((((λ rest. refl), refl), refl), ((((λ rest. refl), refl), refl), ((((λ rest. refl), refl), refl), tt))))

pub used_alike : (s new : Schema) → new ≡ fold with_new_table s desk_tables → (texts : List (List ℕ × List ℕ)) → AllByRecursion (λ (it : List ℕ × List ℕ). IsAside it.0) texts → indexes.UsedAlike s new texts
used_alike s new is [] aside = tt
used_alike s new is (it ∷ texts) aside =
    (ap (λ u. is_used u it.0) is ∙ same_use s _ it.0 (tables.tables_keep it.0 aside.0.0 s desk_tables aside.0.1), used_alike s new is texts aside.1)

-- ---- the row of `meta`

-- a table whose tree has other rows
moved : (old new : Database) → new.schema ≡ old.schema → (t : Table) (before after : List Row) (h : HasTable old t before) → HasRows (new.trees h.tree) after → HasTable new t after
moved old new same t before after h rows = record {
  at = h.at;
  tree = h.tree;
  named = ap (λ s. table_named s t.name) same ∙ h.named;
  there = ap (λ (s : Schema). slice_get s.tables h.at) same ∙ h.there;
  alone = λ other has is. h.alone other (subst (λ (s : Schema). Has s.tables other) same has) is;
  rows_are = rows;
}

module _ (old new : Database) (h : HasTable old meta_table []) (got : GetsRow old new h.tree) where
  -- a table of another name lies in another tree
  elsewhere : (t : Table) → Has old.schema.tables t → same_name t.name (codes "meta") ≡ false → new.trees t.tree ≡ old.trees t.tree
  elsewhere t has other = all_has (λ (u : Table). u.tree ≢ h.tree → new.trees u.tree ≡ old.trees u.tree) old.schema.tables t got.others has
      (λ same. let it = ap (λ (u : Table). same_name u.name (codes "meta")) (h.alone t has same) in absurd (let wrong = sym other ∙ it ∙ same_itself (codes "meta") in cc))

  others_stay : (t : Table) → same_name t.name (codes "meta") ≡ false → HasTable old t [] → HasTable new t []
  others_stay t other k =
      moved old new got.schema_is t [] [] k (subst (λ entries. HasRows entries []) (sym (elsewhere (record t { tree = k.tree }) (has_got old.schema.tables k.at _ k.there) other)) k.rows_are)

  all_stay : (all : List Table) → list_all (λ (t : Table). not (same_name t.name (codes "meta"))) all ≡ true → AllByRecursion (λ t. HasTable old t []) all → AllZip (HasTable new) all (map (λ _. []) all)
  all_stay [] other k = tt
  all_stay (t ∷ all) other k = let p = and_parts _ _ other in (others_stay t (not-true _ p.0) k.0, all_stay all p.1 k.1)

  meta_has : HasTable new meta_table (meta_row ∷ [])
  meta_has = moved old new got.schema_is meta_table [] (meta_row ∷ []) h got.row

  -- the tables that were there before the desk
  strangers_stay : (first : Database) → Grows first old → table_named first.schema (codes "meta") ≡ None → KeepsRows first.schema.tables first.trees new.trees
  strangers_stay first grows none =
      let others = position_all (λ (t : Table). same_name t.name (codes "meta")) 0 first.schema.tables none in
      all_from (λ (t : Table). new.trees t.tree ≡ first.trees t.tree) first.schema.tables (λ t has.
      elsewhere t (grows.among t has) (all_has (λ (u : Table). same_name u.name (codes "meta") ≡ false) first.schema.tables t others has)
      ∙ all_has (λ (u : Table). old.trees u.tree ≡ first.trees u.tree) first.schema.tables t grows.kept has)

-- ---- all of it

others_differ : list_all (λ (t : Table). not (same_name t.name (codes "meta"))) (drop 1 desk_tables) ≡ true
unfolding everything
others_differ = refl

pub desk_made : (old new : Database) → is_name_taken old.schema ≡ false → RunSteps (making_steps old.schema) old new → MakesDesk old new
desk_made old new free ran =
    let are_free = free_of old.schema desk_tables free in
    let made = tables.makes_tables table_texts desk_tables each_defined tables_apart tables_own (indexes.steps_for old.schema index_texts ++ (true, meta_text) ∷ []) old new are_free ran in
    let t = made.0 in
    let stand : (u : Table) → Has desk_tables u → HasTable t u [] = λ u h. all_has (λ (v : Table). HasTable t v []) desk_tables u made.1.stand h in
    let indexed = indexes.makes_indexes old.schema index_texts desk_indexes index_texts_are indexes_apart ((true, meta_text) ∷ []) t new (used_alike old.schema t.schema made.1.schema_is index_texts indexes_aside) stand made.2 in
    let i = indexed.0 in
    let grows = grows_again old t i made.1.grows indexed.1.grows in
    let stands : AllByRecursion (λ (u : Table). HasTable i u []) desk_tables = all_from (λ (u : Table). HasTable i u []) desk_tables (λ u h. indexed.1.grows.stands u [] (stand u h)) in
    let next = indexed.2.0 in
    let row = gets_row i next stands.0 indexed.2.1 in
    subst (MakesDesk old) (sym indexed.2.2) (record {
      schema_is = row.schema_is ∙ indexed.1.schema_is ∙ ap (λ s. fold with_new_index s desk_indexes) made.1.schema_is;
      others = strangers_stay i next stands.0 row old grows (unused old.schema (codes "meta") are_free.0).0;
      rows = (meta_has i next stands.0 row, all_stay i next stands.0 row (drop 1 desk_tables) others_differ stands.1);
      listed = row.listed;
    })

-- the same of steps that are told to be those
pub desk_made_by : (steps : List (Bool × List ℕ)) (old new : Database) → steps ≡ making_steps old.schema → is_name_taken old.schema ≡ false → RunSteps steps old new → MakesDesk old new
desk_made_by steps old new are free ran = desk_made old new free (subst (λ all. RunSteps all old new) are ran)

pub desk_left_by : (steps : List (Bool × List ℕ)) (old : Database) → steps ≡ making_steps old.schema → is_name_taken old.schema ≡ false → (trees : Trees) → LeavesSteps steps old trees → LeavesDesk old trees
desk_left_by steps old are free trees left = (left.0, desk_made_by steps old left.0 are free left.1, left.2)
