-- SQL does not refuse the text that inserts the row of `meta`, where no table has a row.
use Rattle.std.proofs.Common.{◌≡◌, ℕ, true, nat_lt, List, [], ◌∷◌, length, Option, Some, None, Err, inl, inr, refl, ap, subst}
use Rattle.std.specs.List.{list_all}
use Rattle.std.proofs.lemmas.Bool.{and_parts, both_ways, leb-true}
use Rattle.sqlite_value.specs.declared.value.Value.TheVariants.{Null}
use Rattle.sqlite_value.specs.Order.{Row}
use Rattle.sqlite_trees.specs.Tree.{Trees}
use Rattle.sqlite_schema.specs.declared.command.Source.TheVariants.{Values}
use Rattle.sqlite_schema.specs.declared.schema.Among.TheVariants.{All}
use Rattle.sqlite_schema.specs.declared.schema.Index.{Index}
use Rattle.sqlite_schema.specs.declared.schema.Keys.TheVariants.{Enforced}
use Rattle.sqlite_schema.specs.declared.schema.Schema.{Schema}
use Rattle.sqlite_schema.specs.declared.schema.Table.{Table}
use Rattle.sqlite_schema.specs.Rules.{Refers}
use Rattle.sqlite_rules.specs.declared.error.Rowids.TheVariants.{Chosen}
use Rattle.sqlite_rules.specs.Action.{Writes}
use Rattle.sqlite_rules.specs.Edit.{Edit, edit_of}
use Rattle.sqlite_rules.specs.Lists.{Has}
use Rattle.sqlite_rules.proofs.ListLemmas.{all_from, has_got, test_has}
use Rattle.sqlite_resolve.specs.Compile.{first}
use Rattle.sqlite_tied.specs.Compute.{everything}
use Rattle.sqlite.specs.declared.error.Error.{Error}
use Rattle.sqlite.specs.Rows.{Edited, Inserts, Sourced, Written}
use Rattle.sqlite.specs.Does.{AtPlace, Concludes, OnRows}
use Rattle.sqlite.specs.Effect.{Database}
use Rattle.agv_store_schema.specs.Schema.{meta_table}
use Rattle.agv_store_create.specs.SchemaTexts.{meta_text}
use Rattle.agv_store_create.specs.DeskTables.{HasTable}
use Rattle.agv_store_create.specs.Refusals.{RefusesText}
use Rattle.agv_store_create.specs.TextsRun.{enforced}
use Rattle.agv_store_create.proofs.Creations.{compiled_to, understood_is}
use Rattle.agv_store_create.proofs.MetaRow.{compiles, fits, insertion, meta_row, no_number, read, row_terms, task_on}
use Rattle.agv_store_create.proofs.RowFits.{first_row, row_written}
use Rattle.agv_store_create.proofs.TableTexts.{parsed}
use Rattle.agv_store_create.proofs.TablesFit.{NoRows}
use Rattle.agv_store_create.proofs.TextsFit.{has_none, none_in, stands_alone}

alone : stands_alone meta_text (first meta_text) ≡ true
unfolding everything
alone = refl

module _ (s : Schema) (tree : ℕ) (db : Trees) (none : db tree ≡ []) (empty : (t : Table) → Has s.tables t → db t.tree ≡ []) (few : list_all (λ (i : Index). nat_lt (length i.columns) 3) s.indexes ≡ true)
    (bare : list_all (λ (t : Table). has_none t.references) s.tables ≡ true) where
  abbrev table : Table
  table = record meta_table { tree = tree }

  abbrev edit_with : List Row → Edit
  edit_with news = record { table = table; gone = []; news = news }

  -- the terms give the row
  sourced : (stop : Option Error) → Sourced None (record { schema = s; trees = db }) [] (Values row_terms 3) (Err stop) → ⊥
  sourced None h = h
  sourced (Some e) (inl typed) = both_ways _ typed.1 refl
  sourced (Some e) (inr limited) = let wrong = limited.1 in cc

  edited : (stop : Option Error) → Edited s Enforced db (edit_of db table [] Chosen 0 ((Null ∷ meta_row) ∷ [])) (Err stop) → ⊥
  edited stop h =
      let news : (edit_of db table [] Chosen 0 ((Null ∷ meta_row) ∷ [])).news ≡ first_row ∷ [] = rw (no_number, fits, none) refl in
      let same : ◌≡◌ {A = Edit} (edit_of db table [] Chosen 0 ((Null ∷ meta_row) ∷ [])) (edit_with (first_row ∷ [])) = ap edit_with news in
      row_written s tree db none empty few h.0 (subst (λ (edit : Edit). Writes s Enforced db edit (Err h.0)) same h.1)

  inserts : (stop : Option Error) → Inserts (task_on None s table) (Values row_terms 3) db (Err stop) → ⊥
  inserts stop (inl unread) = sourced unread.0 unread.1
  inserts stop (inr given) = elim given.2 [
    | inl uncounted ↦ (let wrong = uncounted.1 in cc)
    | inr counter ↦ elim counter.2 [
      | inl unwritten ↦ edited unwritten.0 (subst (λ (rows : List Row). Edited s Enforced db (edit_of db table [] Chosen 0 rows) (Err unwritten.0)) given.1.1 unwritten.1)
      | inr wrote ↦ elim wrote.2 [
        | inl uncounted ↦ (let wrong = uncounted.1 in cc)
        | inr done ↦ (let wrong = done.2 in cc)
      ]
    ]
  ]

  refers : (trees : Trees) → Refers All s trees
  refers trees = all_from (λ (t : Table). _) s.tables (λ t has. all_from (λ (row : Row). _) (trees t.tree)
      (λ row among. rw (none_in t.references (test_has (λ (u : Table). has_none u.references) s.tables t bare has)) refl))

  concludes : (w : Written) (why : Option Error) → Concludes (task_on None s table) enforced None w (Err why) → ⊥
  concludes w why (inl tested) = tested.1.0 (refers w.trees)
  concludes w why (inr tested) = elim tested.2 [ inl shown ↦ (let wrong = shown.1 in cc) | inr done ↦ (let wrong = done.2 in cc) ]

  rows_written : (at : ℕ) (why : Option Error) → OnRows (task_on None s table) enforced None (insertion at) db (Err why) → ⊥
  rows_written at why (inl unwritten) = inserts unwritten.0 unwritten.1
  rows_written at why (inr wrote) = concludes wrote.0 why wrote.2

pub row_passes : (db : Database) → HasTable db meta_table [] → NoRows db → list_all (λ (i : Index). nat_lt (length i.columns) 3) db.schema.indexes ≡ true
    → list_all (λ (t : Table). has_none t.references) db.schema.tables ≡ true → RefusesText meta_text db → ⊥
row_passes db h empty few bare refused =
    let c = compiled_to (parsed meta_text) (insertion h.at) in
    let one = and_parts _ _ (subst (λ r. stands_alone meta_text r ≡ true) read alone) in
    let it = refused c (record { is = understood_is db.schema meta_text c (compiles db.schema h.at h.tree h.named h.there); whole = leb-true _ _ one.0; unnamed = none_in (parsed meta_text).names one.1; untimed = refl; silent = refl; adds = tt }) in
    let placed = subst (λ (o : Option Table). AtPlace (λ t. OnRows (task_on None db.schema t) enforced None (insertion h.at) db.trees) o (Err it.0)) h.there it.1 in
    let none = empty (record meta_table { tree = h.tree }) (has_got db.schema.tables h.at _ h.there) in
    rows_written db.schema h.tree db.trees none empty few bare h.at it.0 placed
