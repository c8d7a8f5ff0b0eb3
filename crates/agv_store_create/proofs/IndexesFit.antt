-- SQL refuses no text that creates an index of the desk, where its name is free and no table has a row.
use Rattle.std.proofs.Common.{◌≡◌, ◌≤◌, ◌∙◌, ◌+◌, ◌^◌, ℕ, true, false, nat_lt, List, [], length, codes, Option, Some, None, Ok, Err, inl, inr, refl, sym, subst, slice_get, arith, ltb-true}
use Rattle.std.specs.Str.{IsUtf8}
use Rattle.std.specs.List.{AllByRecursion}
use Rattle.std.proofs.lemmas.Bool.{and_parts, both_ways, leb-true}
use Rattle.sqlite_value.specs.Order.{Row}
use Rattle.sqlite_value.specs.declared.value.Value.TheVariants.{Text}
use Rattle.sqlite_schema.specs.declared.command.Command.TheVariants as make
use Rattle.sqlite_schema.specs.declared.schema.Constraint.TheVariants.{Unique}
use Rattle.sqlite_schema.specs.declared.schema.Index.{Index}
use Rattle.sqlite_schema.specs.declared.schema.Table.{Table}
use Rattle.sqlite_schema.specs.Names.{table_named}
use Rattle.sqlite_schema.specs.Rules.{index_reals, passes, table_reals}
use Rattle.sqlite_rules.specs.Lists.{Has}
use Rattle.sqlite_rules.proofs.ListLemmas.{all_from, has_got}
use Rattle.sqlite_resolve.specs.Compile.{index_defined_by}
use Rattle.sqlite_catalog.specs.declared.error.Refusal.{Refusal}
use Rattle.sqlite_catalog.specs.declared.error.Refusal.TheVariants.{Invalid, NameTaken, BadName, TooBig, BadKey, BadText, Violates}
use Rattle.sqlite_catalog.specs.Change.{indexed, is_reserved, is_used, next_tree}
use Rattle.sqlite_catalog.specs.Calls.{RefusesIndex}
use Rattle.sqlite_catalog.specs.Listing.{is_fit}
use Rattle.sqlite.specs.declared.error.Error.{Error}
use Rattle.sqlite.specs.Does.{AtPlace, Defines, Does, MakesIndex}
use Rattle.sqlite.specs.Effect.{Database}
use Rattle.agv_store_schema.specs.Schema.{PlainIndex}
use Rattle.agv_store_schema.proofs.Running.{same_value}
use Rattle.agv_store_create.specs.DeskSchema.{index_on}
use Rattle.agv_store_create.specs.Refusals.{RefusesText}
use Rattle.agv_store_create.specs.TextsRun.{enforced}
use Rattle.agv_store_create.proofs.Creations.{compiled_to, understood_is}
use Rattle.agv_store_create.proofs.IndexTexts as texts
use Rattle.agv_store_create.proofs.IndexTexts.{DefinesIndex}
use Rattle.agv_store_create.proofs.TableTexts.{parsed}
use Rattle.agv_store_create.proofs.TablesFit.{NoRows}
use Rattle.agv_store_create.proofs.TextsFit.{none_in, stands_alone, text_of_ascii}

module _ (db : Database) (sql : List ℕ) (index : PlainIndex) (d : DefinesIndex sql index) (at tree : ℕ) (there : slice_get db.schema.tables at ≡ Some (record d.table { tree = tree }))
    (free : is_used db.schema index.name ≡ false) (room : nat_lt (next_tree db.schema) 65536 ≡ true) (empty : NoRows db) where
  abbrev table : Table
  table = record d.table { tree = tree }

  same : (i : Index) → index_defined_by table sql ≡ Ok i → i ≡ index_on table index
  same i is = same_value (sym is ∙ d.made tree)

  stands : (why : Refusal) → RefusesIndex db.schema db.trees table sql why → ⊥
  stands (Invalid e) h = let wrong = sym h ∙ d.made tree in cc
  stands NameTaken h = both_ways (is_used db.schema index.name) free (subst (λ (i : Index). is_used db.schema i.name ≡ true) (same h.0 h.1) h.2)
  stands BadName h = elim h.2 [
    | inl bad ↦ elim bad [
      | inl unreadable ↦ unreadable (subst (λ (i : Index). IsUtf8 i.name) (sym (same h.0 h.1)) (text_of_ascii index.name d.stores.named))
      | inr own ↦ both_ways (is_reserved index.name) d.stores.own (subst (λ (i : Index). is_reserved i.name ≡ true) (same h.0 h.1) own.0)
    ]
    | inr unreadable ↦ unreadable (text_of_ascii d.table.name d.stores.on_named)
  ]
  stands TooBig h = elim h.2 [
    | inl trees ↦ (let few = ltb-true _ _ room in omega (arith, few, trees))
    | inr big ↦ elim big [
      | inl reals ↦ (let few = ltb-true _ _ d.stores.reals in omega (arith, few, reals))
      | inr key ↦ (let few = ltb-true _ _ d.stores.key in let many = subst (λ (i : Index). 2 ^ 64 ≤ index_reals (table_reals d.table) i.columns) (same h.0 h.1) key in omega (arith, few, many))
    ]
  ]
  stands BadKey h = h
  stands BadText h =
      both_ways (is_fit (Text (codes "index")) (Text index.name) (Text d.table.name) (Text sql))
      (subst (λ (i : Index). is_fit (Text (codes "index")) (Text i.name) (Text d.table.name) (Text sql) ≡ false) (same h.0 h.1) h.2) d.stores.fit
  stands (Violates rule) h = h.3 (all_from (λ (t : Table). AllByRecursion (λ (row : Row). passes Unique (indexed db.schema table h.0) db.trees t row ≡ true) (db.trees t.tree)) db.schema.tables
      (λ t has. subst (λ (rows : List Row). AllByRecursion (λ (row : Row). passes Unique (indexed db.schema table h.0) db.trees t row ≡ true) rows) (sym (empty t has)) tt))

  makes_it : (stop : Option Error) → MakesIndex sql db table (Err stop) → ⊥
  makes_it None h = elim h.2 [
    | inl long ↦
        (let few = ltb-true _ _ d.stores.short in
        let many = subst (λ (i : Index). 10 ^ 9 ≤ length i.name + length d.table.name + length sql + 200) (same h.0 h.1) long in
        omega (arith, few, many))
    | inr big ↦ subst (λ (rows : List Row). Has rows big.0) (empty table (has_got db.schema.tables at table there)) big.1
  ]
  makes_it (Some e) (inl unreadable) = unreadable.0 (text_of_ascii sql d.stores.ascii)
  makes_it (Some e) (inr refused) = stands refused.0 refused.1

  creates : (why : Option Error) → Does None enforced [] db sql None (make.CreateIndex at) (Err why) → ⊥
  creates why h = go (subst (λ (o : Option Table). AtPlace (λ (t : Table). Defines enforced (MakesIndex sql db t)) o (Err why)) there h)
    where
      go : Defines enforced (MakesIndex sql db table) (Err why) → ⊥
      go (inl stopped) = makes_it stopped.0 stopped.1
      go (inr went_on) = let wrong = went_on.2 in cc

  -- SQL does not refuse the text of an index
  pub index_passes : table_named db.schema index.table ≡ Some at → RefusesText sql db → ⊥
  index_passes named refused =
      let c = compiled_to (parsed sql) (make.CreateIndex at) in
      let on = subst (λ n. table_named db.schema n ≡ Some at) (sym d.of) named in
      let used = subst (λ n. is_used db.schema n ≡ false) (sym d.name) free in
      let alone = and_parts _ _ (subst (λ r. stands_alone sql r ≡ true) d.read d.stores.alone) in
      let it = refused c (record { is = understood_is db.schema sql c (texts.says_named sql index d db.schema at tree there on used); whole = leb-true _ _ alone.0; unnamed = none_in (parsed sql).names alone.1; untimed = refl; silent = refl; adds = tt }) in
      creates it.0 (subst (λ text. Does None enforced [] db text None (make.CreateIndex at) (Err it.0)) (d.whole at) it.1)
