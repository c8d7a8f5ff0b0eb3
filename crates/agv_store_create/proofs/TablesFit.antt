-- SQL refuses no text that creates a table of the desk, where its names are free and the database has few trees.
use Rattle.std.proofs.Common.{◌≡◌, ◌≤◌, ◌⊎◌, ◌∙◌, ◌+◌, ◌*◌, ◌^◌, not, ℕ, true, false, nat_lt, List, [], length, codes, Option, Some, None, Ok, Err, Result, inl, inr, refl, sym, ap, subst, arith, ltb-true}
use Rattle.std.specs.Str.{IsUtf8}
use Rattle.std.specs.List.{AllByRecursion, list_all}
use Rattle.std.proofs.lemmas.Bool.{and_parts, both_ways, leb-true, not-true}
use Rattle.sqlite_value.specs.declared.value.Value.TheVariants.{Text}
use Rattle.sqlite_schema.specs.declared.command.Command.TheVariants as make
use Rattle.sqlite_schema.specs.declared.schema.Index.{Index}
use Rattle.sqlite_schema.specs.declared.schema.Schema.{Schema}
use Rattle.sqlite_schema.specs.declared.schema.Table.{Table}
use Rattle.sqlite_schema.specs.Rules.{table_reals, index_reals}
use Rattle.sqlite_rules.specs.Lists.{Has}
use Rattle.sqlite_rules.proofs.ListLemmas.{all_has, test_has}
use Rattle.sqlite_resolve.specs.Compile.{table_defined_by}
use Rattle.sqlite_catalog.specs.declared.error.Refusal.{Refusal}
use Rattle.sqlite_catalog.specs.declared.error.Refusal.TheVariants.{Invalid, NameTaken, BadName, TooBig, BadKey, BadText, Violates}
use Rattle.sqlite_catalog.specs.Change.{automatics, created, is_reserved, is_used, next_tree}
use Rattle.sqlite_catalog.specs.Calls.{CreatesTable, RefusesTable}
use Rattle.sqlite_catalog.specs.Listing.{is_fit, is_formed}
use Rattle.sqlite.specs.declared.error.Error.{Error}
use Rattle.sqlite.specs.Does.{Does, MakesSequence, MakesTable, Tally, lacks_sequence}
use Rattle.sqlite.specs.Effect.{Database}
use Rattle.agv_store_schema.proofs.Running.{went, same_value}
use Rattle.agv_store_create.specs.Refusals.{RefusesText}
use Rattle.agv_store_create.specs.TextsRun.{RunsText, enforced}
use Rattle.agv_store_create.proofs.Creations.{DefinesTable, compiled_to, says_named, says_table, understood_is}
use Rattle.agv_store_create.proofs.TablesKept.{has_either}
use Rattle.agv_store_create.proofs.TextsFit.{StoresTable, none_in, stands_alone, text_of_ascii}

-- the names of the table and of the indexes of its keys are free, and there are trees left
pub record HasRoom (s : Schema) (t : Table) : Type 0 where
  pub free : is_used s t.name ≡ false
  pub own : list_all (λ (i : Index). not (is_used s i.name)) (automatics t 0 0 t.uniques) ≡ true
  pub room : nat_lt (next_tree s + length t.uniques) 65536 ≡ true
  pub uncounted : lacks_sequence (created s t) ≡ false

-- no table has a row
abbrev pub NoRows : Database → Type 0
NoRows db = (t : Table) → Has db.schema.tables t → db.trees t.tree ≡ []

module _ (db : Database) (sql : List ℕ) (t : Table) (stores : StoresTable sql t) (has : HasRoom db.schema t) (defined : table_defined_by sql ≡ Ok t) where
  same : (u : Table) → table_defined_by sql ≡ Ok u → u ≡ t
  same u is = same_value (sym is ∙ defined)

  abbrev IsBig : Table → Type 0
  IsBig u = (65536 ≤ next_tree db.schema + length u.uniques) ⊎ ((2 ^ 64 ≤ table_reals u) ⊎ ((key : List ℕ) × Has u.uniques key × (2 ^ 64 ≤ index_reals (table_reals u) key)))

  not_big : IsBig t → ⊥
  not_big (inl trees) = let few = ltb-true _ _ has.room in omega (arith, few, trees)
  not_big (inr (inl reals)) = let few = ltb-true _ _ stores.reals in omega (arith, few, reals)
  not_big (inr (inr key)) =
      let few = ltb-true _ _ (test_has (λ (k : List ℕ). nat_lt (index_reals (table_reals t) k) (2 ^ 64)) t.uniques key.0 stores.keys key.1) in
      omega (arith, few, key.2)

  stands : (why : Refusal) → RefusesTable db.schema sql why → ⊥
  stands (Invalid e) h = let wrong = sym h ∙ defined in cc
  stands NameTaken h = elim h.2 [
    | inl used ↦ both_ways (is_used db.schema t.name) has.free (subst (λ (u : Table). is_used db.schema u.name ≡ true) (same h.0 h.1) used)
    | inr own ↦
        let among = subst (λ (u : Table). Has (automatics u 0 0 u.uniques) own.0) (same h.0 h.1) own.1 in
        both_ways (is_used db.schema own.0.name) (not-true _ (test_has (λ (i : Index). not (is_used db.schema i.name)) (automatics t 0 0 t.uniques) own.0 has.own among)) own.2
  ]
  stands BadName h = elim h.2 [
    | inl unreadable ↦ unreadable (subst (λ (u : Table). IsUtf8 u.name) (sym (same h.0 h.1)) (text_of_ascii t.name stores.named))
    | inr own ↦ both_ways (is_reserved t.name) stores.own (subst (λ (u : Table). is_reserved u.name ≡ true) (same h.0 h.1) own.0)
  ]
  stands TooBig h = not_big (subst IsBig (same h.0 h.1) h.2)
  stands BadKey h = both_ways (is_formed t) (subst (λ (u : Table). is_formed u ≡ false) (same h.0 h.1) h.2) stores.formed
  stands BadText h =
      both_ways (is_fit (Text (codes "table")) (Text t.name) (Text t.name) (Text sql))
      (subst (λ (u : Table). is_fit (Text (codes "table")) (Text u.name) (Text u.name) (Text sql) ≡ false) (same h.0 h.1) h.2) stores.fit
  stands (Violates rule) h = h

  makes_it : (stop : Option Error) → MakesTable sql db (Err stop) → ⊥
  makes_it None h =
      let few = ltb-true _ _ stores.short in
      let long = subst (λ (u : Table). 10 ^ 9 ≤ 2 * length u.name + length sql + 200) (same h.0 h.1) h.2 in
      omega (arith, few, long)
  makes_it (Some e) (inl unreadable) = unreadable.0 (text_of_ascii sql stores.ascii)
  makes_it (Some e) (inr refused) = stands refused.0 refused.1

  adds_nothing : (next : Database) → MakesTable sql db (Ok next) → (stop : Option Error) → MakesSequence next (Err stop) → ⊥
  adds_nothing next c stop h =
      let is : next.schema ≡ created db.schema t = c.is ∙ ap (created db.schema) (same c.table c.defined) in
      let quiet : lacks_sequence next.schema ≡ false = ap lacks_sequence is ∙ has.uncounted in
      let wrong : ◌≡◌ {A = Result Database (Option Error)} (Err stop) (Ok next) = rw quiet at h in
      cc

  creates : (why : Option Error) → Does None enforced [] db sql None make.CreateTable (Err why) → ⊥
  creates why (inl stopped) = elim stopped.1 [ inl first ↦ makes_it first.0 first.1 | inr made ↦ adds_nothing made.0 made.1 stopped.0 made.2 ]
  creates why (inr went_on) = let wrong = went_on.2 in cc

-- SQL does not refuse the text of a table
pub table_passes : (db : Database) (sql : List ℕ) (t : Table) → StoresTable sql t → HasRoom db.schema t → DefinesTable sql t → RefusesText sql db → ⊥
table_passes db sql t stores has d refused =
    let c = compiled_to d.parsed make.CreateTable in
    let named = subst (λ n. is_used db.schema n ≡ false) (sym d.name) has.free in
    let alone = and_parts _ _ (subst (λ r. stands_alone sql r ≡ true) d.read stores.alone) in
    let it = refused c (record { is = understood_is db.schema sql c (says_named db.schema sql t d named); whole = leb-true _ _ alone.0; unnamed = none_in d.parsed.names alone.1; untimed = refl; silent = refl; adds = tt }) in
    creates db sql t stores has d.made it.0 (subst (λ text. Does None enforced [] db text None make.CreateTable (Err it.0)) d.whole it.1)

-- the new table has no row, and the others get none
pub stays_empty : (sql : List ℕ) (t : Table) (d : DefinesTable sql t) (old new : Database) → HasRoom old.schema t → NoRows old → RunsText sql old new → NoRows new
stays_empty sql t d old new has empty ran =
    let says = says_table old.schema sql t d has.free in
    let did = ran make.CreateTable says.is says.plain tt in
    let all = went did.does in
    let first = went all.1 in
    let last : new ≡ all.0 = ap (λ (p : Tally × Database). p.1) (same_value all.2) in
    let c : CreatesTable old.schema sql old.trees first.0.schema first.0.trees = subst (λ text. CreatesTable old.schema text old.trees first.0.schema first.0.trees) says.whole first.1 in
    let is : first.0.schema ≡ created old.schema t = c.is ∙ ap (created old.schema) (same_value (sym c.defined ∙ d.made)) in
    let quiet : lacks_sequence first.0.schema ≡ false = ap lacks_sequence is ∙ has.uncounted in
    let more : MakesSequence first.0 (Ok new) = subst (λ db. MakesSequence first.0 (Ok db)) (sym last) first.2 in
    let only : new ≡ first.0 = same_value (rw quiet at more) in
    subst NoRows (sym only) (bare first.0 is c.empty c.others)
  where
    bare : (db : Database) → db.schema ≡ created old.schema t → db.trees (next_tree old.schema) ≡ [] → AllByRecursion (λ (u : Table). db.trees u.tree ≡ old.trees u.tree) old.schema.tables → NoRows db
    bare db is new_empty kept u h =
        has_either old.schema.tables _ u (subst (λ (s : Schema). Has s.tables u) is h)
        (λ before. all_has (λ (v : Table). db.trees v.tree ≡ old.trees v.tree) old.schema.tables u kept before ∙ empty u before)
        (λ last. elim last [ inl it ↦ ap (λ (v : Table). db.trees v.tree) it ∙ new_empty | inr none ↦ absurd none ])
