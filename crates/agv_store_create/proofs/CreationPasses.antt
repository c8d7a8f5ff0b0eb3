-- SQL refuses no step of the creation in an empty database.
use Rattle.std.proofs.Common.{◌≡◌, ◌∙◌, ◌⊎◌, ◌++◌, not, ℕ, Bool, true, false, nat_lt, List, [], ◌∷◌, map, fold, length, Option, Some, None, option_and_then, option_map, unwrap_or, slice_get, Ok, Err, Result, IfErr, inl, inr, refl, sym, ap, subst}
use Rattle.std.specs.List.{AllByRecursion, AllZip, list_all}
use Rattle.std.proofs.lemmas.Bool.{and_parts, cases_Bool}
use Rattle.sqlite_schema.specs.declared.schema.Index.{Index}
use Rattle.sqlite_schema.specs.declared.schema.Schema.{Schema}
use Rattle.sqlite_schema.specs.declared.schema.Table.{Table}
use Rattle.sqlite_schema.specs.Names.{same_name, table_named}
use Rattle.sqlite_rules.specs.Lists.{Has}
use Rattle.sqlite_rules.proofs.ListLemmas.{all_has}
use Rattle.sqlite_catalog.specs.Change.{indexed, is_used, next_tree}
use Rattle.sqlite_tied.specs.Compute.{everything}
use Rattle.sqlite.specs.declared.error.Error.{Error}
use Rattle.sqlite.specs.Effect.{Database}
use Rattle.agv_store_schema.specs.Errors.{IsOfStore}
use Rattle.agv_store_schema.specs.Schema.{PlainIndex, desk_indexes, desk_tables, meta_table}
use Rattle.agv_store_create.specs.DeskSchema.{IsEmpty, index_on, with_desk, with_new_index, with_new_table}
use Rattle.agv_store_create.specs.DeskTables.{HasTable}
use Rattle.agv_store_create.specs.Refusals.{RefusesSteps}
use Rattle.agv_store_create.specs.SchemaTexts.{index_texts, making_steps, meta_text, table_texts}
use Rattle.agv_store_create.proofs.Creations.{DefinesTable, makes_table}
use Rattle.agv_store_create.proofs.DeskFits.{HaveRoom, each_stored, empty_has_room, empty_schema}
use Rattle.agv_store_create.proofs.DeskMade.{indexes_apart, indexes_aside, used_alike}
use Rattle.agv_store_create.proofs.IndexTexts.{IsTextOf, index_texts_are, makes_index}
use Rattle.agv_store_create.proofs.IndexesFit.{index_passes}
use Rattle.agv_store_create.proofs.IndexesMade.{Stand, UsedAlike, are_apart, used_still}
use Rattle.agv_store_create.proofs.MetaFits.{row_passes}
use Rattle.agv_store_create.proofs.TableTexts.{each_defined}
use Rattle.agv_store_create.proofs.TablesFit.{NoRows, stays_empty, table_passes}
use Rattle.agv_store_create.proofs.TablesKept.{Grows, grows_none, grows_again}
use Rattle.agv_store_create.proofs.TextsFit.{StoresTable, has_none}

-- ---- the tables

-- the tables stand without rows, and no other has any
record HaveTables (old new : Database) (tables : List Table) : Type 0 where
  pub schema_is : new.schema ≡ fold with_new_table old.schema tables
  pub stand : AllByRecursion (λ (t : Table). HasTable new t []) tables
  pub grows : Grows old new
  pub empty : NoRows new

tables_pass : (texts : List (List ℕ)) (tables : List Table) → AllZip DefinesTable texts tables → AllZip StoresTable texts tables → (steps : List (Bool × List ℕ)) (old : Database) → HaveRoom old.schema tables → NoRows old
    → RefusesSteps (map (λ text. (true, text)) texts ++ steps) old → (mid : Database) × HaveTables old mid tables × RefusesSteps steps mid
tables_pass [] [] defined stored steps old room empty refused = (old, record { schema_is = refl; stand = tt; grows = grows_none old; empty = empty }, refused)
tables_pass [] (t ∷ tables) defined stored steps old room empty refused = absurd defined
tables_pass (sql ∷ texts) [] defined stored steps old room empty refused = absurd defined
tables_pass (sql ∷ texts) (t ∷ tables) defined stored steps old room empty refused = elim refused [
  | inl here ↦ absurd (table_passes old sql t stored.0 room.0 defined.0 here)
  | inr later ↦
      let next = later.0 in
      let one = makes_table sql t defined.0 old next room.0.free later.1 in
      let none = stays_empty sql t defined.0 old next room.0 empty later.1 in
      let more = tables_pass texts tables defined.1 stored.1 steps next (subst (λ s. HaveRoom s tables) (sym one.schema_is) room.1) none later.2 in (
        more.0,
        record {
          schema_is = more.1.schema_is ∙ ap (λ s. fold with_new_table s tables) one.schema_is;
          stand = (more.1.grows.stands t [] one.stands, more.1.stand);
          grows = grows_again old next more.0 one.grows more.1.grows;
          empty = more.1.empty;
        },
        more.2,
      )
]

-- ---- the indexes

-- there are trees left for each of the indexes, after those before it
abbrev HaveTrees : Schema → List PlainIndex → Type 0
HaveTrees s [] = Unit {0}
HaveTrees s (index ∷ indexes) = (nat_lt (next_tree s) 65536 ≡ true) × HaveTrees (with_new_index s index) indexes

tables_stay : (s : Schema) (index : PlainIndex) → (with_new_index s index).tables ≡ s.tables
tables_stay s index = elim (cases_Bool (is_used s index.name)) [ inl used ↦ rw used refl | inr free ↦ rw free (by_table (option_and_then (slice_get s.tables) (table_named s index.table))) ]
  where
    by_table : (o : Option Table) → (unwrap_or (option_map (λ table. indexed s table (index_on table index)) o) s).tables ≡ s.tables
    by_table None = refl
    by_table (Some t) = refl

still_empty : (old new : Database) (index : PlainIndex) → new.schema ≡ with_new_index old.schema index → Grows old new → NoRows old → NoRows new
still_empty old new index is grows empty t has =
    let before : Has old.schema.tables t = subst (λ ts. Has ts t) (ap (λ (s : Schema). s.tables) is ∙ tables_stay old.schema index) has in
    all_has (λ (u : Table). new.trees u.tree ≡ old.trees u.tree) old.schema.tables t grows.kept before ∙ empty t before

record HaveIndexes (old new : Database) (indexes : List PlainIndex) : Type 0 where
  pub schema_is : new.schema ≡ fold with_new_index old.schema indexes
  pub stand : Stand new
  pub empty : NoRows new

module _ (first : Schema) (none_used : (name : List ℕ) → is_used first name ≡ false) where
  indexes_pass : (texts : List (List ℕ × List ℕ)) (indexes : List PlainIndex) → AllZip IsTextOf texts indexes → are_apart texts ≡ true → (steps : List (Bool × List ℕ)) (old : Database)
      → UsedAlike first old.schema texts → HaveTrees old.schema indexes → Stand old → NoRows old → RefusesSteps (map (λ (it : List ℕ × List ℕ). (true, it.1)) texts ++ steps) old
      → (mid : Database) × HaveIndexes old mid indexes × RefusesSteps steps mid
  indexes_pass [] [] are apart steps old alike room stand empty refused = (old, record { schema_is = refl; stand = stand; empty = empty }, refused)
  indexes_pass [] (index ∷ indexes) are apart steps old alike room stand empty refused = absurd are
  indexes_pass (it ∷ texts) [] are apart steps old alike room stand empty refused = absurd are
  indexes_pass (it ∷ texts) (index ∷ indexes) are apart steps old alike room stand empty refused =
      let is = are.0 in
      let d = is.defines in
      let p = and_parts _ _ apart in
      let h = stand d.table is.among in
      let named = subst (λ n. table_named old.schema n ≡ Some h.at) d.table_is h.named in
      let free = subst (λ n. is_used old.schema n ≡ false) is.name (alike.0 ∙ none_used it.0) in
      elim refused [
        | inl here ↦ absurd (index_passes old it.1 index d h.at h.tree h.there free room.0 empty named here)
        | inr later ↦
            let next = later.0 in
            let made = makes_index it.1 index d old next h free later.1 in
            let differ = subst (λ n. list_all (λ (other : List ℕ × List ℕ). not (same_name n other.0)) texts ≡ true) is.name p.0 in
            let used = used_still first it.1 index d old next made texts differ alike.1 in
            let more = indexes_pass texts indexes are.1 p.1 steps next used (subst (λ s. HaveTrees s indexes) (sym made.schema_is) room.1) (λ t among. made.grows.stands t [] (stand t among))
            (still_empty old next index made.schema_is made.grows empty) later.2 in (
              more.0,
              record { schema_is = more.1.schema_is ∙ ap (λ s. fold with_new_index s indexes) made.schema_is; stand = more.1.stand; empty = more.1.empty },
              more.2,
            )
      ]

-- ---- all of it

trees_left : HaveTrees (fold with_new_table empty_schema desk_tables) desk_indexes
unfolding everything
trees_left = (refl, (refl, (refl, (refl, tt))))

few_columns : list_all (λ (i : Index). nat_lt (length i.columns) 3) (with_desk empty_schema).indexes ≡ true
unfolding everything
few_columns = refl

no_references : list_all (λ (t : Table). has_none t.references) (with_desk empty_schema).tables ≡ true
unfolding everything
no_references = refl

pub creation_passes : (old : Database) → IsEmpty old.schema → RefusesSteps (making_steps old.schema) old → ⊥
creation_passes old is refused =
    let steps : RefusesSteps (making_steps empty_schema) old = subst (λ s. RefusesSteps (making_steps s) old) is refused in
    let nothing : NoRows old = λ t has. absurd (subst (λ (s : Schema). Has s.tables t) is has) in
    let none_used : (name : List ℕ) → is_used old.schema name ≡ false = λ name. subst (λ s. is_used s name ≡ false) (sym is) refl in
    let made = tables_pass table_texts desk_tables each_defined each_stored (map (λ (it : List ℕ × List ℕ). (true, it.1)) index_texts ++ (true, meta_text) ∷ []) old
    (subst (λ s. HaveRoom s desk_tables) (sym is) empty_has_room) nothing steps in
    let t = made.0 in
    let tabled : t.schema ≡ fold with_new_table empty_schema desk_tables = made.1.schema_is ∙ ap (λ s. fold with_new_table s desk_tables) is in
    let stand : Stand t = λ u among. all_has (λ (v : Table). HasTable t v []) desk_tables u made.1.stand among in
    let indexed = indexes_pass old.schema none_used index_texts desk_indexes index_texts_are indexes_apart ((true, meta_text) ∷ []) t
    (used_alike old.schema t.schema made.1.schema_is index_texts indexes_aside) (subst (λ s. HaveTrees s desk_indexes) (sym tabled) trees_left) stand made.1.empty made.2 in
    let i = indexed.0 in
    let all : i.schema ≡ with_desk empty_schema = indexed.1.schema_is ∙ ap (λ s. fold with_new_index s desk_indexes) tabled in
    elim indexed.2 [
      | inl here ↦ row_passes i (indexed.1.stand meta_table (inl refl)) indexed.1.empty
          (subst (λ (s : Schema). list_all (λ (j : Index). nat_lt (length j.columns) 3) s.indexes ≡ true) (sym all) few_columns)
          (subst (λ (s : Schema). list_all (λ (u : Table). has_none u.references) s.tables ≡ true) (sym all) no_references) here
      | inr later ↦ later.2
    ]

-- a fault of the creation in an empty database has a cause in the connection
pub creation_caused : {X : Type 0} (Cause : Type 0) (steps : List (Bool × List ℕ)) (old : Database) (r : Result X Error) → steps ≡ making_steps old.schema → IsEmpty old.schema
    → IfErr r (λ why. IsOfStore why → Cause ⊎ RefusesSteps steps old) → IfErr r (λ why. IsOfStore why → Cause)
creation_caused Cause steps old (Ok x) are is caused = tt
creation_caused Cause steps old (Err e) are is caused = λ of. elim (caused of) [ inl cause ↦ cause | inr refused ↦ absurd (creation_passes old is (subst (λ all. RefusesSteps all old) are refused)) ]
