-- The texts of the indexes make those whose names are free, one after the other.
use Rattle.std.proofs.Common.{◌≡◌, ◌∙◌, ◌&&◌, ◌++◌, not, ℕ, Bool, true, false, List, [], ◌∷◌, map, fold, refl, ap, subst}
use Rattle.std.specs.List.{AllByRecursion, AllZip, list_all}
use Rattle.std.proofs.lemmas.Bool.{and_parts, not-true}
use Rattle.sqlite_schema.specs.declared.schema.Schema.{Schema}
use Rattle.sqlite_schema.specs.declared.schema.Table.{Table}
use Rattle.sqlite_schema.specs.Names.{same_name}
use Rattle.sqlite_rules.specs.Lists.{Has}
use Rattle.sqlite_catalog.specs.Change.{is_used}
use Rattle.sqlite.specs.Effect.{Database}
use Rattle.agv_store_schema.specs.Schema.{PlainIndex, desk_tables}
use Rattle.agv_store_create.specs.DeskSchema.{with_new_index}
use Rattle.agv_store_create.specs.DeskTables.{HasTable}
use Rattle.agv_store_create.specs.TextsRun.{RunSteps}
use Rattle.agv_store_create.proofs.IndexTexts.{IsTextOf, DefinesIndex, MadeIndex, makes_index}
use Rattle.agv_store_create.proofs.NamesKept.{same_use}
use Rattle.agv_store_create.proofs.TablesKept.{Grows, grows_none, grows_again}

-- the steps for these texts: one is left out where a schema uses its name
abbrev pub steps_for : Schema → List (List ℕ × List ℕ) → List (Bool × List ℕ)
steps_for s = map (λ (it : List ℕ × List ℕ). (not (is_used s it.0), it.1))

-- no two have one name
abbrev pub are_apart : List (List ℕ × List ℕ) → Bool
are_apart [] = true
are_apart (it ∷ texts) = list_all (λ (other : List ℕ × List ℕ). not (same_name it.0 other.0)) texts && are_apart texts

-- the desk's tables stand, with no row
abbrev pub Stand : Database → Type 0
Stand db = (t : Table) → Has desk_tables t → HasTable db t []

module _ (first : Schema) where
  -- the names are used as they were at first
  abbrev pub UsedAlike : Schema → List (List ℕ × List ℕ) → Type 0
  UsedAlike s = AllByRecursion (λ (it : List ℕ × List ℕ). is_used s it.0 ≡ is_used first it.0)

  pub used_still : (sql : List ℕ) (index : PlainIndex) (d : DefinesIndex sql index) (old new : Database) → MadeIndex sql index d old new → (texts : List (List ℕ × List ℕ))
      → list_all (λ (other : List ℕ × List ℕ). not (same_name index.name other.0)) texts ≡ true → UsedAlike old.schema texts → UsedAlike new.schema texts
  used_still sql index d old new made [] apart alike = tt
  used_still sql index d old new made (it ∷ texts) apart alike =
      let p = and_parts _ _ apart in
      (same_use old.schema new.schema it.0 (made.names it.0 (not-true _ p.0)) ∙ alike.0, used_still sql index d old new made texts p.1 alike.1)

  -- the indexes are made, and the tables stay
  pub record HaveIndexes (old new : Database) (indexes : List PlainIndex) : Type 0 where
    pub schema_is : new.schema ≡ fold with_new_index old.schema indexes
    pub grows : Grows old new

  -- one text is run, or left out
  abbrev Next : List (List ℕ × List ℕ) → PlainIndex → List (Bool × List ℕ) → Database → Database → Type 0
  Next texts index steps old new = (next : Database) × (next.schema ≡ with_new_index old.schema index) × Grows old next × UsedAlike next.schema texts × RunSteps steps next new

  left_out : (s : Schema) (index : PlainIndex) → is_used s index.name ≡ true → s ≡ with_new_index s index
  left_out s index used = rw used refl

  one_step : (it : List ℕ × List ℕ) (index : PlainIndex) (is : IsTextOf it index) (texts : List (List ℕ × List ℕ)) → list_all (λ (other : List ℕ × List ℕ). not (same_name it.0 other.0)) texts ≡ true
      → (steps : List (Bool × List ℕ)) (old new : Database) → UsedAlike old.schema (it ∷ texts) → HasTable old is.defines.table []
      → (b : Bool) → is_used first it.0 ≡ b → RunSteps ((not b, it.1) ∷ steps) old new → Next texts index steps old new
  one_step it index is texts apart steps old new alike stands true used ran =
      (old, left_out old.schema index (subst (λ n. is_used old.schema n ≡ true) is.name (alike.0 ∙ used)), grows_none old, alike.1, ran)
  one_step it index is texts apart steps old new alike stands false used ran =
      let made = makes_index it.1 index is.defines old ran.0 stands (subst (λ n. is_used old.schema n ≡ false) is.name (alike.0 ∙ used)) ran.1 in
      let differ = subst (λ n. list_all (λ (other : List ℕ × List ℕ). not (same_name n other.0)) texts ≡ true) is.name apart in
      (ran.0, made.schema_is, made.grows, used_still it.1 index is.defines old ran.0 made texts differ alike.1, ran.2)

  pub makes_indexes : (texts : List (List ℕ × List ℕ)) (indexes : List PlainIndex) (are : AllZip IsTextOf texts indexes) → are_apart texts ≡ true → (steps : List (Bool × List ℕ)) (old new : Database)
      → UsedAlike old.schema texts → Stand old → RunSteps (steps_for first texts ++ steps) old new → (mid : Database) × HaveIndexes old mid indexes × RunSteps steps mid new
  makes_indexes [] [] are apart steps old new alike stand ran = (old, record { schema_is = refl; grows = grows_none old }, ran)
  makes_indexes [] (index ∷ indexes) are apart steps old new alike stand ran = absurd are
  makes_indexes (it ∷ texts) [] are apart steps old new alike stand ran = absurd are
  makes_indexes (it ∷ texts) (index ∷ indexes) are apart steps old new alike stand ran =
      let p = and_parts _ _ apart in
      let one = one_step it index are.0 texts p.0 (steps_for first texts ++ steps) old new alike (stand are.0.defines.table are.0.among) (is_used first it.0) refl ran in
      let next = one.0 in
      let more = makes_indexes texts indexes are.1 p.1 steps next new one.3 (λ t h. one.2.stands t [] (stand t h)) one.4 in (
        more.0,
        record { schema_is = more.1.schema_is ∙ ap (λ s. fold with_new_index s indexes) one.1; grows = grows_again old next more.0 one.2 more.1.grows },
        more.2,
      )
