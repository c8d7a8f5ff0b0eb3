-- The texts of the tables make them, one after the other, where their names are free.
use Rattle.std.proofs.Common.{◌≡◌, ◌∙◌, ◌&&◌, not, ℕ, Bool, true, false, List, [], ◌∷◌, ◌++◌, map, fold, refl, sym, ap, subst}
use Rattle.std.specs.List.{AllByRecursion, AllZip, list_all}
use Rattle.std.proofs.lemmas.Bool.{and_parts, not-true}
use Rattle.sqlite_schema.specs.declared.schema.Schema.{Schema}
use Rattle.sqlite_schema.specs.declared.schema.Table.{Table}
use Rattle.sqlite_schema.specs.Names.{same_name}
use Rattle.sqlite_catalog.specs.Change.{is_used}
use Rattle.sqlite.specs.Effect.{Database, IsDatabase}
use Rattle.agv_store_create.specs.DeskSchema.{with_new_table}
use Rattle.agv_store_create.specs.DeskTables.{HasTable}
use Rattle.agv_store_create.specs.TextsRun.{RunSteps}
use Rattle.agv_store_create.proofs.Creations.{DefinesTable, makes_table}
use Rattle.agv_store_create.proofs.NamesKept.{IsOwn, KeepsName, keeps_again, new_table_keeps, same_use}
use Rattle.agv_store_create.proofs.TablesKept.{Grows, grows_none, grows_again}

-- no two have one name
abbrev pub are_apart : List Table → Bool
are_apart [] = true
are_apart (t ∷ tables) = list_all (λ (u : Table). not (same_name t.name u.name)) tables && are_apart tables

abbrev pub AreFree : Schema → List Table → Type 0
AreFree schema = AllByRecursion (λ (t : Table). is_used schema t.name ≡ false)

abbrev pub AreOwn : List Table → Type 0
AreOwn = AllByRecursion (λ (t : Table). IsOwn t.name)

-- the names of the others stay free
free_still : (s : Schema) (t : Table) (tables : List Table) → list_all (λ (u : Table). not (same_name t.name u.name)) tables ≡ true → AreOwn tables → AreFree s tables → AreFree (with_new_table s t) tables
free_still s t [] apart own free = tt
free_still s t (u ∷ tables) apart own free =
    let p = and_parts _ _ apart in
    (same_use s (with_new_table s t) u.name (new_table_keeps u.name own.0 s t (not-true _ p.0)) ∙ free.0, free_still s t tables p.1 own.1 free.1)

-- a name that none of the tables has
pub tables_keep : (name : List ℕ) → IsOwn name → (s : Schema) (tables : List Table) → list_all (λ (t : Table). not (same_name t.name name)) tables ≡ true → KeepsName s (fold with_new_table s tables) name
tables_keep name own s [] other = record { table = refl; index = refl; views = refl }
tables_keep name own s (t ∷ tables) other =
    let p = and_parts _ _ other in
    keeps_again s (with_new_table s t) (fold with_new_table s (t ∷ tables)) name (new_table_keeps name own s t (not-true _ p.0)) (tables_keep name own (with_new_table s t) tables p.1)

-- an opening reads the schema in the trees, where one of the tables was made
abbrev pub IsListed : List Table → Database → Type 0
IsListed [] db = Unit {0}
IsListed (t ∷ tables) db = IsDatabase db

-- the tables stand behind those that were there, with no row
pub record HaveTables (old new : Database) (tables : List Table) : Type 0 where
  pub schema_is : new.schema ≡ fold with_new_table old.schema tables
  pub grows : Grows old new
  pub stand : AllByRecursion (λ t. HasTable new t []) tables
  pub listed : IsListed tables new
  pub listed_still : IsDatabase old → IsDatabase new

pub makes_tables : (texts : List (List ℕ)) (tables : List Table) → AllZip DefinesTable texts tables → are_apart tables ≡ true → AreOwn tables
    → (steps : List (Bool × List ℕ)) (old new : Database) → AreFree old.schema tables → RunSteps (map (λ text. (true, text)) texts ++ steps) old new
    → (mid : Database) × HaveTables old mid tables × RunSteps steps mid new
makes_tables [] [] defined apart own steps old new free ran = (old, record { schema_is = refl; grows = grows_none old; stand = tt; listed = tt; listed_still = λ whole. whole }, ran)
makes_tables [] (t ∷ tables) defined apart own steps old new free ran = absurd defined
makes_tables (sql ∷ texts) [] defined apart own steps old new free ran = absurd defined
makes_tables (sql ∷ texts) (t ∷ tables) defined apart own steps old new free ran =
    let p = and_parts _ _ apart in
    let next = ran.0 in
    let one = makes_table sql t defined.0 old next free.0 ran.1 in
    let others = free_still old.schema t tables p.0 own.1 free.1 in
    let more = makes_tables texts tables defined.1 p.1 own.1 steps next new (subst (λ s. AreFree s tables) (sym one.schema_is) others) ran.2 in (
      more.0,
      record {
        schema_is = more.1.schema_is ∙ ap (λ s. fold with_new_table s tables) one.schema_is;
        grows = grows_again old next more.0 one.grows more.1.grows;
        stand = (more.1.grows.stands t [] one.stands, more.1.stand);
        listed = more.1.listed_still one.listed;
        listed_still = λ whole. more.1.listed_still one.listed;
      },
      more.2,
    )
