-- The first schema's tables stand where each of the eleven stands alike, no key refers to one of them, and no two tables have one tree.
use Rattle.std.proofs.Common.{◌≡◌, ◌≢◌, ◌↔◌, ℕ, zero, suc, Bool, true, List, [], ◌∷◌, map, drop, take, None, IfOk, IsTrue, Result, Ok, Err, refl, sym, ap, subst}
use Rattle.std.proofs.lemmas.Bool.{and_from, and_parts}
use Rattle.std.specs.List.{AllByRecursion, AllZip, list_all}
use Rattle.sqlite_resolve.specs.Compile.{table_defined_by}
use Rattle.sqlite_schema.specs.declared.schema.Schema.{Schema}
use Rattle.sqlite_schema.specs.declared.schema.Table.{Table}
use Rattle.sqlite_trees.specs.Tree.{IsAscending}
use Rattle.agv_header.specs.declared.memory.Memory.{Memory}
use Rattle.agv_store_migrate.specs.FirstFound.{FirstTablesStand}
use Rattle.agv_store_migrate.specs.FirstRows.{IsFirstDesk, first_names, is_first}
use Rattle.agv_store_schema.specs.DeskRows.{Placing, StandApart, TableKeys, TableStands, is_unreferred, table_for}
use Rattle.agv_store_schema.specs.Schema.{desk_tables}
use Rattle.agv_store_create.specs.SchemaTexts.{DefineTables, table_texts}
use Rattle.agv_store_create.specs.StandingTables.{IsPlain, AnyStands, StandsAlike, meta_forms}
use Rattle.agv_store_schema.specs.declared.table_name.TableName.{TableName}
use Rattle.agv_store_schema.specs.declared.table_name.TableName.TheVariants as the
use Rattle.agv_store_create.proofs.TablesStand.{MetaStands, form_of, form_stands, with_rowid_column, one_form, others_plain, stands_as_form, the_others, which_form}

-- ---- the eleven as a list

-- what holds of each of the eleven
abbrev Each : (TableName → Type 0) → Type 0
Each P = (name : TableName) → is_first name ≡ true → P name

listed : (P : TableName → Type 0) → Each P → AllByRecursion P first_names
listed P each =
    (each the.Meta refl, (each the.Node refl, (each the.Edge refl, (each the.Station refl, (each the.Vehicle refl, (each the.Trip refl, (each the.Leg refl, (each the.Load refl, (each the.Job refl, (each the.Hold refl, (each the.Used refl, tt)))))))))))

named : (P : TableName → Type 0) → AllByRecursion P first_names → Each P
named P all the.Meta is = all.0
named P all the.Node is = all.1.0
named P all the.Edge is = all.1.1.0
named P all the.Station is = all.1.1.1.0
named P all the.Vehicle is = all.1.1.1.1.0
named P all the.Trip is = all.1.1.1.1.1.0
named P all the.Leg is = all.1.1.1.1.1.1.0
named P all the.Load is = all.1.1.1.1.1.1.1.0
named P all the.Job is = all.1.1.1.1.1.1.1.1.0
named P all the.Hold is = all.1.1.1.1.1.1.1.1.1.0
named P all the.Used is = all.1.1.1.1.1.1.1.1.1.1.0
named P all the.Capacity is = absurd (cc is)
named P all the.Journey is = absurd (cc is)
named P all the.Act is = absurd (cc is)

first_of : {A : Type 0} (P : A → Type 0) (n : ℕ) (xs : List A) → AllByRecursion P xs → AllByRecursion P (take n xs)
first_of P zero xs all = tt
first_of P (suc n) [] all = tt
first_of P (suc n) (x ∷ xs) all = (all.0, first_of P n xs all.1)

first_zip : {A B : Type 0} (R : A → B → Type 0) (n : ℕ) (xs : List A) (ys : List B) → AllZip R xs ys → AllZip R (take n xs) (take n ys)
first_zip R zero xs ys all = tt
first_zip R (suc n) [] [] all = tt
first_zip R (suc n) [] (y ∷ ys) all = absurd all
first_zip R (suc n) (x ∷ xs) [] all = absurd all
first_zip R (suc n) (x ∷ xs) (y ∷ ys) all = (all.0, first_zip R n xs ys all.1)

-- all of these but the first
abbrev pub the_ten : {A : Type 0} → List A → List A
the_ten xs = take 10 (drop 1 xs)

pub ten_plain : AllByRecursion IsPlain (the_ten desk_tables)
ten_plain = first_of IsPlain 10 the_others others_plain

pub ten_defined : DefineTables → AllZip (λ text (table : Table). table_defined_by text ≡ Ok table) (the_ten table_texts) (the_ten desk_tables)
ten_defined all = first_zip (λ text (table : Table). table_defined_by text ≡ Ok table) 10 (drop 1 table_texts) the_others all.1

-- ---- names that no key refers to

passed : {A : Type 0} (p : A → Bool) (xs : List A) → list_all p xs ≡ true → AllByRecursion (λ x. p x ≡ true) xs
passed p [] all = tt
passed p (x ∷ xs) all = let parts = and_parts (p x) (list_all p xs) all in (parts.0, passed p xs parts.1)

passing : {A : Type 0} (p : A → Bool) (xs : List A) → AllByRecursion (λ x. p x ≡ true) xs → list_all p xs ≡ true
passing p [] each = refl
passing p (x ∷ xs) each = and_from (p x) (list_all p xs) each.0 (passing p xs each.1)

-- the names of the eleven tables
abbrev pub eleven_names : List (List ℕ)
eleven_names = map (λ (name : TableName). (table_for name).name) first_names

abbrev pub are_unreferred : List Table → Bool
are_unreferred tables = list_all (λ name. is_unreferred name tables) eleven_names

unreferred : (tables : List Table) → are_unreferred tables ≡ true → Each (λ name. is_unreferred (table_for name).name tables ≡ true)
unreferred tables all = named (λ name. is_unreferred (table_for name).name tables ≡ true) (passed (λ name. is_unreferred name tables) eleven_names all)

-- ---- the placing

-- the tree and the keys of each of the eleven that stand alike
module _ (s : Schema) (meta : MetaStands s) (all : AllByRecursion (StandsAlike s) (the_ten desk_tables)) where
  abbrev its_place : {table : Table} → StandsAlike s table → ℕ × TableKeys
  its_place it = (it.tree, with_rowid_column meta.rowid_column it.keys)

  placed_at : TableName → ℕ × TableKeys
  placed_at the.Meta = its_place meta.it
  placed_at the.Node = its_place all.0
  placed_at the.Edge = its_place all.1.0
  placed_at the.Station = its_place all.1.1.0
  placed_at the.Vehicle = its_place all.1.1.1.0
  placed_at the.Trip = its_place all.1.1.1.1.0
  placed_at the.Leg = its_place all.1.1.1.1.1.0
  placed_at the.Load = its_place all.1.1.1.1.1.1.0
  placed_at the.Job = its_place all.1.1.1.1.1.1.1.0
  placed_at the.Hold = its_place all.1.1.1.1.1.1.1.1.0
  placed_at the.Used = its_place all.1.1.1.1.1.1.1.1.1.0
  placed_at _ = (0, record { primary = []; indexed = []; rowid_column = None })

  -- it stands alike, in that place
  record StandsThere (name : TableName) : Type 0 where
    it : StandsAlike s (form_of meta.rowid_column name)
    same : placed_at name ≡ its_place it

  there_each : Each StandsThere
  unfolding placed_at
  there_each the.Meta is = record { it = meta.it; same = refl }
  there_each the.Node is = record { it = all.0; same = refl }
  there_each the.Edge is = record { it = all.1.0; same = refl }
  there_each the.Station is = record { it = all.1.1.0; same = refl }
  there_each the.Vehicle is = record { it = all.1.1.1.0; same = refl }
  there_each the.Trip is = record { it = all.1.1.1.1.0; same = refl }
  there_each the.Leg is = record { it = all.1.1.1.1.1.0; same = refl }
  there_each the.Load is = record { it = all.1.1.1.1.1.1.0; same = refl }
  there_each the.Job is = record { it = all.1.1.1.1.1.1.1.0; same = refl }
  there_each the.Hold is = record { it = all.1.1.1.1.1.1.1.1.0; same = refl }
  there_each the.Used is = record { it = all.1.1.1.1.1.1.1.1.1.0; same = refl }
  there_each the.Capacity is = absurd (cc is)
  there_each the.Journey is = absurd (cc is)
  there_each the.Act is = absurd (cc is)

  they_stand_so : are_unreferred s.tables ≡ true → IsAscending (λ (t u : Table). t.tree ≢ u.tree) s.tables → FirstTablesStand s
  they_stand_so free apart =
      let at : Placing = record { schema = s; tree = λ name. (placed_at name).0; keys = λ name. (placed_at name).1 } in
      let stands : (name : TableName) → is_first name ≡ true → TableStands at name = λ name is.
      let there = there_each name is in
      stands_as_form s at meta.rowid_column name there.it refl (ap (λ (p : ℕ × TableKeys). p.0) there.same) (ap (λ (p : ℕ × TableKeys). p.1) there.same) (unreferred s.tables free name is) in
      (at, record { stands = stands; apart = apart }, refl)

they_stand : (s : Schema) → are_unreferred s.tables ≡ true → IsAscending (λ (t u : Table). t.tree ≢ u.tree) s.tables → AnyStands s meta_forms → AllByRecursion (StandsAlike s) (the_ten desk_tables) → FirstTablesStand s
they_stand s free apart one all = they_stand_so s (which_form s one) all free apart

pub each_alike : (s : Schema) → FirstTablesStand s → AnyStands s meta_forms × AllByRecursion (StandsAlike s) (the_ten desk_tables)
each_alike s stand =
    let at = stand.0 in
    let alike : Each (λ name. StandsAlike s (form_of (at.keys name).rowid_column name)) = λ name first. form_stands s at name (stand.1.stands name first) stand.2 in (
      one_form s (at.keys the.Meta).rowid_column (alike the.Meta refl),
      (alike the.Node refl, (alike the.Edge refl, (alike the.Station refl, (alike the.Vehicle refl, (alike the.Trip refl, (alike the.Leg refl, (alike the.Load refl, (alike the.Job refl, (alike the.Hold refl, (alike the.Used refl, tt)))))))))),
    )

pub none_refers : (s : Schema) → FirstTablesStand s → are_unreferred s.tables ≡ true
none_refers s stand =
    passing (λ name. is_unreferred name s.tables) eleven_names
    (listed (λ name. is_unreferred (table_for name).name s.tables ≡ true) (λ name first. subst (λ (u : Schema). is_unreferred (table_for name).name u.tables ≡ true) (sym stand.2) (stand.1.stands name first).unreferred))

pub are_apart : (s : Schema) → FirstTablesStand s → IsAscending (λ (t u : Table). t.tree ≢ u.tree) s.tables
are_apart s stand = subst (λ (u : Schema). IsAscending (λ (t v : Table). t.tree ≢ v.tree) u.tables) (sym stand.2) stand.1.apart

pub told_so : (s : Schema) (r : Result Bool Memory) → are_unreferred s.tables ≡ true → IsAscending (λ (t u : Table). t.tree ≢ u.tree) s.tables → AnyStands s meta_forms
    → IfOk r (λ b. IsTrue b ↔ AllByRecursion (StandsAlike s) (the_ten desk_tables)) → IfOk r (λ b. IsTrue b ↔ FirstTablesStand s)
told_so s (Ok b) free apart meta h = ((λ yes. they_stand s free apart meta (h.0 yes)), (λ stand. h.1 (each_alike s stand).1))
told_so s (Err e) free apart meta h = tt

-- the eleven stand also where others of the fourteen don't
pub stand_apart : (at : Placing) → IsFirstDesk at → StandApart at first_names
stand_apart at is = record { stands = listed (TableStands at) is.stands; apart = is.apart }
