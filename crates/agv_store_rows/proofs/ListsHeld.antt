-- A database whose tables have the rows of some lists: they have those of all lists that are alike, and of no others.
use Rattle.std.proofs.Common.{◌≡◌, ℕ, List, [], ◌∷◌, slice_get, IsPermutation, sym, ap, subst, ◌∙◌}
use Rattle.std.proofs.lemmas.List.Sorted.{IsPermutation-refl, IsPermutation-sym, IsPermutation-trans}
use Rattle.std.proofs.lemmas.Option.{same_Some}
use Rattle.std.specs.List.{AllZip}
use Rattle.sqlite_value.specs.Order.{Row}
use Rattle.sqlite_schema.specs.Names.{table_named}
use Rattle.sqlite_schema.specs.declared.schema.Schema.{Schema}
use Rattle.sqlite_schema.specs.declared.schema.Table.{Table}
use Rattle.sqlite.specs.Effect.{Database}
use Rattle.agv_world_core.specs.Changes.{changed}
use Rattle.agv_world_core.specs.Maps.{Maps}
use Rattle.agv_world_core.specs.declared.change.Change.{Change}
use Rattle.agv_store_schema.specs.DeskRows.{Placing, Holds, HaveRows, IsDesk, TableHas, rowid_column_of, shown_in, table_for, table_in, table_names, width_of}
use Rattle.agv_store_rows.specs.Rows.{ActsAreOfJobs, AreAlike, TellRows, listed_all, row_lists}
use Rattle.agv_store_schema.specs.declared.table_name.TableName.{TableName}
use Rattle.agv_store_schema.proofs.DeskPlaces.{shown_by_key}

-- ---- lists

pub alike_itself : (lists : List (List Row)) → AreAlike lists lists
alike_itself [] = tt
alike_itself (rows ∷ lists) = (IsPermutation-refl rows, alike_itself lists)

module _ {A : Type 0} (R : A → List Row → Type 0) where
  -- what holds of the rows in one order holds of them in another
  zip_alike : ((a : A) (xs ys : List Row) → IsPermutation xs ys → R a xs → R a ys) → (names : List A) (lists others : List (List Row)) → AreAlike lists others → AllZip R names lists → AllZip R names others
  zip_alike other [] [] [] h g = tt
  zip_alike other [] [] (ys ∷ others) h g = absurd h
  zip_alike other [] (xs ∷ lists) others h g = absurd g
  zip_alike other (a ∷ names) [] others h g = absurd g
  zip_alike other (a ∷ names) (xs ∷ lists) [] h g = absurd h
  zip_alike other (a ∷ names) (xs ∷ lists) (ys ∷ others) h g = (other a xs ys h.0 g.0, zip_alike other names lists others h.1 g.1)

  -- and where it holds of the same rows alone, lists of which it holds are alike
  alike_zip : ((a : A) (xs ys : List Row) → R a xs → R a ys → IsPermutation xs ys) → (names : List A) (lists others : List (List Row)) → AllZip R names lists → AllZip R names others → AreAlike lists others
  alike_zip same [] [] [] h g = tt
  alike_zip same [] [] (ys ∷ others) h g = absurd g
  alike_zip same [] (xs ∷ lists) others h g = absurd h
  alike_zip same (a ∷ names) [] others h g = absurd h
  alike_zip same (a ∷ names) (xs ∷ lists) [] h g = absurd g
  alike_zip same (a ∷ names) (xs ∷ lists) (ys ∷ others) h g = (same a xs ys h.0 g.0, alike_zip same names lists others h.1 g.1)

-- ---- databases

pub held_alike : (desk : Placing) (db : Database) (lists others : List (List Row)) → AreAlike lists others → Holds desk db lists → Holds desk db others
held_alike desk db lists others h held = record {
  schema_is = held.schema_is;
  rows = zip_alike (TableHas desk db.trees)
      (λ name xs ys moved have. (have.0, IsPermutation-trans _ _ _ (IsPermutation-sym _ _ moved) have.1)) table_names lists others h held.rows;
}

alike_held : (desk : Placing) (db : Database) (lists others : List (List Row)) → Holds desk db lists → Holds desk db others → AreAlike lists others
alike_held desk db lists others h g =
    alike_zip (TableHas desk db.trees)
    (λ name xs ys have has. IsPermutation-trans _ _ _ have.1 (IsPermutation-sym _ _ has.1)) table_names lists others h.rows g.rows

-- a table of the desk is one table in a schema
module _ (desk other : Placing) (is : IsDesk desk) (too : IsDesk other) (schema : desk.schema ≡ other.schema) (name : TableName) where
  one_table : table_in desk name ≡ table_in other name
  one_table =
      let first = is.stands name in
      let second = too.stands name in
      let at = same_Some first.at second.at (sym first.named ∙ ap (λ (s : Schema). table_named s (table_for name).name) schema ∙ second.named) in
      same_Some (table_in desk name) (table_in other name) (sym first.there ∙ (λ i. slice_get (schema i).tables (at i)) ∙ second.there)

  one_tree : desk.tree name ≡ other.tree name
  one_tree = ap (λ (t : Table). t.tree) one_table

  shown_alike : shown_in desk name ≡ shown_in other name
  shown_alike = shown_by_key (rowid_column_of name (desk.keys name)) (rowid_column_of name (other.keys name)) (width_of name) (ap (λ (t : Table). t.key) one_table)

-- however the desk's tables are found in it, a database holds one list of rows for each
pub one_lists : (desk other : Placing) (db : Database) (lists others : List (List Row)) → IsDesk desk → IsDesk other → Holds desk db lists → Holds other db others → AreAlike lists others
one_lists desk other db lists others is too h g =
    let schema = sym h.schema_is ∙ g.schema_is in
    alike_held desk db lists others h (record {
      schema_is = h.schema_is;
      rows = subst (λ (it : TableName → (Row → Row) × ℕ). AllZip (λ name rows. HaveRows (it name).0 (db.trees (it name).1) rows) table_names others)
          (λ i name. (sym (shown_alike desk other is too schema name) i, sym (one_tree desk other is too schema name) i)) g.rows;
    })

-- ---- worlds

-- lists that tell the maps of a world tell, after changes of the lists, the maps after those changes
abbrev pub FollowAll : Type 0
FollowAll = (changes : List Change) (lists : List (List Row)) (maps : Maps) → TellRows lists maps → TellRows (listed_all changes lists) (changed changes maps)

pub held_changed : FollowAll → (desk : Placing) (old new : Database) (changes : List Change) (maps : Maps)
    → ((lists : List (List Row)) → Holds desk old lists → Holds desk new (listed_all changes lists))
    → Holds desk old (row_lists maps) → Holds desk new (row_lists (changed changes maps))
held_changed follow desk old new changes maps made h =
    held_alike desk new (listed_all changes (row_lists maps)) (row_lists (changed changes maps)) (follow changes (row_lists maps) maps (alike_itself (row_lists maps))) (made (row_lists maps) h)

-- lists tell the maps of one world
abbrev pub TellOneWorld : Type 0
TellOneWorld = (lists : List (List Row)) (maps others : Maps) → ActsAreOfJobs maps → ActsAreOfJobs others → TellRows lists maps → TellRows lists others → maps ≡ others

pub one_rows_held : TellOneWorld → (desk other : Placing) (db : Database) (a b : Maps) → IsDesk desk → IsDesk other → ActsAreOfJobs a → ActsAreOfJobs b → Holds desk db (row_lists a) → Holds other db (row_lists b) → a ≡ b
one_rows_held tell desk other db a b is too known other_known h g =
    tell (row_lists a) a b known other_known (alike_itself (row_lists a)) (one_lists desk other db (row_lists a) (row_lists b) is too h g)
