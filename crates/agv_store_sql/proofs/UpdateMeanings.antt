-- What the texts that write a row over those of its key mean, wherever the desk's tables stand, and what they do.
use Rattle.std.proofs.Common.{◌≡◌, ◌∙◌, ◌++◌, inl, inr, [], ◌∷◌, ℕ, zero, suc, not, false, true, Bool, List, None, Result, Ok, Err, OnOk, IfOk, filter, length, map, refl, sym, ap, subst}
use Rattle.std.proofs.lemmas.Bool.{cases_Bool}
use Rattle.std.proofs.lemmas.List.Elements.{filter-append}
use Rattle.sqlite_value.specs.Order.{Row}
use Rattle.sqlite_schema.specs.declared.schema.Schema.{Schema}
use Rattle.sqlite_schema.specs.declared.command.Command.TheVariants.{Update}
use Rattle.sqlite_draft.specs.declared.join.Step.TheVariants.{Inner}
use Rattle.sqlite_resolve.specs.Write.{simple}
use Rattle.sqlite_tied.specs.Compute.{everything}
use Rattle.sqlite.specs.declared.error.Error.{Error}
use Rattle.sqlite.specs.State.{State, Executes}
use Rattle.agv_store_schema.specs.DeskRows.{TableKeys, Placing, FitsTable, Holds, IsDesk, Makes, has_columns, on_table, place_of, rowid_column_of, table_at, table_for, table_written, with_put_by, with_row}
use Rattle.agv_store_sql.specs.RowUpdates.{Counts, IsKeyOf, is_updated, update_text, with_each}
use Rattle.agv_store_schema.specs.declared.table_name.TableName.{TableName}
use Rattle.agv_store_schema.specs.declared.table_name.TableName.TheVariants as the
use Rattle.agv_store_schema.proofs.OnTables.{on_table-twice}
use Rattle.agv_store_schema.proofs.DeskPlaces.{is_in}
use Rattle.agv_store_schema.proofs.OneTable.{IsIn, Means, query_by}
use Rattle.agv_store_sql.proofs.sql.OneTableTexts.{IsReadToChange, change_means}
use Rattle.agv_store_sql.proofs.DeskStatements.{RunsInside, key_passes, makes, makes_then, within}
use Rattle.agv_store_sql.proofs.RowForms.{Lands, rows_updated}
use Rattle.agv_store_sql.proofs.RowMeanings.{key_terms, over_terms}

-- ---- the texts

abbrev Updates : TableName → Type 0
Updates name = (s : Schema) (at tree : ℕ) (keys : TableKeys) → IsIn s (table_for name).name (table_written name tree keys) at → Means s (update_text name) (Update at (record { lets = []; body = query_by tree (key_terms name) (over_terms name) }))

-- what SQL reads of the text
abbrev ReadsUpdate : TableName → Type 0
ReadsUpdate name = (tree : ℕ) (keys : TableKeys) → IsReadToChange false (table_written name tree keys) (update_text name) (simple (Inner tree ∷ []) (key_terms name) (over_terms name))

-- each text is evaluated here: in a clause it would be evaluated twice
record EachUpdate : Type 0 where
  vehicle : ReadsUpdate the.Vehicle
  journey : ReadsUpdate the.Journey
  load : ReadsUpdate the.Load
  job : ReadsUpdate the.Job
  act : ReadsUpdate the.Act

each_update : EachUpdate
unfolding everything
each_update = record {
  vehicle = λ tree keys. refl;
  journey = λ tree keys. refl;
  load = λ tree keys. refl;
  job = λ tree keys. refl;
  act = λ tree keys. refl;
}

update_reads : (name : TableName) → is_updated name ≡ true → ReadsUpdate name
update_reads the.Meta is = absurd (cc is)
update_reads the.Node is = absurd (cc is)
update_reads the.Edge is = absurd (cc is)
update_reads the.Station is = absurd (cc is)
update_reads the.Trip is = absurd (cc is)
update_reads the.Leg is = absurd (cc is)
update_reads the.Hold is = absurd (cc is)
update_reads the.Used is = absurd (cc is)
update_reads the.Capacity is = absurd (cc is)
update_reads the.Vehicle is = each_update.vehicle
update_reads the.Journey is = each_update.journey
update_reads the.Load is = each_update.load
update_reads the.Job is = each_update.job
update_reads the.Act is = each_update.act

updates : (name : TableName) → is_updated name ≡ true → Updates name
updates name is s at tree keys stands =
    change_means s (table_written name tree keys) at stands (update_text name) (key_terms name) (over_terms name) (update_reads name is tree keys)

updated_no_rowid_column : (name : TableName) → is_updated name ≡ true → (keys : TableKeys) → rowid_column_of name keys ≡ None
updated_no_rowid_column the.Meta is keys = absurd (cc is)
updated_no_rowid_column _ is keys = refl

-- ---- inside a transaction

module _ (name : TableName) (updated : is_updated name ≡ true) (sql : List ℕ) (text : sql ≡ update_text name) (row : Row) (fit : FitsTable name row)
    (old new : State) (r : Result ℕ Error) (ran : RunsInside sql row old new r) where
  abbrev columns : List ℕ
  columns = (table_for name).primary

  abbrev SetsRows : Placing → (Row → Bool) → ℕ → Type 0
  SetsRows desk p count =
      Lands desk old.now new.now (on_table (place_of name) (λ rows. map (λ _. row) (filter p rows) ++ filter (λ other. not (p other)) rows))
      × ((lists : List (List Row)) → Holds desk old.now lists → count ≡ length (filter p (table_at (place_of name) lists)))

  sets_rows : (desk : Placing) → IsDesk desk → old.now.schema ≡ desk.schema → (count : ℕ) → Executes (update_text name) row old new (Ok count) → SetsRows desk (has_columns columns row) count
  sets_rows desk is has count done =
      subst (λ p. SetsRows desk p count) (key_passes name row)
      (rows_updated desk is name old new has (updated_no_rowid_column name updated (desk.keys name)) (update_text name) row fit (key_terms name) (within name)
      (updates name updated desk.schema (is.stands name).at (desk.tree name) (desk.keys name) (is_in desk is name)) count done)

  pub updates_row : OnOk r (Makes (with_each name columns row) old new)
  updates_row = makes (with_each name columns row) (update_text name) row old new r (λ desk is has count done. (sets_rows desk is has count done).0) (subst (λ t. RunsInside t row old new r) text ran)

  pub updates_counted : IfOk r (Counts name columns row old)
  updates_counted = counted r (subst (λ t. RunsInside t row old new r) text ran)
    where
      counted : (q : Result ℕ Error) → RunsInside (update_text name) row old new q → IfOk q (Counts name columns row old)
      counted (Err e) runs = tt
      counted (Ok count) runs = elim (cases_Bool old.in_transaction) [
        | inl inside ↦ λ desk is lists h. (sets_rows desk is h.schema_is count (runs.1 inside).0).1 lists h
        | inr outside ↦ absurd (let e = runs.0 outside in cc)
      ]

-- ---- a row in the place of that of its key

pub on_table-agree : (at : ℕ) (f g : List Row → List Row) (lists : List (List Row)) → f (table_at at lists) ≡ g (table_at at lists) → on_table at f lists ≡ on_table at g lists
on_table-agree at f g [] same = refl
on_table-agree zero f g (rows ∷ lists) same = ap (λ now. now ∷ lists) same
on_table-agree (suc at) f g (rows ∷ lists) same = ap (λ more. rows ∷ more) (on_table-agree at f g lists same)

-- a change of the rows that the tables have is another change, if it makes the same of them
pub remade : (f g : List (List Row) → List (List Row)) (a b : State) → Makes f a b → ((desk : Placing) → IsDesk desk → (lists : List (List Row)) → Holds desk a.now lists → f lists ≡ g lists) → Makes g a b
remade f g a b m same = record {
  made = λ desk is lists h. subst (Holds desk b.now) (same desk is lists h) (m.made desk is lists h);
  others = m.others;
  listed = m.listed;
  kept = m.kept;
  mode = m.mode;
}

module _ (name : TableName) (columns : List ℕ) (key row : Row) (is_key : IsKeyOf columns key row) where
  abbrev has : Row → Bool
  has = has_columns columns row

  abbrev lacks : Row → Bool
  lacks other = not (has_columns columns row other)

  abbrev copies : List Row → List Row
  copies rows = map (λ _. row) (filter has rows)

  abbrev put : List Row → List Row
  put rows = row ∷ filter (λ other. not (has_columns columns key other)) rows

  put_is : (lists : List (List Row)) → with_put_by name columns key row lists ≡ on_table (place_of name) put lists
  put_is lists = on_table-twice (place_of name) (λ rows. row ∷ rows) (filter (λ other. not (has_columns columns key other))) lists

  -- the rows that stay are told by the row as by the key
  stay : (rows : List Row) → filter lacks rows ≡ filter (λ other. not (has_columns columns key other)) rows
  stay rows = λ i. filter (λ other. not (sym (is_key.alike other) i)) rows

  one_copy : (rows : List Row) → 1 ≡ length (filter has rows) → copies rows ≡ row ∷ []
  one_copy rows = go (filter has rows)
    where
      go : (found : List Row) → 1 ≡ length found → map (λ _. row) found ≡ row ∷ []
      go [] n = absurd (cc)
      go (x ∷ []) n = refl
      go (x ∷ y ∷ more) n = absurd (cc)

  no_copy : (rows : List Row) → 0 ≡ length (filter has rows) → copies rows ≡ []
  no_copy rows = go (filter has rows)
    where
      go : (found : List Row) → 0 ≡ length found → map (λ _. row) found ≡ []
      go [] n = refl
      go (x ∷ more) n = absurd (cc)

  -- copies have the key
  none_lack : (found : List Row) → filter lacks (map (λ _. row) found) ≡ []
  none_lack [] = refl
  none_lack (x ∷ found) = rw (is_key.itself, none_lack found)

  lack_twice : (rows : List Row) → filter lacks (filter lacks rows) ≡ filter lacks rows
  lack_twice [] = refl
  lack_twice (x ∷ rows) = elim (cases_Bool (lacks x)) [ inl h ↦ rw (h, h, lack_twice rows) | inr h ↦ rw (h, lack_twice rows) ]

  -- one row was written over
  pub over_one : (a b : State) → Counts name columns row a 1 → Makes (with_each name columns row) a b → Makes (with_put_by name columns key row) a b
  over_one a b counted made =
      remade (with_each name columns row) (with_put_by name columns key row) a b made (λ desk is lists h.
      on_table-agree (place_of name) _ put lists (ap (λ (front : List Row). front ++ filter lacks (table_at (place_of name) lists)) (one_copy _ (counted desk is lists h)) ∙ ap (λ rest. row ∷ rest) (stay _))
      ∙ sym (put_is lists))

  -- none was there, and it is added
  pub over_none : (a b c : State) → Counts name columns row a 0 → Makes (with_each name columns row) a b → Makes (with_row name row) b c → Makes (with_put_by name columns key row) a c
  over_none a b c counted made added =
      remade (λ lists. with_row name row (with_each name columns row lists)) (with_put_by name columns key row) a c (makes_then (with_each name columns row) (with_row name row) a b c made added) (λ desk is lists h.
      on_table-twice (place_of name) (λ rows. row ∷ rows) (λ rows. copies rows ++ filter lacks rows) lists
      ∙ on_table-agree (place_of name) _ put lists (ap (λ (front : List Row). row ∷ (front ++ filter lacks (table_at (place_of name) lists))) (no_copy _ (counted desk is lists h)) ∙ ap (λ rest. row ∷ rest) (stay _))
      ∙ sym (put_is lists))

  -- several were written over, and it is put in their place
  pub over_more : (a b c : State) → Makes (with_each name columns row) a b → Makes (with_put_by name columns key row) b c → Makes (with_put_by name columns key row) a c
  over_more a b c made again =
      remade (λ lists. with_put_by name columns key row (with_each name columns row lists)) (with_put_by name columns key row) a c
      (makes_then (with_each name columns row) (with_put_by name columns key row) a b c made again) (λ desk is lists h.
      put_is (with_each name columns row lists) ∙ on_table-twice (place_of name) put (λ rows. copies rows ++ filter lacks rows) lists
      ∙ on_table-agree (place_of name) _ put lists (rest (table_at (place_of name) lists)) ∙ sym (put_is lists))
    where
      rest : (rows : List Row) → put (copies rows ++ filter lacks rows) ≡ put rows
      rest rows = ap (λ (others : List Row). row ∷ others)
          (sym (stay (copies rows ++ filter lacks rows)) ∙ filter-append lacks (copies rows) (filter lacks rows)
          ∙ ap (λ (front : List Row). front ++ filter lacks (filter lacks rows)) (none_lack (filter has rows)) ∙ lack_twice rows ∙ stay rows)
