-- What the texts on one row mean, wherever the desk's tables stand.
use Rattle.std.proofs.Common.{◌≡◌, [], ◌∷◌, ℕ, zero, suc, true, List, length, map, refl, Option, None, Some}
use Rattle.sqlite_value.specs.declared.value.Value.TheVariants.{Null}
use Rattle.sqlite_value.specs.declared.keys.Collation.{Collation}
use Rattle.sqlite_value.specs.declared.keys.Collation.TheVariants.{Binary}
use Rattle.sqlite_sql.specs.Term.{Term, col, lit}
use Rattle.sqlite_draft.specs.declared.join.Step.TheVariants.{Inner}
use Rattle.sqlite_draft.specs.declared.query.Grouping.{Grouping}
use Rattle.sqlite_schema.specs.declared.schema.Schema.{Schema}
use Rattle.sqlite_schema.specs.declared.command.Source.TheVariants.{Values}
use Rattle.sqlite_schema.specs.declared.command.Command.TheVariants.{Insert, Delete, Select}
use Rattle.sqlite_resolve.specs.Write.{simple}
use Rattle.sqlite_tied.specs.Compute.{everything}
use Rattle.agv_store_schema.specs.DeskRows.{TableKeys, rowid_column_of, table_for, table_written, width_of}
use Rattle.agv_store_schema.specs.RowTexts.{deletion_text, insertion_text, is_looked_up, is_written, look_up_text}
use Rattle.agv_store_schema.specs.declared.table_name.TableName.{TableName}
use Rattle.agv_store_schema.specs.declared.table_name.TableName.TheVariants as the
use Rattle.agv_store_sql.specs.RowQueries.{columns_at}
use Rattle.agv_store_schema.proofs.OneTable.{IsIn, Means, draft_in, is_param, query_by}
use Rattle.agv_store_sql.proofs.sql.OneTableTexts.{IsReadAs, IsReadToAdd, IsReadToChange, addition_means, deletion_means, read_means}

-- so many values of a slot, from a place on
abbrev pub from_slot : ℕ → ℕ → ℕ → List Term
from_slot slot at zero = []
from_slot slot at (suc n) = col slot at ∷ from_slot slot (suc at) n

-- the row: a rowid that the database chooses, and the parameters
abbrev pub row_terms : TableName → List Term
row_terms name = lit Null ∷ from_slot 0 0 (width_of name)

-- a row that is written over one: the rowid of that, and the parameters under the same
abbrev pub over_terms : TableName → List Term
over_terms name = col 1 0 ∷ col 1 0 ∷ from_slot 0 0 (width_of name)

-- the columns of the row
abbrev pub column_terms : TableName → List Term
column_terms name = from_slot 1 1 (width_of name)

-- the key's columns equal the parameters
abbrev pub key_terms : TableName → List Term
key_terms the.Vehicle = is_param 1 0 ∷ is_param 2 1 ∷ []
key_terms the.Leg = is_param 1 0 ∷ is_param 2 1 ∷ []
key_terms the.Hold = is_param 1 0 ∷ is_param 2 1 ∷ []
key_terms the.Used = is_param 1 0 ∷ is_param 2 1 ∷ []
key_terms the.Capacity = is_param 1 0 ∷ is_param 2 1 ∷ []
key_terms the.Act = is_param 1 0 ∷ is_param 2 1 ∷ []
key_terms _ = is_param 1 0 ∷ []

-- the columns by which rows are taken out equal the parameters
abbrev pub deleted_terms : TableName → List Term
deleted_terms the.Act = is_param 1 0 ∷ []
deleted_terms name = key_terms name

-- no such table has the rowid for a column
pub written_no_rowid_column : (name : TableName) → is_written name ≡ true → (keys : TableKeys) → rowid_column_of name keys ≡ None
written_no_rowid_column the.Meta is keys = absurd (cc is)
written_no_rowid_column _ is keys = refl

pub looked_up_no_rowid_column : (name : TableName) → is_looked_up name ≡ true → (keys : TableKeys) → rowid_column_of name keys ≡ None
looked_up_no_rowid_column the.Meta is keys = absurd (cc is)
looked_up_no_rowid_column _ is keys = refl

-- ---- a row is added

abbrev pub Inserts : TableName → Type 0
Inserts name = (s : Schema) (at tree : ℕ) (keys : TableKeys) → IsIn s (table_for name).name (table_written name tree keys) at → Means s (insertion_text name) (Insert at (Values (row_terms name) (suc (width_of name))))

-- what SQL reads of the text, at every schema
abbrev ReadsInsertion : TableName → Type 0
ReadsInsertion name = (s : Schema) (tree : ℕ) (keys : TableKeys) → IsReadToAdd s (table_written name tree keys) (insertion_text name) (Values (row_terms name) (suc (width_of name)))

-- each text is evaluated here: in a clause it would be evaluated twice
record EachInsertion : Type 0 where
  node : ReadsInsertion the.Node
  edge : ReadsInsertion the.Edge
  station : ReadsInsertion the.Station
  vehicle : ReadsInsertion the.Vehicle
  leg : ReadsInsertion the.Leg
  load : ReadsInsertion the.Load
  job : ReadsInsertion the.Job
  hold : ReadsInsertion the.Hold
  used : ReadsInsertion the.Used
  capacity : ReadsInsertion the.Capacity
  journey : ReadsInsertion the.Journey
  act : ReadsInsertion the.Act

insertions : EachInsertion
unfolding everything
insertions = record {
  node = λ s tree keys. refl;
  edge = λ s tree keys. refl;
  station = λ s tree keys. refl;
  vehicle = λ s tree keys. refl;
  leg = λ s tree keys. refl;
  load = λ s tree keys. refl;
  job = λ s tree keys. refl;
  hold = λ s tree keys. refl;
  used = λ s tree keys. refl;
  capacity = λ s tree keys. refl;
  journey = λ s tree keys. refl;
  act = λ s tree keys. refl;
}

insertion_reads : (name : TableName) → is_written name ≡ true → ReadsInsertion name
insertion_reads the.Meta is = absurd (cc is)
insertion_reads the.Trip is = absurd (cc is)
insertion_reads the.Node is = insertions.node
insertion_reads the.Edge is = insertions.edge
insertion_reads the.Station is = insertions.station
insertion_reads the.Vehicle is = insertions.vehicle
insertion_reads the.Leg is = insertions.leg
insertion_reads the.Load is = insertions.load
insertion_reads the.Job is = insertions.job
insertion_reads the.Hold is = insertions.hold
insertion_reads the.Used is = insertions.used
insertion_reads the.Capacity is = insertions.capacity
insertion_reads the.Journey is = insertions.journey
insertion_reads the.Act is = insertions.act

pub inserts : (name : TableName) → is_written name ≡ true → Inserts name
inserts name is s at tree keys stands =
    addition_means s (table_written name tree keys) at stands (insertion_text name) (row_terms name) (suc (width_of name)) (insertion_reads name is s tree keys)

-- ---- the row of a key is taken out, or the acts of an order

abbrev pub Deletes : TableName → Type 0
Deletes name = (s : Schema) (at tree : ℕ) (keys : TableKeys) → IsIn s (table_for name).name (table_written name tree keys) at → Means s (deletion_text name) (Delete at (record { lets = []; body = query_by tree (deleted_terms name) (col 1 0 ∷ []) }))

-- what SQL reads of the text
abbrev ReadsDeletion : TableName → Type 0
ReadsDeletion name = (tree : ℕ) (keys : TableKeys) → IsReadToChange true (table_written name tree keys) (deletion_text name) (simple (Inner tree ∷ []) (deleted_terms name) (col 1 0 ∷ []))

record EachDeletion : Type 0 where
  node : ReadsDeletion the.Node
  edge : ReadsDeletion the.Edge
  station : ReadsDeletion the.Station
  vehicle : ReadsDeletion the.Vehicle
  leg : ReadsDeletion the.Leg
  load : ReadsDeletion the.Load
  job : ReadsDeletion the.Job
  hold : ReadsDeletion the.Hold
  used : ReadsDeletion the.Used
  capacity : ReadsDeletion the.Capacity
  journey : ReadsDeletion the.Journey
  act : ReadsDeletion the.Act

deletions : EachDeletion
unfolding everything
deletions = record {
  node = λ tree keys. refl;
  edge = λ tree keys. refl;
  station = λ tree keys. refl;
  vehicle = λ tree keys. refl;
  leg = λ tree keys. refl;
  load = λ tree keys. refl;
  job = λ tree keys. refl;
  hold = λ tree keys. refl;
  used = λ tree keys. refl;
  capacity = λ tree keys. refl;
  journey = λ tree keys. refl;
  act = λ tree keys. refl;
}

deletion_reads : (name : TableName) → is_written name ≡ true → ReadsDeletion name
deletion_reads the.Meta is = absurd (cc is)
deletion_reads the.Trip is = absurd (cc is)
deletion_reads the.Node is = deletions.node
deletion_reads the.Edge is = deletions.edge
deletion_reads the.Station is = deletions.station
deletion_reads the.Vehicle is = deletions.vehicle
deletion_reads the.Leg is = deletions.leg
deletion_reads the.Load is = deletions.load
deletion_reads the.Job is = deletions.job
deletion_reads the.Hold is = deletions.hold
deletion_reads the.Used is = deletions.used
deletion_reads the.Capacity is = deletions.capacity
deletion_reads the.Journey is = deletions.journey
deletion_reads the.Act is = deletions.act

pub deletes : (name : TableName) → is_written name ≡ true → Deletes name
deletes name is s at tree keys stands =
    deletion_means s (table_written name tree keys) at stands (deletion_text name) (deleted_terms name) (deletion_reads name is tree keys)

-- ---- the row of a key is shown

-- the names of its columns, and how each is compared
abbrev pub column_names : TableName → List (List ℕ)
column_names name = map (λ c. c.name) (table_for name).columns

abbrev pub collations : TableName → List (Option Collation)
collations name = map (λ _. Some Binary) (table_for name).columns

-- SQL reads the text as a query of the table with so many parameters, that shows these terms, under these names, of the rows that pass these tests
abbrev pub ReadsText : Option Grouping → TableName → TableKeys → List ℕ → ℕ → List Term → List Term → List (List ℕ) → List (Option Collation) → Type 0
ReadsText group name keys sql n terms project names compares = (tree : ℕ) → IsReadAs (table_written name tree keys) sql n (draft_in group tree terms project, names, compares)

-- the same of the rows themselves, that shows all columns
abbrev pub ReadsRows : TableName → TableKeys → List ℕ → List ℕ → List Term → Type 0
ReadsRows name keys sql columns terms = ReadsText None name keys sql (length (columns_at name columns)) terms (column_terms name) (column_names name) (collations name)

-- keys, where any will do
abbrev pub no_keys : TableKeys
no_keys = record { primary = []; indexed = []; rowid_column = None }

-- what SQL reads of the text
abbrev pub ReadsLookUp : TableName → Type 0
ReadsLookUp name = (keys : TableKeys) → ReadsRows name keys (look_up_text name) (table_for name).primary (key_terms name)

record EachLookUp : Type 0 where
  node : ReadsLookUp the.Node
  edge : ReadsLookUp the.Edge
  station : ReadsLookUp the.Station
  vehicle : ReadsLookUp the.Vehicle
  load : ReadsLookUp the.Load
  job : ReadsLookUp the.Job
  hold : ReadsLookUp the.Hold
  used : ReadsLookUp the.Used
  capacity : ReadsLookUp the.Capacity

look_ups : EachLookUp
unfolding everything
look_ups = record {
  node = λ keys tree. refl;
  edge = λ keys tree. refl;
  station = λ keys tree. refl;
  vehicle = λ keys tree. refl;
  load = λ keys tree. refl;
  job = λ keys tree. refl;
  hold = λ keys tree. refl;
  used = λ keys tree. refl;
  capacity = λ keys tree. refl;
}

pub look_up_reads : (name : TableName) → is_looked_up name ≡ true → ReadsLookUp name
look_up_reads the.Meta is = absurd (cc is)
look_up_reads the.Trip is = absurd (cc is)
look_up_reads the.Leg is = absurd (cc is)
look_up_reads the.Journey is = absurd (cc is)
look_up_reads the.Act is = absurd (cc is)
look_up_reads the.Node is = look_ups.node
look_up_reads the.Edge is = look_ups.edge
look_up_reads the.Station is = look_ups.station
look_up_reads the.Vehicle is = look_ups.vehicle
look_up_reads the.Load is = look_ups.load
look_up_reads the.Job is = look_ups.job
look_up_reads the.Hold is = look_ups.hold
look_up_reads the.Used is = look_ups.used
look_up_reads the.Capacity is = look_ups.capacity

abbrev pub LooksUp : TableName → Type 0
LooksUp name = (s : Schema) (at tree : ℕ) (keys : TableKeys) → IsIn s (table_for name).name (table_written name tree keys) at → Means s (look_up_text name) (Select (record { lets = []; body = query_by tree (key_terms name) (column_terms name) }) (column_names name))

pub looks_up : (name : TableName) → is_looked_up name ≡ true → LooksUp name
looks_up name is s at tree keys stands =
    read_means s (table_written name tree keys) at stands (look_up_text name) (length (columns_at name (table_for name).primary)) None (key_terms name) (column_terms name) (column_names name) (collations name) (look_up_reads name is keys tree)
