-- What stays of a schema that grows: the names that others have, and those that nothing has.
use Rattle.std.proofs.Common.{◌≡◌, ◌∙◌, ◌+◌, ℕ, Bool, true, false, cond, List, [], ◌∷◌, ◌++◌, length, codes, Some, None, inl, inr, refl, ap, arith}
use Rattle.std.specs.List.{AllByRecursion, position_from}
use Rattle.std.proofs.lemmas.Bool.{cases_Bool}
use Rattle.sqlite_schema.specs.declared.schema.Index.{Index}
use Rattle.sqlite_schema.specs.declared.schema.Table.{Table}
use Rattle.sqlite_schema.specs.declared.schema.Schema.{Schema}
use Rattle.sqlite_schema.specs.Names.{same_name, table_named, index_named}
use Rattle.sqlite_catalog.specs.Change.{is_used, automatics, created, indexed, next_tree}
use Rattle.sqlite.specs.Does.{lacks_sequence}
use Rattle.agv_store_create.specs.DeskSchema.{sequence_table, with_sequence, with_new_table}

module _ {X : Type 0} (p : X → Bool) where
  position_none : (i : ℕ) (ys : List X) → AllByRecursion (λ y. p y ≡ false) ys → position_from p i ys ≡ None
  position_none i [] none = refl
  position_none i (y ∷ ys) none = rw (none.0, position_none (i + 1) ys none.1)

  -- the first that passes is the same, where none that is added does
  pub position_same : (i : ℕ) (xs ys : List X) → AllByRecursion (λ y. p y ≡ false) ys → position_from p i (xs ++ ys) ≡ position_from p i xs
  position_same i [] ys none = position_none i ys none
  position_same i (x ∷ xs) ys none = ap (cond (p x) (Some i)) (position_same (i + 1) xs ys none)

  -- or where there is one before
  pub position_kept : (i k : ℕ) (xs ys : List X) → position_from p i xs ≡ Some k → position_from p i (xs ++ ys) ≡ Some k
  position_kept i k [] ys found = absurd (cc)
  position_kept i k (x ∷ xs) ys found = elim (cases_Bool (p x)) [
    | inl it ↦ rw it (rw it at found)
    | inr other ↦ rw other (position_kept (i + 1) k xs ys (rw other at found))
  ]

  -- the last is the first that passes, where none before it does
  pub position_last : (i : ℕ) (xs : List X) (y : X) → position_from p i xs ≡ None → p y ≡ true → position_from p i (xs ++ y ∷ []) ≡ Some (i + length xs)
  position_last i [] y none is = rw is (ap Some (omega arith))
  position_last i (x ∷ xs) y none is = elim (cases_Bool (p x)) [
    | inl it ↦ absurd (let e = rw it at none in cc)
    | inr other ↦ rw other (position_last (i + 1) xs y (rw other at none) is ∙ ap Some (omega arith))
  ]

  -- none passes where none is found
  pub position_all : (i : ℕ) (xs : List X) → position_from p i xs ≡ None → AllByRecursion (λ x. p x ≡ false) xs
  position_all i [] none = tt
  position_all i (x ∷ xs) none = elim (cases_Bool (p x)) [
    | inl it ↦ absurd (let e = rw it at none in cc)
    | inr other ↦ (other, position_all (i + 1) xs (rw other at none))
  ]

-- nothing of this name came or went
pub record KeepsName (old new : Schema) (name : List ℕ) : Type 0 where
  pub table : table_named new name ≡ table_named old name
  pub index : index_named new name ≡ index_named old name
  pub views : new.views ≡ old.views

pub same_use : (old new : Schema) (name : List ℕ) → KeepsName old new name → is_used new name ≡ is_used old name
same_use old new name k = rw (k.table, k.index, k.views)

pub keeps_again : (a b c : Schema) (name : List ℕ) → KeepsName a b name → KeepsName b c name → KeepsName a c name
keeps_again a b c name p q = record { table = q.table ∙ p.table; index = q.index ∙ p.index; views = q.views ∙ p.views }

-- a name that the database gives to no index of its own accord
abbrev pub IsOwn : List ℕ → Type 0
IsOwn name = ((rest : List ℕ) → same_name (codes "sqlite_autoindex_" ++ rest) name ≡ false) × (same_name (codes "sqlite_sequence") name ≡ false)

module _ (name : List ℕ) (own : IsOwn name) where
  automatic_names : (table : Table) (at tree : ℕ) (keys : List (List ℕ)) → AllByRecursion (λ (i : Index). same_name i.name name ≡ false) (automatics table at tree keys)
  automatic_names table at tree [] = tt
  automatic_names table at tree (key ∷ keys) = (own.0 _, automatic_names table (at + 1) (tree + 1) keys)

  created_keeps : (s : Schema) (t : Table) → same_name t.name name ≡ false → KeepsName s (created s t) name
  created_keeps s t other = record {
    table = position_same (λ (u : Table). same_name u.name name) 0 s.tables _ (other, tt);
    index = position_same (λ (i : Index). same_name i.name name) 0 s.indexes _ (automatic_names (record t { tree = next_tree s }) 0 (next_tree s + 1) t.uniques);
    views = refl;
  }

  sequence_keeps : (s : Schema) → KeepsName s (with_sequence s) name
  sequence_keeps s = elim (cases_Bool (lacks_sequence s)) [
    | inl lacks ↦ rw lacks (created_keeps s sequence_table own.1)
    | inr has ↦ rw has (record { table = refl; index = refl; views = refl })
  ]

  -- a table of another name
  pub new_table_keeps : (s : Schema) (t : Table) → same_name t.name name ≡ false → KeepsName s (with_new_table s t) name
  new_table_keeps s t other = keeps_again s (created s t) (with_new_table s t) name (created_keeps s t other) (sequence_keeps (created s t))

-- an index of another name
pub index_keeps : (name : List ℕ) (s : Schema) (t : Table) (i : Index) → same_name i.name name ≡ false → KeepsName s (indexed s t i) name
index_keeps name s t i other = record { table = refl; index = position_same (λ (j : Index). same_name j.name name) 0 s.indexes _ (other, tt); views = refl }
