-- A table among the lists of all that is changed twice, or by rows that are added.
use Rattle.std.proofs.Common.{◌≡◌, ℕ, zero, suc, List, [], ◌∷◌, ◌++◌, IsPermutation, refl, sym, ap, ◌∙◌}
use Rattle.std.proofs.lemmas.List.Sorted.{IsPermutation-middle, IsPermutation-refl, IsPermutation-trans}
use Rattle.sqlite_value.specs.Order.{Row}
use Rattle.agv_store_schema.specs.DeskRows.{on_table, place_of, with_row, with_rows}
use Rattle.agv_store_schema.specs.declared.table_name.TableName.{TableName}

-- a table that stays as it is
pub on_table-same : (at : ℕ) (lists : List (List Row)) → on_table at (λ rows. rows) lists ≡ lists
on_table-same at [] = refl
on_table-same zero (rows ∷ lists) = refl
on_table-same (suc at) (rows ∷ lists) = ap (λ more. rows ∷ more) (on_table-same at lists)

-- a table is changed twice
pub on_table-twice : (at : ℕ) (f g : List Row → List Row) (lists : List (List Row)) → on_table at f (on_table at g lists) ≡ on_table at (λ rows. f (g rows)) lists
on_table-twice at f g [] = refl
on_table-twice zero f g (rows ∷ lists) = refl
on_table-twice (suc at) f g (rows ∷ lists) = ap (λ more. rows ∷ more) (on_table-twice at f g lists)

-- rows are written one after the other
abbrev pub added : List Row → List Row → List Row
added [] rows = rows
added (row ∷ more) rows = added more (row ∷ rows)

pub with_rows-added : (name : TableName) (more : List Row) (lists : List (List Row)) → with_rows name more lists ≡ on_table (place_of name) (added more) lists
with_rows-added name [] lists = sym (on_table-same (place_of name) lists)
with_rows-added name (row ∷ more) lists =
    with_rows-added name more (with_row name row lists) ∙ on_table-twice (place_of name) (added more) (λ rows. row ∷ rows) lists

pub added-permuted : (more rows : List Row) → IsPermutation (added more rows) (more ++ rows)
added-permuted [] rows = IsPermutation-refl rows
added-permuted (row ∷ more) rows = IsPermutation-trans _ _ _ (added-permuted more (row ∷ rows)) (IsPermutation-middle more row rows)
