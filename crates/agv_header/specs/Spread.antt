-- A table whose rows come from the entries of a map: each entry gives some rows.
use Rattle.std.specs.Prelude.{List, Option, None, Some}
use Rattle.std.specs.declared.cmp.Ordering.{Ordering}
use Rattle.std.specs.List.{flat_map}
use Rattle.std.specs.FinMap.{FinMap, insert, remove, entries, from_entries}

-- the table with the row written at its key, or with the key's row removed if there is none
abbrev pub edit : {Q Y : Type 0} {S : Q → Q → Ordering} → FinMap S Y → Q → Option Y → FinMap S Y
edit table key None = remove table key
edit table key (Some row) = insert table key row

module _ {K X Q Y : Type 0} {R : K → K → Ordering} (S : Q → Q → Ordering) (rows_of : K → X → List (Q × Y)) where
  -- the table of the rows that the entries of a map give, entry by entry
  unfoldable pub spread : FinMap R X → FinMap S Y
  spread map = from_entries (flat_map (λ (entry : K × X). rows_of entry.0 entry.1) (entries map))
