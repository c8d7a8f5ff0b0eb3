-- Where there is no list.
use Rattle.std.proofs.Common.{◌≡◌, ◌≤◌, ℕ, zero, suc, List, [], ◌∷◌, length, map, refl, arith}
use Rattle.sqlite_value.specs.Order.{Row}
use Rattle.agv_store_schema.specs.DeskRows.{table_at}

-- there is none at a place that is too high
pub none_at : {A : Type 0} (rows : A → List Row) (at : ℕ) (lists : List A) → length lists ≤ at → table_at at (map rows lists) ≡ []
none_at rows at [] high = refl
none_at rows zero (first ∷ lists) high = absurd (omega (arith, high))
none_at rows (suc at) (first ∷ lists) high = none_at rows at lists (omega (arith, high))
