-- What the row of a count tells, in a lawful world.
use Rattle.std.proofs.Common.{◌≡◌, ◌≤◌, ◌∙◌, ℕ, Bool, min, List, length, map, filter, Ok, Result, IsPermutation, arith, refl, sym, ap, subst}
use Rattle.std.proofs.lemmas.List.{length-map}
use Rattle.std.proofs.lemmas.List.Sums.{count_by-le-length, length-filter}
use Rattle.std.specs.FinMap as finite
use Rattle.sqlite.proofs.Callers.{one_permutation}
use Rattle.sqlite_value.specs.Order.{Row}
use Rattle.sqlite_sql.specs.Aggregate.{count}
use Rattle.agv_world_core.specs.Lawful.{IsLawful}
use Rattle.agv_world_core.specs.Worlds.{World}
use Rattle.agv_store_read.specs.FirstRow.{first_number_in, number_of}
use Rattle.agv_store_rows.specs.Rows.{row_lists, rows_of}
use Rattle.agv_store_rows.specs.ValueEncodings.{number_cell, number_in}
use Rattle.agv_store_schema.specs.SchemaNumbers.{desk_seats}
use Rattle.agv_store_sql.specs.CountQueries.{count_shown, rows_counted}
use Rattle.agv_store_read.specs.declared.open_fault.OpenFault.{OpenFault}
use Rattle.agv_store_schema.specs.declared.rows_counted.RowsCounted.{RowsCounted}
use Rattle.agv_store_schema.specs.declared.rows_counted.RowsCounted.TheVariants as counted
use Rattle.agv_store_read.proofs.Asking.{Follows}
use Rattle.agv_store_rows.proofs.CellLemmas.{number_kept}

-- ---- few rows

few_shown : {A : Type 0} (f : A → Row) (p : Row → Bool) (xs : List A) (n : ℕ) → n ≡ length xs → n ≤ 1000000 → length (filter p (map f xs)) ≤ 1000000
few_shown f p xs n all few = at_most _ _ _ n (length-filter p (map f xs)) (count_by-le-length p (map f xs)) (length-map xs f) all few
  where
    at_most : (shown passing rows n : ℕ) → shown ≡ passing → passing ≤ rows → rows ≡ length xs → n ≡ length xs → n ≤ 1000000 → shown ≤ 1000000
    at_most shown passing rows n a b c d e = omega arith

-- such a number is told
number_told : (n : ℕ) → n ≤ 1000000 → number_of (number_in (count n)) ≡ Ok n
number_told n few = ap (λ m. number_of (number_in (number_cell m))) (uncut n few) ∙ ap number_of (number_kept n (below n few))
  where
    uncut : (n : ℕ) → n ≤ 1000000 → min n 9223372036854775807 ≡ n
    uncut n few = omega arith

    below : (n : ℕ) → n ≤ 1000000 → n ≤ 4294967295
    below n few = omega arith

-- ---- counts

module _ (world : World) (lawful : IsLawful desk_seats world) where
  abbrev lists : List (List Row)
  lists = rows_of world

  few_counted : (query : RowsCounted) (values : Row) → length (rows_counted query values lists) ≤ 1000000
  unfolding row_lists
  few_counted counted.StationLoads values = few_shown _ _ (finite.entries world.places) _ (finite.len-entries world.places) lawful.limits.few_loads
  few_counted counted.VehicleLoads values = few_shown _ _ (finite.entries world.places) _ (finite.len-entries world.places) lawful.limits.few_loads
  few_counted counted.TargetJobs values = few_shown _ _ (finite.entries world.jobs) _ (finite.len-entries world.jobs) lawful.limits.few_jobs

  pub tells_count : (query : RowsCounted) (values : Row) (rows : List Row) → IsPermutation (count_shown query values lists) rows → (r : Result ℕ OpenFault) → r ≡ first_number_in rows
      → Follows r (λ n. n ≡ length (rows_counted query values lists))
  tells_count query values rows shown r given =
      let number = length (rows_counted query values lists) in
      let so : r ≡ Ok number = given ∙ ap first_number_in (one_permutation _ rows shown) ∙ number_told number (few_counted query values) in
      subst (λ q. Follows q (λ n. n ≡ number)) (sym so) refl
