-- The rows of trips as lists and as tables, and what a trip that is written or removed does to both.
use Rattle.std.proofs.Common.{◌≡◌, ℕ, not, List, [], ◌∷◌, ◌++◌, filter, flat_map, IsPermutation, refl, sym, ap, subst, ◌∙◌}
use Rattle.std.specs.FinMap as finite
use Rattle.std.specs.List.{AllByRecursion}
use Rattle.std.specs.List.Sorted.{IsStrictlySortedBy}
use Rattle.std.specs.Map.{keys_of}
use Rattle.std.specs.Ordering.{eq_by_cmp}
use Rattle.agv_header.specs.Name.{name_cmp}
use Rattle.agv_world_core.specs.declared.row.TripRow.{TripRow}
use Rattle.agv_world_core.proofs.lists.InOrder.{entries-shown}
use Rattle.agv_world_core.proofs.lists.Orders.{names_total, names_apart}
use Rattle.agv_store_rows.specs.ActKeys.{act_cmp, act_cmp-IsAntisymmetric, act_cmp-total}
use Rattle.agv_store_rows.specs.TripRows.{act_rows, acts_of, all_act_rows, is_journey_of, is_of, journey_of, journey_rows, journeys_of, rows_if}
use Rattle.agv_store_rows.proofs.KeyedTripRows.{rows-found, rows-removed, rows-written}
use Rattle.agv_store_rows.proofs.TripRowKeys.{acts_rise, acts_tested, all_acts_rise, journey_row, journeys_in, journeys_rise, named, rise_from_sorted, sorted_from_rise}

module _ (trips : finite.FinMap name_cmp TripRow) where
  -- ---- each at a key of its own
  pub journeys_sorted : IsStrictlySortedBy name_cmp (keys_of (journey_rows trips))
  journeys_sorted = sorted_from_rise name_cmp (journey_rows trips) (journeys_rise (finite.entries trips) (rise_from_sorted name_cmp (finite.entries trips) (finite.entries_sorted trips)))

  pub acts_sorted : IsStrictlySortedBy act_cmp (keys_of (all_act_rows trips))
  acts_sorted = sorted_from_rise act_cmp (all_act_rows trips) (all_acts_rise (finite.entries trips) (rise_from_sorted name_cmp (finite.entries trips) (finite.entries_sorted trips)))

  pub entries-journeys : finite.entries (journeys_of trips) ≡ journey_rows trips
  unfolding journeys_of
  entries-journeys = entries-shown names_total names_apart (journey_rows trips) journeys_sorted

  pub entries-acts : finite.entries (acts_of trips) ≡ all_act_rows trips
  unfolding acts_of
  entries-acts = entries-shown act_cmp-total act_cmp-IsAntisymmetric (all_act_rows trips) acts_sorted

-- the rows of one trip
pub entries-own_acts : (order : List ℕ) (trip : TripRow) → finite.entries (finite.from_entries {R = act_cmp} (act_rows order trip)) ≡ act_rows order trip
entries-own_acts order trip = entries-shown act_cmp-total act_cmp-IsAntisymmetric (act_rows order trip) (sorted_from_rise act_cmp (act_rows order trip) (acts_rise order 0 trip.acts))

-- ---- journeys

one_each : (es : List (List ℕ × TripRow)) → flat_map (λ (e : List ℕ × TripRow). journey_row e.0 e.1) es ≡ journeys_in es
one_each [] = refl
one_each (e ∷ es) = ap (λ l. (e.0, journey_of e.1) ∷ l) (one_each es)

journeys_tested : (k q : List ℕ) (x : TripRow) → AllByRecursion (λ row. is_journey_of k row ≡ eq_by_cmp name_cmp k q) (journey_row q x)
journeys_tested k q x = (named k q, tt)

module _ (trips : finite.FinMap name_cmp TripRow) (order : List ℕ) where
  pub journeys-removed : journey_rows (finite.remove trips order) ≡ filter (λ row. not (is_journey_of order row)) (journey_rows trips)
  journeys-removed =
      sym (one_each _)
      ∙ rows-removed names_total names_apart journey_row is_journey_of journeys_tested trips order
      ∙ ap (filter (λ row. not (is_journey_of order row))) (one_each (finite.entries trips))

  pub journeys-written : (trip : TripRow) → IsPermutation ((order, journey_of trip) ∷ filter (λ row. not (is_journey_of order row)) (journey_rows trips)) (journey_rows (finite.insert trips order trip))
  journeys-written trip =
      subst (λ l. IsPermutation ((order, journey_of trip) ∷ filter (λ row. not (is_journey_of order row)) l) (journey_rows (finite.insert trips order trip))) (one_each (finite.entries trips))
      (subst (IsPermutation _) (one_each _) (rows-written names_total names_apart journey_row is_journey_of journeys_tested trips order trip))

  pub journeys-found : filter (is_journey_of order) (journey_rows trips) ≡ rows_if (journey_row order) (finite.get trips order)
  journeys-found = ap (filter (is_journey_of order)) (sym (one_each (finite.entries trips))) ∙ rows-found names_total names_apart journey_row is_journey_of journeys_tested trips order

-- ---- acts

one_tested : (k q : List ℕ) (x : TripRow) → AllByRecursion (λ row. is_of k row ≡ eq_by_cmp name_cmp k q) (act_rows q x)
one_tested k q x = acts_tested k q 0 x.acts

module _ (trips : finite.FinMap name_cmp TripRow) (order : List ℕ) where
  pub acts-removed : all_act_rows (finite.remove trips order) ≡ filter (λ row. not (is_of order row)) (all_act_rows trips)
  acts-removed = rows-removed names_total names_apart act_rows is_of one_tested trips order

  pub acts-written : (trip : TripRow) → IsPermutation (act_rows order trip ++ filter (λ row. not (is_of order row)) (all_act_rows trips)) (all_act_rows (finite.insert trips order trip))
  acts-written trip = rows-written names_total names_apart act_rows is_of one_tested trips order trip

  pub acts-found : filter (is_of order) (all_act_rows trips) ≡ rows_if (act_rows order) (finite.get trips order)
  acts-found = rows-found names_total names_apart act_rows is_of one_tested trips order
