-- Each trip is well formed on the layout of the tables just where its test says so.
use Rattle.std.proofs.Common.{◌≡◌, ℕ, true, List, [], ◌∷◌, length, Option, Some, None, Result, Ok, Err, inl, inr, refl, sym, ap, subst, ◌∙◌}
use Rattle.std.proofs.lemmas.Bool.{eqb-true, eq-eqb}
use Rattle.std.specs.Prelude.{◌↔◌, ◌⊎◌, IsTrue}
use Rattle.std.specs.FinMap.{FinMap, empty_of_len, entries, get, get-empty, len-entries}
use Rattle.std.specs.FinSet as set
use Rattle.std.specs.List.{AllByRecursion}
use Rattle.agv_header.specs.Name.{name_cmp}
use Rattle.agv_layout.specs.Layout.{KeepsRules, Layout}
use Rattle.agv_layout.specs.LayoutOf.{layout_of, rows_in}
use Rattle.agv_layout.specs.declared.fault.LayoutFault.{LayoutFault}
use Rattle.agv_order.specs.WellFormed.{IsWellFormed}
use Rattle.agv_order.specs.WellFormedTest.{is_well_formed}
use Rattle.agv_order.specs.declared.trip.Trip.{Trip}
use Rattle.agv_world_lawful.specs.LawfulTests.{are_fit, are_fit_on, is_fit}
use Rattle.agv_world_core.specs.Questions.{given, layout_set}
use Rattle.agv_world_core.specs.Told.{layout_of_tables, trip_in, world_of}
use Rattle.agv_world_core.specs.Worlds.{empty_layout}
use Rattle.agv_world_core.specs.declared.row.TripRow.{TripRow}
use Rattle.agv_world_core.specs.declared.world.World.{World as Tables}
use Rattle.agv_world_core.proofs.lists.EachEntry.{all-entries, each-entry}
use Rattle.agv_world_core.proofs.lists.Entries.{entries_found, no_more, same_Some}
use Rattle.agv_world_core.proofs.lists.Orders.{names_total, names_apart}

-- what the crates below say of layouts and trips
pub record Below : Type 0 where
  pub again : (layout : Layout) → KeepsRules layout → layout_of (rows_in layout) ≡ Ok layout
  pub node : (none layout : Layout) → none.nodes ≡ set.empty → ¬ (layout_of (rows_in none) ≡ Ok layout)
  pub fits : (layout : Layout) (trip : Trip) → IsTrue (is_well_formed layout trip) ↔ IsWellFormed layout trip

abbrev pub Laid : Layout → Type 0
Laid layout = (layout ≡ empty_layout) ⊎ KeepsRules layout

from_given : (r : Result Layout LayoutFault) (layout : Layout) → given r ≡ Some layout → r ≡ Ok layout
from_given (Ok other) layout is = ap Ok (same_Some other layout is)
from_given (Err why) layout is = absurd (no_more layout is)

no_entries : (m : FinMap name_cmp TripRow) → ((order : List ℕ) (row : TripRow) → get m order ≡ Some row → ⊥) → (es : List (List ℕ × TripRow)) → AllByRecursion (λ (e : List ℕ × TripRow). get m e.0 ≡ Some e.1) es → length es ≡ 0
no_entries m none [] found = refl
no_entries m none (e ∷ es) found = absurd (none e.0 e.1 found.0)

module _ (below : Below) (tables : Tables) where
  -- the layout that the rows give is that of the tables
  pub set_layout : Laid (layout_of_tables tables) → (layout : Layout) → layout_set (world_of tables) ≡ Some layout → layout ≡ layout_of_tables tables
  unfolding layout_set
  set_layout (inl none) layout is = absurd (below.node (layout_of_tables tables) layout (ap (λ (l : Layout). l.nodes) none) (from_given (layout_of (rows_in (layout_of_tables tables))) layout is))
  set_layout (inr keeps) layout is = same_Some _ _ (sym is ∙ ap given (below.again (layout_of_tables tables) keeps))

  none_set : Laid (layout_of_tables tables) → layout_set (world_of tables) ≡ None → layout_of_tables tables ≡ empty_layout
  unfolding layout_set
  none_set (inl none) is = none
  none_set (inr keeps) is = absurd (no_more (layout_of_tables tables) (sym is ∙ ap given (below.again (layout_of_tables tables) keeps)))

  -- each trip is well formed
  pub fit_told : Laid (layout_of_tables tables) → are_fit tables ≡ true → (order : List ℕ) (row : TripRow) → get tables.trips order ≡ Some row → IsWellFormed (layout_of_tables tables) (trip_in tables (order, row))
  fit_told laid fit order row at = on (layout_set (world_of tables)) refl fit
    where
      on : (o : Option Layout) → layout_set (world_of tables) ≡ o → are_fit_on tables o ≡ true → IsWellFormed (layout_of_tables tables) (trip_in tables (order, row))
      on None is fit = absurd (no_more row (sym (get-empty name_cmp order) ∙ ap (λ trips. get trips order) (sym (empty_of_len tables.trips (eqb-true _ _ fit))) ∙ at))
      on (Some layout) is fit =
          let test = each-entry names_total names_apart (is_fit tables layout) tables.trips fit order row at in
          subst (λ (l : Layout). IsWellFormed l (trip_in tables (order, row))) (set_layout laid layout is) ((below.fits layout (trip_in tables (order, row))).0 test)

  -- and where each is, the test holds
  pub fit_again : Laid (layout_of_tables tables)
      → ((order : List ℕ) (row : TripRow) → get tables.trips order ≡ Some row → IsWellFormed (layout_of_tables tables) (trip_in tables (order, row)))
      → (layout_of_tables tables ≡ empty_layout → (order : List ℕ) (row : TripRow) → get tables.trips order ≡ Some row → ⊥)
      → are_fit tables ≡ true
  fit_again laid each none = on (layout_set (world_of tables)) refl
    where
      on : (o : Option Layout) → layout_set (world_of tables) ≡ o → are_fit_on tables o ≡ true
      on None is = eq-eqb _ _ (len-entries tables.trips ∙ no_entries tables.trips (none (none_set laid is)) (entries tables.trips) (entries_found names_total tables.trips))
      on (Some layout) is =
          all-entries names_total names_apart (is_fit tables layout) tables.trips (λ order row at.
          (below.fits layout (trip_in tables (order, row))).1 (subst (λ (l : Layout). IsWellFormed l (trip_in tables (order, row))) (sym (set_layout laid layout is)) (each order row at)))
