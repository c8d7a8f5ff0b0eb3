-- What all rows of journeys and acts answer, in a lawful world, and which rows trips have that were told.
use Rattle.std.proofs.Common.{◌≡◌, ◌↔◌, ℕ, nat_eq, true, false, List, [], length, Option, Some, Result, IsPermutation, sym, ap, subst, ◌∙◌}
use Rattle.std.proofs.lemmas.Bool.{eqb-true}
use Rattle.std.proofs.lemmas.List.Sorted.{length_permutation}
use Rattle.std.specs.Cmp.Lexicographic.{nat_list_cmp_total}
use Rattle.std.specs.FinMap as finite
use Rattle.sqlite_value.specs.Order.{Row}
use Rattle.agv_header.specs.Name.{IsName, name_cmp}
use Rattle.agv_store_rows.specs.ActKeys.{act_cmp, act_cmp-IsAntisymmetric, act_cmp-total}
use Rattle.agv_store_rows.specs.TripRows.{acts_of, journeys_of}
use Rattle.agv_store_rows.specs.TripsTold.{AreTripsOf}
use Rattle.agv_store_rows.specs.declared.act_key.ActKey.{ActKey}
use Rattle.agv_store_rows.specs.declared.act_row.ActRow.{ActRow}
use Rattle.agv_store_rows.specs.declared.journey_row.JourneyRow.{JourneyRow}
use Rattle.agv_world_core.specs.Maps.{maps_of}
use Rattle.agv_world_core.specs.Worlds.{World}
use Rattle.agv_world_core.specs.declared.row.JobRow.{JobRow}
use Rattle.agv_world_core.specs.declared.row.TripRow.{TripRow}
use Rattle.agv_store_rows.specs.Columns.{act_columns, act_in, journey_columns, journey_in}
use Rattle.agv_store_rows.specs.Rows.{row_lists, rows_in, rows_of}
use Rattle.agv_store_rows.specs.TypedRows.{IsActRow, IsActRowKey, IsJourneyRow}
use Rattle.agv_store_sql.specs.RowQueries.{all_rows_of}
use Rattle.agv_store_read.specs.ReadTables.{Reads, read_rows}
use Rattle.agv_store_read.specs.declared.open_fault.OpenFault.{OpenFault}
use Rattle.agv_store_schema.specs.declared.table_name.TableName.TheVariants as the
use Rattle.agv_store_read.proofs.Asking.{Follows}
use Rattle.agv_store_rows.proofs.ColumnsKept.{act_kept, journey_kept}
use Rattle.agv_store_rows.proofs.ListsFollow.{names_apart}
use Rattle.agv_store_read.proofs.TableReading.{none_left, reads_all, reads_it}

-- ---- all rows of a lawful world

-- names are names, and numbers are in their ranges
abbrev pub AreJourneyValues : World → Type 0
AreJourneyValues world = (order : List ℕ) (journey : JourneyRow) → finite.get (journeys_of (maps_of world).trips) order ≡ Some journey → IsName order × IsJourneyRow journey

abbrev pub AreActValues : World → Type 0
AreActValues world = (key : ActKey) (act : ActRow) → finite.get (acts_of (maps_of world).trips) key ≡ Some act → IsActRowKey key × IsActRow act

module _ (world : World) (rows : List Row) where
  pub tells_journeys : AreJourneyValues world → IsPermutation (all_rows_of the.Journey (rows_of world)) rows → (r : Result (finite.FinMap name_cmp JourneyRow) OpenFault) → Reads r (read_rows journey_in finite.empty rows)
      → Follows r (λ table. table ≡ journeys_of (maps_of world).trips)
  unfolding row_lists
  tells_journeys values shown r read =
      let journeys = journeys_of (maps_of world).trips in
      reads_it journeys r (read_rows journey_in finite.empty rows) read
      (reads_all nat_list_cmp_total names_apart journeys journey_columns journey_in (λ order journey at. let its = values order journey at in journey_kept order journey its.0 its.1) rows shown)

  pub tells_acts : AreActValues world → IsPermutation (all_rows_of the.Act (rows_of world)) rows → (r : Result (finite.FinMap act_cmp ActRow) OpenFault) → Reads r (read_rows act_in finite.empty rows)
      → Follows r (λ table. table ≡ acts_of (maps_of world).trips)
  unfolding row_lists
  tells_acts values shown r read =
      let acts = acts_of (maps_of world).trips in
      reads_it acts r (read_rows act_in finite.empty rows) read
      (reads_all act_cmp-total act_cmp-IsAntisymmetric acts act_columns act_in (λ key act at. let its = values key act at in act_kept key act its.0 its.1) rows shown)

  -- no open trip is in the table of the first schema's
  pub tells_no_trips : IsPermutation (all_rows_of the.Trip (rows_of world)) rows → ¬ (nat_eq (length rows) 0 ≡ false)
  unfolding row_lists
  tells_no_trips shown some = let wrong : true ≡ false = ap (λ n. nat_eq n 0) (sym (length_permutation [] rows shown)) ∙ some in cc wrong

pub none_shown : (asked rows : List Row) → nat_eq (length rows) 0 ≡ true → IsPermutation asked rows → asked ≡ []
none_shown asked rows none shown = none_left asked (sym (length_permutation asked rows shown) ∙ eqb-true (length rows) 0 none)

-- ---- the trips that are told

module _ (journeys : finite.FinMap name_cmp JourneyRow) (acts : finite.FinMap act_cmp ActRow) (jobs : finite.FinMap name_cmp JobRow) (told : Option (finite.FinMap name_cmp TripRow))
    (just : (trips : finite.FinMap name_cmp TripRow) → (told ≡ Some trips) ↔ AreTripsOf journeys acts jobs trips) where
  -- in a lawful world
  pub tells_trips : (world : World) → AreTripsOf (journeys_of (maps_of world).trips) (acts_of (maps_of world).trips) (maps_of world).jobs (maps_of world).trips
      → jobs ≡ world.jobs → journeys ≡ journeys_of (maps_of world).trips → acts ≡ acts_of (maps_of world).trips → told ≡ Some (maps_of world).trips
  tells_trips world are of_jobs of_journeys of_acts =
      let trips = (maps_of world).trips in
      (just trips).1
      (subst (λ (j : finite.FinMap name_cmp JourneyRow). AreTripsOf j acts jobs trips) (sym of_journeys)
      (subst (λ (a : finite.FinMap act_cmp ActRow). AreTripsOf (journeys_of trips) a jobs trips) (sym of_acts)
      (subst (λ (j : finite.FinMap name_cmp JobRow). AreTripsOf (journeys_of trips) (acts_of trips) j trips) (sym of_jobs) are)))

  -- they have just these rows
  module _ (trips : finite.FinMap name_cmp TripRow) (is : told ≡ Some trips) where
    pub shows_journeys : (asked : List Row) → IsPermutation asked (rows_in journey_columns journeys) → IsPermutation asked (rows_in journey_columns (journeys_of trips))
    shows_journeys asked shown = subst (λ (j : finite.FinMap name_cmp JourneyRow). IsPermutation asked (rows_in journey_columns j)) ((just trips).0 is).has_journeys shown

    pub shows_acts : (asked : List Row) → IsPermutation asked (rows_in act_columns acts) → IsPermutation asked (rows_in act_columns (acts_of trips))
    shows_acts asked shown = subst (λ (a : finite.FinMap act_cmp ActRow). IsPermutation asked (rows_in act_columns a)) ((just trips).0 is).has_acts shown
