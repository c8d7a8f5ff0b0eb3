-- What holds of the rows of open trips, as the laws of their crate say it: lemmas take it from the law functions.
use Rattle.std.specs.Prelude.{◌≡◌, ◌++◌, ◌∷◌, ℕ, List, Some, not, filter, IsPermutation}
use Rattle.std.specs.FinMap as finite
use Rattle.std.specs.List.{AllByRecursion}
use Rattle.std.specs.Option.{option_map}
use Rattle.agv_header.specs.Name.{name_cmp}
use Rattle.agv_store_rows.specs.ActKeys.{act_cmp}
use Rattle.agv_store_rows.specs.TripRows.{act_rows, acts_of, all_act_rows, is_journey_of, is_of, journey_of, journey_rows, journeys_of, rows_if}
use Rattle.agv_store_rows.specs.TripsTold.{AreTripsOf, IsOfJob, acts_told}
use Rattle.agv_store_rows.specs.declared.act_row.ActRow.{ActRow}
use Rattle.agv_store_rows.specs.declared.journey_row.JourneyRow.{JourneyRow}
use Rattle.agv_world_core.specs.declared.row.JobRow.{JobRow}
use Rattle.agv_world_core.specs.declared.row.TripRow.{TripRow}

abbrev Trips : Type 0
Trips = finite.FinMap name_cmp TripRow

-- ---- the tables list the rows

abbrev pub JourneysListed : Type 0
JourneysListed = (trips : Trips) → finite.entries (journeys_of trips) ≡ journey_rows trips

abbrev pub ActsListed : Type 0
ActsListed = (trips : Trips) → finite.entries (acts_of trips) ≡ all_act_rows trips

-- ---- the rows of an order

-- the table of the journeys has at an order the journey of its trip
abbrev pub JourneysStand : Type 0
JourneysStand = (trips : Trips) (order : List ℕ) → finite.get (journeys_of trips) order ≡ option_map journey_of (finite.get trips order)

-- the acts of an order are those of its trip
abbrev pub ActsFound : Type 0
ActsFound = (trips : Trips) (order : List ℕ) → filter (is_of order) (all_act_rows trips) ≡ rows_if (act_rows order) (finite.get trips order)

-- ---- changes

-- a trip is removed, or it is written in place of that of its order
pub record FollowTrips : Type 0 where
  pub journeys_listed : JourneysListed
  pub acts_listed : ActsListed
  pub journeys_removed : (trips : Trips) (order : List ℕ) → journey_rows (finite.remove trips order) ≡ filter (λ row. not (is_journey_of order row)) (journey_rows trips)
  pub acts_removed : (trips : Trips) (order : List ℕ) → all_act_rows (finite.remove trips order) ≡ filter (λ row. not (is_of order row)) (all_act_rows trips)
  pub journeys_written : (trips : Trips) (order : List ℕ) (trip : TripRow)
      → IsPermutation ((order, journey_of trip) ∷ filter (λ row. not (is_journey_of order row)) (journey_rows trips)) (journey_rows (finite.insert trips order trip))
  pub acts_written : (trips : Trips) (order : List ℕ) (trip : TripRow)
      → IsPermutation (act_rows order trip ++ filter (λ row. not (is_of order row)) (all_act_rows trips)) (all_act_rows (finite.insert trips order trip))

-- ---- what they tell

-- the rows of acts of known jobs tell these acts
abbrev pub ActsTold : Type 0
ActsTold = (jobs : finite.FinMap name_cmp JobRow) (order : List ℕ) (trip : TripRow) → AllByRecursion (IsOfJob jobs) trip.acts → acts_told jobs 0 (act_rows order trip) ≡ Some trip.acts

-- journeys, acts and jobs tell one table of trips
abbrev pub TellOneTable : Type 0
TellOneTable = (journeys : finite.FinMap name_cmp JourneyRow) (acts : finite.FinMap act_cmp ActRow) (jobs : finite.FinMap name_cmp JobRow) (trips others : Trips)
    → AreTripsOf journeys acts jobs trips → AreTripsOf journeys acts jobs others → trips ≡ others
