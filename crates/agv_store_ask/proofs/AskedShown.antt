-- What the look-ups by columns other than the key show.
use Rattle.std.proofs.Common.{◌≡◌, ℕ, ◌&&◌, nat_eq, Bool, true, false, List, refl, ap, ap₂}
use Rattle.std.specs.Cmp.Lexicographic.{pointwise}
use Rattle.sqlite_value.specs.declared.value.Value.TheVariants.{Null, Text}
use Rattle.sqlite_value.specs.Order.{Row}
use Rattle.sqlite_sql.specs.Ops.{binary}
use Rattle.agv_header.specs.declared.key.VehicleKey.{VehicleKey}
use Rattle.agv_stock.specs.Rooms.{is_at, is_on}
use Rattle.agv_stock.specs.declared.place.Place.{Place}
use Rattle.agv_stock.specs.declared.place.Place.TheVariants as place
use Rattle.agv_store_rows.specs.TripRows.{is_of}
use Rattle.agv_world_core.specs.Maps.{Maps}
use Rattle.agv_world_core.specs.Told.{is_of_order}
use Rattle.agv_world_core.specs.declared.row.JobRow.{JobRow}
use Rattle.agv_store_ask.specs.QueriedRows.{ShowAsked, is_in_phase, name_and_phase}
use Rattle.agv_stock.specs.Phase.{phase_name}
use Rattle.agv_store_rows.specs.Columns.{load_columns}
use Rattle.agv_store_rows.specs.DecodedTrips.{is_driven_by}
use Rattle.agv_store_schema.specs.DeskRows.{is_equal}
use Rattle.agv_store_rows.specs.RowKeys.{name_key, vehicle_key}
use Rattle.agv_store_rows.specs.Rows.{TellRows}
use Rattle.agv_store_sql.specs.CountQueries.{columns_counted}
use Rattle.agv_store_sql.specs.RowQueries.{columns_asked, equal_from}
use Rattle.agv_store_schema.specs.declared.rows_by.RowsBy.TheVariants as by
use Rattle.agv_store_schema.specs.declared.rows_counted.RowsCounted.TheVariants as counted
use Rattle.agv_store_rows.proofs.KeyTests.{last_text_is, text_is}
use Rattle.agv_store_ask.proofs.KeysShown.{all_shown}

-- ---- values

-- what is NULL is equal to nothing
null_is_none : (k : List ℕ) → is_equal Null (Text k) ≡ false
unfolding binary
null_is_none k = refl

null_fails : (k : List ℕ) (more : Bool) → (is_equal Null (Text k) && more) ≡ false
null_fails k more = ap (λ b. b && more) (null_is_none k)

two_texts : (a b p q : List ℕ) → (is_equal (Text a) (Text p) && (is_equal (Text b) (Text q) && true)) ≡ (pointwise nat_eq a p && pointwise nat_eq b q)
two_texts a b p q = ap₂ ◌&&◌ (text_is a p) (last_text_is b q)

-- ---- look-ups and counts

load_at : (station id : List ℕ) (x : Place) → equal_from 0 (columns_asked by.StationLoads) (name_key station) (load_columns id x) ≡ is_at station x
load_at station id (place.Station s) = last_text_is s station
load_at station id (place.Vehicle key) = null_fails station true
load_at station id place.Checking = null_fails station true
load_at station id place.Left = null_fails station true

load_on : (key : VehicleKey) (id : List ℕ) (x : Place) → equal_from 0 (columns_counted counted.VehicleLoads) (vehicle_key key) (load_columns id x) ≡ is_on key x
load_on key id (place.Station s) = null_fails key.manufacturer _
load_on key id (place.Vehicle other) = two_texts other.manufacturer other.serial key.manufacturer key.serial
load_on key id place.Checking = null_fails key.manufacturer _
load_on key id place.Left = null_fails key.manufacturer _

pub shown_asked : (lists : List (List Row)) (maps : Maps) → TellRows lists maps → ShowAsked lists maps
shown_asked lists maps told =
    let all = all_shown lists maps told in
    record {
      journey = λ key. all.journeys (equal_from 0 (columns_asked by.VehicleJourney) (vehicle_key key)) (is_driven_by key)
          (λ order journey. two_texts journey.vehicle.manufacturer journey.vehicle.serial key.manufacturer key.serial);
      acts = λ order. all.acts (equal_from 0 (columns_asked by.OrderActs) (name_key order)) (is_of order) (λ key act. last_text_is key.order order);
      legs = λ order. all.legs (equal_from 0 (columns_asked by.OrderLegs) (name_key order)) (is_of_order order) (λ key edge. last_text_is key.order order);
      loads_at = λ station. all.loads (equal_from 0 (columns_asked by.StationLoads) (name_key station)) (λ (load : List ℕ × Place). is_at station load.1) (load_at station);
      loads_on = λ key. all.loads (equal_from 0 (columns_counted counted.VehicleLoads) (vehicle_key key)) (λ (load : List ℕ × Place). is_on key load.1) (load_on key);
      jobs_of = λ load phase. all.jobs (equal_from 0 (columns_asked by.LoadJobs) (name_and_phase load phase)) (λ (job : List ℕ × JobRow). pointwise nat_eq job.1.load load && is_in_phase phase job.1)
          (λ id job. two_texts job.load (phase_name job.phase) load (phase_name phase));
      jobs_to = λ station phase. all.jobs (equal_from 0 (columns_counted counted.TargetJobs) (name_and_phase station phase)) (λ (job : List ℕ × JobRow). pointwise nat_eq job.1.target station && is_in_phase phase job.1)
          (λ id job. two_texts job.target (phase_name job.phase) station (phase_name phase));
    }
