-- The open trips of a lawful world are told by their rows and the world's jobs.
use Rattle.std.proofs.Common.{◌≡◌, ◌++◌, ℕ, suc, arith, true, false, cond, List, [], ◌∷◌, flat_map, Contains, Option, None, Some, refl, sym, ap, subst, ◌∙◌}
use Rattle.std.specs.Cmp.Lexicographic.{nat_list_cmp_total}
use Rattle.std.specs.FinMap as finite
use Rattle.std.specs.FinMap.{find}
use Rattle.std.specs.List.{AllByRecursion}
use Rattle.std.specs.Option.{option_map}
use Rattle.std.specs.Ordering.{eq_by_cmp}
use Rattle.agv_header.specs.KeyOrder.{key_cmp-total}
use Rattle.agv_header.specs.Name.{name_cmp}
use Rattle.agv_header.specs.declared.key.VehicleKey.{VehicleKey}
use Rattle.agv_order.specs.declared.act.Act.{Act}
use Rattle.agv_order.specs.declared.trip.Trip.{Trip}
use Rattle.agv_world_core.specs.Lawful.{IsLawful, NamesItsJob}
use Rattle.agv_world_core.specs.Maps.{maps_of, rows_of_trip, trip_row, trip_rows}
use Rattle.agv_header.specs.Spread.{spread}
use Rattle.agv_world_core.specs.Worlds.{Vehicle, World}
use Rattle.agv_world_core.specs.declared.row.TripRow.{TripRow}
use Rattle.agv_world_core.proofs.lists.Entries.{entries_found, is_same, same_Some}
use Rattle.agv_world_core.proofs.lists.Orders.{names_apart}
use Rattle.agv_store_rows.specs.TripRows.{act_rows, acts_of, journey_of, journeys_of}
use Rattle.agv_store_rows.specs.TripsTold.{AreTripsOf, IsOfJob, acts_told, trip_told}
use Rattle.agv_store_rows.proofs.RowsTellActs.{rows_tell_acts}

-- what all that a list contains has, each element has
each_of : {A : Type 0} (P : A → Type 0) (xs : List A) → ((x : A) → Contains xs x → P x) → AllByRecursion P xs
each_of P [] h = tt
each_of P (x ∷ xs) h = (h x (0, omega arith, refl), each_of P xs (λ y has. h y (suc has.0, omega (arith, has.1), has.2)))

-- ---- whose trip a row is

-- the row is that of the open trip of a vehicle of the world
pub record IsOwn (world : World) (order : List ℕ) (row : TripRow) : Type 0 where
  pub key : VehicleKey
  pub vehicle : Vehicle
  pub trip : Trip
  pub there : finite.get world.vehicles key ≡ Some vehicle
  pub open_trip : vehicle.trip ≡ Some trip
  pub order_is : order ≡ trip.order
  pub row_is : trip_row key trip ≡ row

module _ (world : World) (order : List ℕ) (row : TripRow) where
  abbrev rows_in : List (VehicleKey × Vehicle) → List (List ℕ × TripRow)
  rows_in es = flat_map (λ (e : VehicleKey × Vehicle). trip_rows e.0 e.1) es

  trip_in : (es : List (VehicleKey × Vehicle)) → AllByRecursion (λ (e : VehicleKey × Vehicle). finite.get world.vehicles e.0 ≡ Some e.1) es → find name_cmp order (rows_in es) ≡ Some row → IsOwn world order row
  trip_in [] are found = absurd (cc found)
  trip_in (e ∷ es) are found = of_vehicle (λ more. trip_in es are.1 more) e.1.trip refl found
    where
      of_vehicle : (find name_cmp order (rows_in es) ≡ Some row → IsOwn world order row) → (o : Option Trip) → e.1.trip ≡ o → find name_cmp order (rows_of_trip e.0 o ++ rows_in es) ≡ Some row → IsOwn world order row
      of_vehicle later None is found = later found
      of_vehicle later (Some trip) is found =
          elim (eq_by_cmp name_cmp order trip.order) as (λ b. eq_by_cmp name_cmp order trip.order ≡ b → cond b (Some (trip_row e.0 trip)) (find name_cmp order (rows_in es)) ≡ Some row → IsOwn world order row) [
            | true ↦ λ tied same. record {
              key = e.0;
              vehicle = e.1;
              trip = trip;
              there = are.0;
              open_trip = is;
              order_is = is_same names_apart order trip.order tied;
              row_is = same_Some (trip_row e.0 trip) row same;
            }
            | false ↦ λ _ more. later more
          ] refl found

  pub trip_of_row : finite.get (maps_of world).trips order ≡ Some row → IsOwn world order row
  unfolding spread
  trip_of_row at = trip_in (finite.entries world.vehicles) (entries_found key_cmp-total world.vehicles) (sym (finite.get-from_entries nat_list_cmp_total (rows_in (finite.entries world.vehicles)) order) ∙ at)

-- ---- each act is of its job

module _ (seats : ℕ) (world : World) (lawful : IsLawful seats world) where
  act_of_job : (act : Act) → NamesItsJob world act → IsOfJob (maps_of world).jobs act
  act_of_job act names = record { job = names.row; known = names.job; load = names.load; station = names.station }

  pub lawful_acts : (order : List ℕ) (row : TripRow) → finite.get (maps_of world).trips order ≡ Some row → AllByRecursion (IsOfJob (maps_of world).jobs) row.acts
  lawful_acts order row at =
      let has = trip_of_row world order row at in
      subst (λ (r : TripRow). AllByRecursion (IsOfJob (maps_of world).jobs) r.acts) has.row_is
      (each_of (IsOfJob (maps_of world).jobs) has.trip.acts (λ act among.
      act_of_job act (lawful.jobs.acts has.key has.trip act (record { open_trip = (has.vehicle, has.there, has.open_trip); among = among }))))

  pub lawful_trips : AreTripsOf (journeys_of (maps_of world).trips) (acts_of (maps_of world).trips) (maps_of world).jobs (maps_of world).trips
  lawful_trips = record { has_journeys = refl; has_acts = refl; of_jobs = lawful_acts }

  pub lawful_trip : (order : List ℕ) (trip : TripRow) → finite.get (maps_of world).trips order ≡ Some trip
      → option_map (trip_told (journey_of trip)) (acts_told (maps_of world).jobs 0 (act_rows order trip)) ≡ Some trip
  lawful_trip order trip at = ap (option_map (trip_told (journey_of trip))) (rows_tell_acts (maps_of world).jobs order 0 trip.acts (lawful_acts order trip at))
