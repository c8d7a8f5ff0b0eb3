-- The intermediate results of a stocktake: the stations that were counted, where each load was found, what is known of the found loads, and where the loads go. No public clause cites this.
use Rattle.std.specs.Prelude.{◌≡◌, ℕ, ◌+◌, ◌&&◌, if◌then◌else◌, nat_eq, nat_le, nat_lt, not, length, Bool, true, false, count_by, List, [], ◌∷◌, ◌++◌, map, filter_map, flat_map, Option, None, Some}
use Rattle.std.specs.Cmp.Lexicographic.{pointwise}
use Rattle.std.specs.FinMap as finite
use Rattle.std.specs.List.{AllByRecursion, list_all, list_any}
use Rattle.std.specs.Option.{option_map}
use Rattle.agv_header.specs.Limits.{most_records}
use Rattle.agv_header.specs.declared.refusal.Refusal.TheVariants as refusal
use Rattle.agv_header.specs.Name.{name_cmp}
use Rattle.agv_layout.specs.declared.station.StationSite.{StationSite}
use Rattle.agv_stock.specs.declared.place.Place.{Place}
use Rattle.agv_stock.specs.declared.place.Place.TheVariants as place
use Rattle.agv_world_core.specs.Questions.{loads_at, reserved, count_of}
use Rattle.agv_world_core.specs.Worlds.{World}
use Rattle.agv_world_core.specs.declared.floor.Counted.TheVariants as counted
use Rattle.agv_desk.specs.Outcomes.{Outcome, Effect, Made, refuse_unless, answer_only}
use Rattle.agv_desk.specs.Shared.{reference_key, is_in_job}
use Rattle.agv_desk.specs.StocktakeSteps.{Row, are_known, count_move, has_twice, is_on_vehicle, is_counted, is_here, new_place}
use Rattle.agv_desk.specs.declared.answer.Answer.TheVariants as answer
use Rattle.agv_desk.specs.declared.stocktake.counted_load.CountedLoad.{CountedLoad}

-- ---- the stations

-- the stations that were counted, with their nodes and capacities
unfoldable pub stations_in : World → List Row → finite.FinMap name_cmp StationSite
stations_in world rows = finite.retain_keys world.layout.stations (is_counted rows)

-- the stations are those that were counted; or there are none, because a station of the rows is unknown
abbrev pub AreCounted : World → List Row → Option (finite.FinMap name_cmp StationSite) → Type 0
AreCounted world rows None = are_known world rows ≡ false
AreCounted world rows (Some stations) = (are_known world rows ≡ true) × (stations ≡ stations_in world rows)

-- whether the station is known, because it was noted before or is in the layout; and the stations that are noted afterwards
abbrev pub noted_station : finite.FinMap name_cmp StationSite → List ℕ → Option StationSite → Option StationSite → Bool × finite.FinMap name_cmp StationSite
noted_station stations station (Some noted) site = (true, stations)
noted_station stations station None None = (false, stations)
noted_station stations station None (Some site) = (true, finite.insert stations station site)

-- ---- the found loads

-- the load of a row with the station where it was found, if the row has one
abbrev pub found_entry : List ℕ → Option (List ℕ) → Option (List ℕ × List ℕ)
found_entry station None = None
found_entry station (Some load) = Some (load, station)

-- the found loads, with the stations where they were found
unfoldable pub found_in : List Row → finite.FinMap name_cmp (List ℕ)
found_in rows = finite.from_entries (filter_map (λ (row : Row). found_entry row.0 row.1) rows)

-- the found loads are those of the rows; or there are none, because some load is on two rows
abbrev pub AreFound : List Row → Option (finite.FinMap name_cmp (List ℕ)) → Type 0
AreFound rows None = has_twice rows ≡ true
AreFound rows (Some found) = (has_twice rows ≡ false) × (found ≡ found_in rows)

-- whether the load is not noted yet, and the loads that are noted afterwards
abbrev pub noted_anew : finite.FinMap name_cmp (List ℕ) → List ℕ → List ℕ → Option (List ℕ) → Bool × finite.FinMap name_cmp (List ℕ)
noted_anew found station load (Some noted) = (false, found)
noted_anew found station load None = (true, finite.insert found load station)

-- whether the load of a row, if it has one, is not noted yet, and the loads that are noted afterwards
abbrev pub noted_load : finite.FinMap name_cmp (List ℕ) → List ℕ → Option (List ℕ) → Bool × finite.FinMap name_cmp (List ℕ)
noted_load found station None = (true, found)
noted_load found station (Some load) = noted_anew found station load (finite.get found load)

-- the load of a row with its station and its recorded place, if the row has a load
abbrev pub counted_load : World → List ℕ → Option (List ℕ) → Option CountedLoad
counted_load world station None = None
counted_load world station (Some load) = Some (record { station = station; load = load; place = finite.get world.places load })

-- the found loads with what is known of them, in the order of the rows
unfoldable pub counted_loads : World → List Row → List CountedLoad
counted_loads world rows = filter_map (λ (row : Row). counted_load world row.0 row.1) rows

-- the list with the load of one more row, if it has one
abbrev pub with_counted_load : World → List CountedLoad → List ℕ → Option (List ℕ) → List CountedLoad
with_counted_load world counted_list station None = counted_list
with_counted_load world counted_list station (Some load) = counted_list ++ record { station = station; load = load; place = finite.get world.places load } ∷ []

-- the load's name, if it is not known or has left
abbrev pub unknown_one : CountedLoad → Option (List ℕ)
unknown_one one = if is_here one.place then None else Some one.load

-- the load is known, and was found at this station
abbrev pub is_found_at : List ℕ → CountedLoad → Bool
is_found_at station one = pointwise nat_eq one.station station && is_here one.place

-- the number of known loads that were found at a station
abbrev pub count_at : List CountedLoad → List ℕ → ℕ
count_at counted_list station = count_by (is_found_at station) counted_list

-- the count of a station after this load was counted
abbrev pub counted_up : CountedLoad → ℕ → List ℕ → ℕ
counted_up one count station = if is_found_at station one then count + 1 else count

-- ---- where the loads go

-- the places with the new place of a load, if it has one
abbrev pub with_new_place : finite.FinMap name_cmp Place → List ℕ → Option Place → finite.FinMap name_cmp Place
with_new_place places load None = places
with_new_place places load (Some to) = finite.insert places load to

-- the new places of these loads, whose recorded places are given, added to the places
unfoldable pub settled : (List ℕ → Bool) → finite.FinMap name_cmp (List ℕ) → finite.FinMap name_cmp Place → List (List ℕ × Place) → finite.FinMap name_cmp Place
settled counted found places [] = places
settled counted found places (load ∷ loads) = settled counted found (with_new_place places load.0 (new_place counted (finite.get found load.0) load.1)) loads

-- the load with its recorded place, if it has one
abbrev pub recorded_at : List ℕ → Option Place → Option (List ℕ × Place)
recorded_at load recorded = option_map (λ (at : Place). (load, at)) recorded

-- the found loads that have a recorded place, with it
abbrev pub recorded : List CountedLoad → List (List ℕ × Place)
recorded counted_list = filter_map (λ (one : CountedLoad). recorded_at one.load one.place) counted_list

-- the loads with this station as their place
abbrev pub standing_at : List ℕ → List (List ℕ) → List (List ℕ × Place)
standing_at station loads = map (λ (load : List ℕ). (load, place.Station station)) loads

-- the loads that are recorded at these stations, with their places
abbrev pub standing : World → List (List ℕ × StationSite) → List (List ℕ × Place)
standing world stations = flat_map (λ (station : List ℕ × StationSite). standing_at station.0 (loads_at world station.0)) stations

-- each load in the map is recorded at the place that the map has
abbrev pub Tells : World → finite.FinMap name_cmp Place → Type 0
Tells world places = (load : List ℕ) (at : Place) → finite.get places load ≡ Some at → finite.get world.places load ≡ Some at

-- each of these loads is recorded at its place
abbrev pub AreThere : World → List (List ℕ × Place) → Type 0
AreThere world loads = AllByRecursion (λ (load : List ℕ × Place). finite.get world.places load.0 ≡ Some load.1) loads

-- the new places of all loads that move: of those that were found, and of those that are recorded at counted stations
unfoldable pub moves_in : finite.FinMap name_cmp StationSite → finite.FinMap name_cmp (List ℕ) → List CountedLoad → List (List ℕ × Place) → finite.FinMap name_cmp Place
moves_in stations found counted_list standing =
    settled (finite.contains_key stations) found (settled (finite.contains_key stations) found finite.empty (recorded counted_list)) standing

-- ---- whether they fit

-- this many loads and jobs fit at the station
abbrev pub has_room_for : ℕ → ℕ → StationSite → Bool
has_room_for found jobs site = nat_le (found + jobs) site.capacity

-- at each of the stations the known loads that were found fit, with the live jobs to it
abbrev pub all_have_room : World → List CountedLoad → List (List ℕ × StationSite) → Bool
all_have_room world counted_list stations = list_all (λ (station : List ℕ × StationSite). has_room_for (count_at counted_list station.0) (reserved world station.0) station.1) stations

-- ---- the whole

-- the loads that move, in the order of their names, with their new places
abbrev pub moves_list : finite.FinMap name_cmp StationSite → finite.FinMap name_cmp (List ℕ) → List CountedLoad → List (List ℕ × Place) → List (List ℕ × Place)
moves_list stations found counted_list standing = finite.entries (moves_in stations found counted_list standing)

-- the effect of these moves: the loads are recorded, and the reference is used
abbrev pub counted_effect : List ℕ → List (List ℕ × Place) → List CountedLoad → Effect
counted_effect reference moves counted_list = record (answer_only (answer.Counted (length moves) (filter_map unknown_one counted_list))) { moves = map count_move moves; uses = reference_key reference ∷ [] }

-- the outcome of a stocktake after its stations and found loads are known, from these parts
abbrev pub count_by_parts : World → List ℕ → finite.FinMap name_cmp StationSite → finite.FinMap name_cmp (List ℕ) → List CountedLoad → List (List ℕ × Place) → Outcome
count_by_parts world reference stations found counted_list standing =
    refuse_unless (not (list_any (λ (one : CountedLoad). is_on_vehicle one.place) counted_list)) refusal.OnVehicle
    (refuse_unless (not (list_any (λ (load : List ℕ × Place). is_in_job world load.0) (moves_list stations found counted_list standing))) refusal.InJob
    (refuse_unless (all_have_room world counted_list (finite.entries stations)) refusal.Full
    (refuse_unless (nat_lt (count_of world counted.References) most_records) refusal.Limit
    (Made (counted_effect reference (moves_list stations found counted_list standing) counted_list)))))
