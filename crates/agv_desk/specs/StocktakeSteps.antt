-- A stocktake, over all of its rows (this project's profile): afterwards each counted station has exactly the loads that were found there and are known; loads that were there and were not found go to the checking place.
use Rattle.std.specs.Prelude.{ℕ, ◌+◌, ◌&&◌, nat_eq, nat_lt, nat_le, not, Bool, true, false, is_some, if◌then◌else◌, count_by, List, [], ◌∷◌, length, map, filter_map, Option, None, Some}
use Rattle.std.specs.Cmp.Lexicographic.{pointwise}
use Rattle.std.specs.FinMap as finite
use Rattle.std.specs.List.{list_all, list_any}
use Rattle.std.specs.Option.{option_map}
use Rattle.agv_header.specs.Limits.{most_records}
use Rattle.agv_header.specs.declared.refusal.Refusal.TheVariants as refusal
use Rattle.agv_layout.specs.declared.station.StationSite.{StationSite}
use Rattle.agv_stock.specs.declared.place.Place.{Place}
use Rattle.agv_stock.specs.declared.place.Place.TheVariants as place
use Rattle.agv_world_core.specs.Questions.{reserved, count_of}
use Rattle.agv_world_core.specs.Worlds.{World}
use Rattle.agv_world_core.specs.declared.floor.Counted.TheVariants as counted
use Rattle.agv_desk.specs.Outcomes.{Outcome, Made, Move, Recorded, refuse_unless, answer_only}
use Rattle.agv_desk.specs.Shared.{is_new, reference_key, is_in_job, move_to}
use Rattle.agv_desk.specs.declared.answer.Answer.TheVariants as answer

-- a row: a station that was counted, and a load that was found there, if one was
abbrev pub Row : Type 0
Row = List ℕ × Option (List ℕ)

-- ---- what the rows say

-- the row has this load
abbrev pub has_load : List ℕ → Option (List ℕ) → Bool
has_load load None = false
has_load load (Some name) = pointwise nat_eq name load

-- the station where a load was found, if it was
abbrev pub found_at : List Row → List ℕ → Option (List ℕ)
found_at [] load = None
found_at (row ∷ rows) load = if has_load load row.1 then Some row.0 else found_at rows load

-- the station was counted
abbrev pub is_counted : List Row → List ℕ → Bool
is_counted rows station = list_any (λ (row : Row). pointwise nat_eq row.0 station) rows

-- the load of a row is on one of these rows too
abbrev pub is_again : List Row → Option (List ℕ) → Bool
is_again rows None = false
is_again rows (Some load) = is_some (found_at rows load)

-- some load is on two rows
abbrev pub has_twice : List Row → Bool
has_twice [] = false
has_twice (row ∷ rows) = if is_again rows row.1 then true else has_twice rows

-- ---- what moves

-- the station where the load was found, as a place, if it is not this one
abbrev pub other_station : List ℕ → List ℕ → Option Place
other_station station found = if pointwise nat_eq found station then None else Some (place.Station found)

-- the new place of a load that is recorded at this station: where it was found, or the checking place if it was not found and this station was counted; none if it stays
abbrev pub from_station : Bool → List ℕ → Option (List ℕ) → Option Place
from_station counted station None = if counted then Some place.Checking else None
from_station counted station (Some found) = other_station station found

-- the new place of a load, if it moves, by which stations were counted, where it was found, and where it is recorded
abbrev pub new_place : (List ℕ → Bool) → Option (List ℕ) → Place → Option Place
new_place counted found (place.Station id) = from_station (counted id) id found
new_place counted found (place.Vehicle key) = None
new_place counted found place.Checking = option_map place.Station found
new_place counted found place.Left = None

-- the new place that the rows give a load, if it moves
abbrev pub recounted : List Row → List ℕ → Place → Option Place
recounted rows load place = new_place (is_counted rows) (found_at rows load) place

-- a load with its new place, if it moves
abbrev pub new_entry : List Row → List ℕ × Place → Option (List ℕ × Place)
new_entry rows load = option_map (λ (to : Place). (load.0, to)) (recounted rows load.0 load.1)

-- the loads that move, in the order of their names, with their new places
abbrev pub new_places : World → List Row → List (List ℕ × Place)
new_places world rows = filter_map (new_entry rows) (finite.entries world.places)

-- the move of a load
abbrev pub count_move : List ℕ × Place → Move
count_move load = move_to load.0 load.1 Recorded

-- the moves of a stocktake, in the order of the loads' names
abbrev pub count_moves : World → List Row → List Move
count_moves world rows = map count_move (new_places world rows)

-- ---- what the rows find

-- the load is on a vehicle
abbrev pub is_on_vehicle : Option Place → Bool
is_on_vehicle None = false
is_on_vehicle (Some (place.Station id)) = false
is_on_vehicle (Some (place.Vehicle key)) = true
is_on_vehicle (Some place.Checking) = false
is_on_vehicle (Some place.Left) = false

-- the load of a row is on a vehicle
abbrev pub finds_on_vehicle : World → Option (List ℕ) → Bool
finds_on_vehicle world None = false
finds_on_vehicle world (Some load) = is_on_vehicle (finite.get world.places load)

-- the load is registered, and has not left
abbrev pub is_here : Option Place → Bool
is_here None = false
is_here (Some (place.Station id)) = true
is_here (Some (place.Vehicle key)) = true
is_here (Some place.Checking) = true
is_here (Some place.Left) = false

-- the row has a load that is registered and has not left
abbrev pub finds_known : World → Option (List ℕ) → Bool
finds_known world None = false
finds_known world (Some load) = is_here (finite.get world.places load)

-- the load of a row, if it is not registered or has left
abbrev pub unknown_on : World → Option (List ℕ) → Option (List ℕ)
unknown_on world None = None
unknown_on world (Some load) = if is_here (finite.get world.places load) then None else Some load

-- the loads of the rows that are not registered or have left, in the order of the rows
abbrev pub unknown_in : World → List Row → List (List ℕ)
unknown_in world rows = filter_map (λ (row : Row). unknown_on world row.1) rows

-- the number of known loads that were found at a station
abbrev pub found_here : World → List Row → List ℕ → ℕ
found_here world rows station = count_by (λ (row : Row). pointwise nat_eq row.0 station && finds_known world row.1) rows

-- the loads that were found at a station fit there, with the live jobs to it
abbrev pub fits : World → List Row → List ℕ → Option StationSite → Bool
fits world rows station None = false
fits world rows station (Some site) = nat_le (found_here world rows station + reserved world station) site.capacity

-- ---- the call

-- the stocktake after the checks of its rows: OnVehicle if a found load is on a vehicle, InJob if a load that would move has a live job, Full if the found loads and the live jobs to a counted station exceed its capacity, Limit
abbrev pub count_loads : World → List ℕ → List Row → Outcome
count_loads world reference rows =
    refuse_unless (not (list_any (λ (row : Row). finds_on_vehicle world row.1) rows)) refusal.OnVehicle
    (refuse_unless (not (list_any (λ (move : Move). is_in_job world move.load) (count_moves world rows))) refusal.InJob
    (refuse_unless (list_all (λ (row : Row). fits world rows row.0 (finite.get world.layout.stations row.0)) rows) refusal.Full
    (refuse_unless (nat_lt (count_of world counted.References) most_records) refusal.Limit
    (Made (record (answer_only (answer.Counted (length (count_moves world rows)) (unknown_in world rows))) {
      moves = count_moves world rows;
      uses = reference_key reference ∷ [];
    })))))

-- the station of each row is known
abbrev pub are_known : World → List Row → Bool
are_known world rows = list_all (λ (row : Row). is_some (finite.get world.layout.stations row.0)) rows

-- POST /stocktakes/{ref}: RefUsed, NoStation, CountTwice; then `count_loads`
abbrev pub take_stock : World → List ℕ → List Row → Outcome
take_stock world reference rows =
    refuse_unless (is_new world reference) refusal.RefUsed
    (refuse_unless (are_known world rows) refusal.NoStation
    (refuse_unless (not (has_twice rows)) refusal.CountTwice
    (count_loads world reference rows)))
