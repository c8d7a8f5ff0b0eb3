-- Whether the holds that the rows encode are those of the vehicles: their footprints, and nothing else.
use Rattle.std.specs.Prelude.{◌≡◌, ◌&&◌, ◌||◌, not, Bool, true, List, Some}
use Rattle.std.specs.FinMap as finite
use Rattle.std.specs.List.{list_all}
use Rattle.std.specs.Option.{is_some}
use Rattle.agv_header.specs.Key.{key_cmp}
use Rattle.agv_header.specs.KeyOrder.{key_eq}
use Rattle.agv_header.specs.declared.key.Thing.{Thing}
use Rattle.agv_header.specs.declared.key.VehicleKey.{VehicleKey}
use Rattle.agv_track_holds.specs.Footprints.{footprint_of}
use Rattle.agv_track_holds.specs.Holds.{Holds, is_in, is_own}
use Rattle.agv_world_core.specs.Questions.{trip_of}
use Rattle.agv_world_core.specs.Worlds.{World}
use Rattle.agv_world_core.specs.declared.row.VehicleRow.{VehicleRow}

-- ---- a table as a list of pairs

-- each pair is an entry of the table
abbrev pub are_entries : Holds → List (Thing × VehicleKey) → Bool
are_entries table pairs = list_all (λ (pair : Thing × VehicleKey). is_own pair.1 (finite.get table pair.0)) pairs

-- each entry of the table is a pair: it passes every test that all pairs pass
abbrev pub HasEach : Holds → List (Thing × VehicleKey) → Type 0
HasEach table pairs = (test : Thing × VehicleKey → Bool) → list_all test pairs ≡ true → (thing : Thing) (key : VehicleKey) → finite.get table thing ≡ Some key → test (thing, key) ≡ true

-- ---- the holds of vehicles

-- the footprint of the vehicle of this row
abbrev pub footprint_in : World → VehicleKey × VehicleRow → List Thing
footprint_in world entry = footprint_of (record { node = entry.1.node; rest = entry.1.rest; trip = trip_of world entry.0 })

-- the vehicle holds each of the things
abbrev pub holds_each : Holds → VehicleKey → List Thing → Bool
holds_each table key things = list_all (λ thing. is_own key (finite.get table thing)) things

-- the thing of the pair is among the things, if the pair is this vehicle's
abbrev pub is_kept : VehicleKey → List Thing → Thing × VehicleKey → Bool
is_kept key things pair = not (key_eq pair.1 key) || is_in pair.0 things

-- each thing that the vehicle holds is among the things
abbrev pub holds_only : List (Thing × VehicleKey) → VehicleKey → List Thing → Bool
holds_only pairs key things = list_all (is_kept key things) pairs

-- each holder is a vehicle
abbrev pub are_holders : finite.FinMap key_cmp VehicleRow → List (Thing × VehicleKey) → Bool
are_holders vehicles pairs = list_all (λ (pair : Thing × VehicleKey). is_some (finite.get vehicles pair.1)) pairs

-- the vehicle holds its footprint, and nothing else
abbrev pub holds_its_own : Holds → List (Thing × VehicleKey) → World → VehicleKey × VehicleRow → Bool
holds_its_own table pairs world entry = holds_each table entry.0 (footprint_in world entry) && holds_only pairs entry.0 (footprint_in world entry)

-- each vehicle holds its footprint, and nothing else
abbrev pub hold_their_own : Holds → List (Thing × VehicleKey) → World → List (VehicleKey × VehicleRow) → Bool
hold_their_own table pairs world entries = list_all (holds_its_own table pairs world) entries
