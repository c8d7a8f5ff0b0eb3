-- What the calls of several families share: names that are used once, the goal of a load, and what a vehicle may hold (this project's profile).
use Rattle.std.specs.Prelude.{ℕ, min, not, Bool, is_some, List, Option, None, Some}
use Rattle.agv_header.specs.declared.key.Thing.{Thing}
use Rattle.agv_header.specs.declared.key.VehicleKey.{VehicleKey}
use Rattle.agv_stock.specs.declared.goal.Goal.{Goal}
use Rattle.agv_stock.specs.declared.goal.Goal.TheVariants as goal
use Rattle.agv_stock.specs.declared.place.Place.{Place}
use Rattle.agv_track_holds.specs.Holds.{first_held}
use Rattle.agv_world_core.specs.Questions.{room_at, job_of, is_used}
use Rattle.agv_world_core.specs.Maps.{maps_of}
use Rattle.agv_world_core.specs.Worlds.{World}
use Rattle.agv_world_core.specs.declared.key.UseKey.{UseKey}
use Rattle.agv_world_core.specs.declared.key.UseKind.TheVariants as used
use Rattle.agv_desk.specs.Outcomes.{Outcome, Move, Cause, unheld}

-- ---- names

-- the reference was not used yet
abbrev pub is_new : World → List ℕ → Bool
is_new world reference = not (is_used world used.Reference reference)

-- the key of a used reference
abbrev pub reference_key : List ℕ → UseKey
reference_key reference = record { kind = used.Reference; name = reference }

-- ---- loads

-- a station as a goal, with the room for one load if this many more fit: a call takes only one there; unknown if the layout has no such station
abbrev pub goal_at : List ℕ → Option ℕ → Goal
goal_at station None = goal.Unknown
goal_at station (Some room) = goal.At station (min room 1)

-- where a load is to go: to the checking place, or to this station
abbrev pub goal_of : World → Option (List ℕ) → Goal
goal_of world None = goal.Checking
goal_of world (Some station) = goal_at station (room_at world station)

-- the load is in a live job
abbrev pub is_in_job : World → List ℕ → Bool
is_in_job world load = is_some (job_of world load)

-- the move of a load to this place, for this cause
abbrev pub move_to : List ℕ → Place → Cause → Move
move_to load to why = record { load = load; place = to; cause = why }

-- ---- vehicles

-- `rest` if no other vehicle holds any of the things, otherwise Held
abbrev pub if_free : World → VehicleKey → List Thing → Outcome → Outcome
if_free world key things rest = unheld (first_held (maps_of world).holds key things) rest
