-- The calls of loads (this project's profile). A load for which no station is named goes to the checking place.
use Rattle.std.specs.Prelude.{ℕ, nat_lt, List, [], ◌∷◌, Option, None, Some}
use Rattle.std.specs.FinMap as finite
use Rattle.agv_header.specs.Limits.{most_records}
use Rattle.agv_header.specs.declared.refusal.Refusal.TheVariants as refusal
use Rattle.agv_stock.specs.Checks.{register_check, correct_check, leave_check}
use Rattle.agv_stock.specs.declared.place.Place.{Place}
use Rattle.agv_stock.specs.declared.place.Place.TheVariants as place
use Rattle.agv_world_core.specs.Questions.{count_of}
use Rattle.agv_world_core.specs.Worlds.{World}
use Rattle.agv_world_core.specs.declared.floor.Counted.TheVariants as counted
use Rattle.agv_desk.specs.Outcomes.{Outcome, Effect, Made, Registered, Recorded, refuse_unless, checked, answer_only}
use Rattle.agv_desk.specs.Shared.{is_new, reference_key, goal_of, is_in_job, move_to}
use Rattle.agv_desk.specs.declared.answer.Answer.TheVariants as answer

-- the station as a place, or the checking place if there is none
abbrev pub place_of : Option (List ℕ) → Place
place_of None = place.Checking
place_of (Some station) = place.Station station

-- the effect of registering the load at this place
abbrev pub load_registered : List ℕ → Place → Effect
load_registered load to = record (answer_only answer.Done) { moves = move_to load to Registered ∷ [] }

-- the effect of recording the load at this place, with the reference
abbrev pub recorded : List ℕ → Place → List ℕ → Effect
recorded load to reference = record (answer_only answer.Done) { moves = move_to load to Recorded ∷ []; uses = reference_key reference ∷ [] }

-- POST /loads: Exists, NoStation, Full, Limit
abbrev pub register_load : World → List ℕ → Option (List ℕ) → Outcome
register_load world load station =
    checked (register_check (finite.get world.places load) (goal_of world station))
    (refuse_unless (nat_lt (count_of world counted.Loads) most_records) refusal.Limit
    (Made (load_registered load (place_of station))))

-- POST /loads/{load}/correct: RefUsed, NoLoad, NoStation, Elsewhere, InJob, SameStation, Full, Limit
abbrev pub correct_load : World → List ℕ → List ℕ → Option (List ℕ) → Outcome
correct_load world load reference station =
    refuse_unless (is_new world reference) refusal.RefUsed
    (checked (correct_check (finite.get world.places load) (is_in_job world load) (goal_of world station))
    (refuse_unless (nat_lt (count_of world counted.References) most_records) refusal.Limit
    (Made (recorded load (place_of station) reference))))

-- POST /loads/{load}/leave: RefUsed, NoLoad, Elsewhere, InJob, Limit
abbrev pub leave_load : World → List ℕ → List ℕ → Outcome
leave_load world load reference =
    refuse_unless (is_new world reference) refusal.RefUsed
    (checked (leave_check (finite.get world.places load) (is_in_job world load))
    (refuse_unless (nat_lt (count_of world counted.References) most_records) refusal.Limit
    (Made (recorded load place.Left reference))))
