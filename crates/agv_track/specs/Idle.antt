-- How a state is judged of a vehicle that has no trip, or whose state is not of its trip (VDA 5050 2.0, state; this project's profile).
use Rattle.std.specs.Prelude.{ℕ, Bool, not, ◌||◌, nat_eq, List, [], ◌∷◌, length, ◌==◌, Option, Result, Ok}
use Rattle.std.specs.Cmp.Lexicographic.{pointwise}
use Rattle.agv_header.specs.declared.refusal.Refusal.{Refusal}
use Rattle.agv_header.specs.declared.refusal.Refusal.TheVariants.{ActionTwice, NotThere}
use Rattle.agv_message_core.specs.declared.state.StateMessage.{StateMessage}
use Rattle.agv_track.specs.Judgements.{first_of, unless}
use Rattle.agv_track.specs.Reports.{has_pending_twice, is_pending_over}
use Rattle.agv_track.specs.declared.pending.Pending.{Pending}

-- the last node that is reported is the one where the desk has the vehicle, or none is reported
abbrev pub may_stand : List ℕ → List ℕ → Bool
may_stand node last_node = length last_node == 0 || pointwise nat_eq node last_node

-- the refusals in their order: each line is a condition, and the refusal of a state that meets it
unfoldable pub idle_refusals : List ℕ → Option Pending → StateMessage → List (Bool × Refusal)
idle_refusals node pending state =
    (has_pending_twice state.actions pending, ActionTwice)
    ∷ (not (may_stand node state.last_node), NotThere)
    ∷ []

-- the first refusal, otherwise whether the pending action is over
unfoldable pub judged_idle : List ℕ → Option Pending → StateMessage → Result Bool Refusal
judged_idle node pending state = unless (first_of (idle_refusals node pending state)) (Ok (is_pending_over state.actions pending))
