-- Lists of calls: where a load was put last, how often an order has moved the load of a job, and which state messages are repeated (VDA 5050 2.0, state; this project's profile).
use Rattle.std.specs.Prelude.{◌≡◌, ◌≢◌, ◌<◌, ◌⊎◌, ◌&&◌, ℕ, nat_eq, Bool, true, false, if◌then◌else◌, List, [], ◌∷◌, ◌++◌, count_by, Option, None, Some}
use Rattle.std.specs.Cmp.Lexicographic.{pointwise}
use Rattle.agv_header.specs.declared.key.VehicleKey.{VehicleKey}
use Rattle.agv_message_core.specs.declared.order.ActKind.{ActKind}
use Rattle.agv_message_core.specs.declared.order.ActKind.TheVariants.{Pick, Drop}
use Rattle.agv_message_core.specs.declared.state.StateMessage.{StateMessage}
use Rattle.agv_order.specs.declared.trip.Trip.{Trip}
use Rattle.agv_stock.specs.declared.place.Place.{Place}
use Rattle.agv_track.specs.Reports.{is_cancelled}
use Rattle.agv_world_core.specs.ConsistentTrips.{HasTrip}
use Rattle.agv_world_core.specs.Questions.{row_of}
use Rattle.agv_world_core.specs.Worlds.{World}
use Rattle.agv_world_core.specs.declared.row.VehicleRow.{VehicleRow}
use Rattle.agv_desk.specs.Outcomes.{Cause, Registered, Recorded, Acted, Move, answer_of}
use Rattle.agv_desk.specs.StateSteps.{pending_of}
use Rattle.agv_desk.specs.Step.{step, steps}
use Rattle.agv_desk.specs.declared.answer.Answer.TheVariants as answer
use Rattle.agv_desk.specs.declared.call.Call.{Call}
use Rattle.agv_desk.specs.declared.call.Call.TheVariants as call

-- ---- where a load was put last

-- the later place if there is one, otherwise the earlier one
abbrev pub later_of : Option Place → Option Place → Option Place
later_of None earlier = earlier
later_of (Some later) earlier = Some later

-- the place to which these moves take the load last, or none if they do not move it
abbrev pub last_place : List Move → List ℕ → Option Place
last_place [] load = None
last_place (move ∷ moves) load = later_of (last_place moves load) (if pointwise nat_eq move.load load then Some move.place else None)

-- ---- how often an order has moved a job's load

-- the two kinds are the same
abbrev pub is_kind : ActKind → ActKind → Bool
is_kind Pick Pick = true
is_kind Pick Drop = false
is_kind Drop Pick = false
is_kind Drop Drop = true

-- the cause is the pick, or the drop, of the job by the order
abbrev pub is_by : ActKind → List ℕ → List ℕ → Cause → Bool
is_by kind order job Registered = false
is_by kind order job Recorded = false
is_by kind order job (Acted other by for) = is_kind other kind && pointwise nat_eq by order && pointwise nat_eq for job

-- the number of these moves that are the pick, or the drop, of the job by the order
abbrev pub times : ActKind → List ℕ → List ℕ → List Move → ℕ
times kind order job moves = count_by (λ (move : Move). is_by kind order job move.cause) moves

-- ---- repeated state messages

-- none of these calls is a resync of the vehicle
abbrev pub HasNoResync : VehicleKey → List (ℕ × Call) → Type 0
HasNoResync key [] = Unit {0}
HasNoResync key (made ∷ calls) = (made.1 ≢ call.Resync key) × HasNoResync key calls

-- the vehicle has an open trip, whose order the message names
abbrev pub SpeaksOfTrip : World → VehicleKey → StateMessage → Type 0
SpeaksOfTrip world key state = (trip : Trip) × HasTrip world key trip × (trip.order ≡ state.order_id)

-- the same message of the same vehicle is among these calls; it was accepted; and since then the vehicle was not resynced, or the message named the order of the trip that was open then
pub record IsRepeated (seats : ℕ) (world : World) (calls : List (ℕ × Call)) (key : VehicleKey) (state : StateMessage) : Type 0 where
  pub earlier : List (ℕ × Call)
  pub at : ℕ
  pub since : List (ℕ × Call)
  pub among : calls ≡ earlier ++ (at, call.State key state) ∷ since
  pub accepted : answer_of (step seats (steps seats world earlier) at (call.State key state)) ≡ answer.Accepted true
  pub still : HasNoResync key since ⊎ SpeaksOfTrip (steps seats world earlier) key state

-- the message reports as finished the cancelOrder that is pending for the vehicle, which the desk has made only since the earlier world
pub record CancelsSince (earlier world : World) (key : VehicleKey) (state : StateMessage) : Type 0 where
  pub before : VehicleRow
  pub row : VehicleRow
  pub was : row_of earlier key ≡ Some before
  pub is : row_of world key ≡ Some row
  pub cancelled : is_cancelled state.actions (pending_of row) ≡ true
  pub written_since : before.instants.count < row.instants.count
