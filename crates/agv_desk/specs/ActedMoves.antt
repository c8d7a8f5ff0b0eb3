-- Where the load of an act is when the act becomes finished (VDA 5050 2.0, actionStates; this project's profile).
use Rattle.std.specs.Prelude.{◌≡◌, ◌≤◌, ℕ, true, List, ◌∷◌, ◌++◌, Some}
use Rattle.std.specs.FinMap as finite
use Rattle.agv_header.specs.declared.key.VehicleKey.{VehicleKey}
use Rattle.agv_message_core.specs.declared.order.ActKind.{ActKind}
use Rattle.agv_message_core.specs.declared.order.ActKind.TheVariants.{Pick, Drop}
use Rattle.agv_order.specs.declared.trip.Trip.{Trip}
use Rattle.agv_stock.specs.Phase.{is_live}
use Rattle.agv_stock.specs.declared.job.Phase.TheVariants as phase
use Rattle.agv_stock.specs.declared.place.Place.{Place}
use Rattle.agv_stock.specs.declared.place.Place.TheVariants as place
use Rattle.agv_world_core.specs.StockInvariant.{Places}
use Rattle.agv_world_core.specs.ConsistentTrips.{HasTrip}
use Rattle.agv_world_core.specs.Lawful.{IsJob}
use Rattle.agv_world_core.specs.Questions.{reserved}
use Rattle.agv_world_core.specs.Worlds.{World}
use Rattle.agv_world_core.specs.declared.row.JobRow.{JobRow}
use Rattle.agv_desk.specs.ActSteps.{taken_to}
use Rattle.agv_desk.specs.Outcomes.{Acted, Effect, Made, Move, moved}
use Rattle.agv_desk.specs.Step.{moves, step, steps}
use Rattle.agv_desk.specs.declared.call.Call.{Call}

-- where an act finds its load: a pick at the job's origin, and a drop on the vehicle
abbrev pub taken_from : ActKind → VehicleKey → JobRow → Place
taken_from Pick key row = place.Station row.origin
taken_from Drop key row = place.Vehicle key

-- a vehicle has an open trip of this order; the job rides, is for the load that moves, and reserves room at its target; the load is where `taken_from` says, and moves to the vehicle or to the job's target
pub record FindsItsLoad (world : World) (places : Places) (move : Move) (kind : ActKind) (order job : List ℕ) : Type 0 where
  pub key : VehicleKey
  pub trip : Trip
  pub open_trip : HasTrip world key trip
  pub of_order : trip.order ≡ order
  pub row : JobRow
  pub here : IsJob world job row
  pub rides : row.phase ≡ phase.Riding
  pub place_reserved : 1 ≤ reserved world row.target
  pub load : row.load ≡ move.load
  pub from : finite.get places move.load ≡ Some (taken_from kind key row)
  pub to : move.place ≡ taken_to key kind row.target

-- each act that becomes finished finds its load where the moves before it have left it
pub record FindsLoads (world : World) (effect : Effect) : Type 0 where
  pub finds : (before after : List Move) (move : Move) (kind : ActKind) (order job : List ℕ) → effect.moves ≡ before ++ (move ∷ after) → move.cause ≡ Acted kind order job
      → FindsItsLoad world (moved world.places before) move kind order job

-- the job of the drop rides, and so is live; it is for the load that moves, and goes to the station where the load is put
pub record DropsForItsJob (world : World) (move : Move) (job : List ℕ) : Type 0 where
  pub row : JobRow
  pub here : IsJob world job row
  pub rides : row.phase ≡ phase.Riding
  pub live : is_live row.phase ≡ true
  pub load : row.load ≡ move.load
  pub to : move.place ≡ place.Station row.target

-- each drop that becomes finished is of a job for its load and its station
pub record DropsLoads (world : World) (effect : Effect) : Type 0 where
  pub drops : (before after : List Move) (move : Move) (order job : List ℕ) → effect.moves ≡ before ++ (move ∷ after) → move.cause ≡ Acted Drop order job
      → DropsForItsJob world move job

-- ---- over a list of calls

-- after the earlier calls comes one with this effect, in the world to which they have led
pub record HasEffectAfter (seats : ℕ) (world : World) (calls earlier : List (ℕ × Call)) (effect : Effect) : Type 0 where
  pub at : ℕ
  pub made : Call
  pub later : List (ℕ × Call)
  pub among : calls ≡ earlier ++ (at, made) ∷ later
  pub effects : step seats (steps seats world earlier) at made ≡ Made effect

-- the move is one of the effect of some call, after the moves of the earlier calls and the first ones of that call; when that call is served, the act finds its load where the moves before it have left the loads
pub record IsFoundIn (seats : ℕ) (world : World) (calls : List (ℕ × Call)) (before : List Move) (move : Move) (kind : ActKind) (order job : List ℕ) : Type 0 where
  pub earlier : List (ℕ × Call)
  pub effect : Effect
  pub served : HasEffectAfter seats world calls earlier effect
  pub first : List Move
  pub rest : List Move
  pub among : effect.moves ≡ first ++ (move ∷ rest)
  pub behind : before ≡ moves seats world earlier ++ first
  pub finds : FindsItsLoad (steps seats world earlier) (moved world.places before) move kind order job
