-- The table of calls: the effect and the answer of each call.
use Rattle.std.specs.Prelude.{ℕ, List, [], ◌∷◌, ◌++◌}
use Rattle.agv_world_core.specs.Worlds.{World}
use Rattle.agv_desk.specs.DriveSteps.{start_drive}
use Rattle.agv_desk.specs.InstantSteps.{cancel, pause, resume}
use Rattle.agv_desk.specs.JobSteps.{add_job, stop_job}
use Rattle.agv_desk.specs.LayoutSteps.{set_layout}
use Rattle.agv_desk.specs.LoadSteps.{register_load, correct_load, leave_load}
use Rattle.agv_desk.specs.OrderSteps.{start_order, advance}
use Rattle.agv_desk.specs.Outcomes.{Outcome, Made, Move, answer_only, after, answer_of, moves_of}
use Rattle.agv_desk.specs.ReadSteps.{get_order, get_instant, get_load, get_job, get_vehicle}
use Rattle.agv_desk.specs.Reports.{served}
use Rattle.agv_desk.specs.StateSteps.{take_state}
use Rattle.agv_desk.specs.StocktakeSteps.{take_stock}
use Rattle.agv_desk.specs.VehicleSteps.{register_vehicle, place_vehicle, resync}
use Rattle.agv_desk.specs.declared.answer.Answer.{Answer}
use Rattle.agv_desk.specs.declared.answer.Answer.TheVariants as answer
use Rattle.agv_desk.specs.declared.call.Call.{Call}
use Rattle.agv_desk.specs.declared.call.Call.TheVariants as call

-- the outcome of a call in a world at a moment, on a desk whose vehicles carry at most `seats` loads
abbrev pub step : ℕ → World → ℕ → Call → Outcome
step seats world at (call.SetLayout rows) = set_layout world rows
step seats world at (call.RegisterVehicle key node capacity) = register_vehicle seats world key node capacity
step seats world at (call.RegisterLoad load station) = register_load world load station
step seats world at (call.CorrectLoad load reference station) = correct_load world load reference station
step seats world at (call.LeaveLoad load reference) = leave_load world load reference
step seats world at (call.AddJob job load to) = add_job world job load to
step seats world at (call.StopJob job) = stop_job world job
step seats world at (call.StartOrder order key stops edges) = start_order world (record { at = at; order = order; key = key; stops = stops; edges = edges })
step seats world at (call.StartDrive order key to edges) = start_drive world (record { at = at; order = order; key = key; to = to; edges = edges })
step seats world at (call.Advance key order update edges) = advance world at key order update edges
step seats world at (call.Cancel key) = cancel world at key
step seats world at (call.Pause key) = pause world at key
step seats world at (call.Resume key) = resume world at key
step seats world at (call.PlaceVehicle key reference node) = place_vehicle world key reference node
step seats world at (call.Resync key) = resync world key
step seats world at (call.State key state) = take_state world key state
step seats world at (call.GetOrder key) = get_order world key
step seats world at (call.GetInstant key) = get_instant world key
step seats world at (call.Stocktake reference rows) = take_stock world reference rows
step seats world at (call.GetLoad load) = get_load world load
step seats world at (call.GetJob job) = get_job world job
step seats world at (call.GetVehicle key) = get_vehicle world key
step seats world at (call.Report report) = Made (answer_only (answer.Report report []))

-- ---- a list of calls, each at its moment

-- the world after the calls
abbrev pub steps : ℕ → World → List (ℕ × Call) → World
steps seats world [] = world
steps seats world (made ∷ calls) = steps seats (after world (step seats world made.0 made.1)) calls

-- the answers to the calls, as they are served
abbrev pub answers : ℕ → World → List (ℕ × Call) → List Answer
answers seats world [] = []
answers seats world (made ∷ calls) =
    served world (answer_of (step seats world made.0 made.1)) ∷ answers seats (after world (step seats world made.0 made.1)) calls

-- the moves of the calls
abbrev pub moves : ℕ → World → List (ℕ × Call) → List Move
moves seats world [] = []
moves seats world (made ∷ calls) =
    moves_of (step seats world made.0 made.1) ++ moves seats (after world (step seats world made.0 made.1)) calls
