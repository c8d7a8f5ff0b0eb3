-- The stock invariant holds after every call, where it does after the four calls that begin or end a trip, or change what it carries.
use Rattle.std.proofs.Common.{ℕ, List}
use Rattle.agv_header.specs.declared.key.VehicleKey.{VehicleKey}
use Rattle.agv_message_core.specs.declared.state.StateMessage.{StateMessage}
use Rattle.agv_world_core.specs.StockInvariant.{HasStockInvariant}
use Rattle.agv_world_core.specs.LawfulParts.{HasLawfulVehicles}
use Rattle.agv_world_core.specs.Worlds.{World}
use Rattle.agv_desk.specs.DriveSteps.{AskedDrive, start_drive}
use Rattle.agv_desk.specs.OrderSteps.{AskedOrder, start_order}
use Rattle.agv_desk.specs.Outcomes.{Outcome, Refused, Made, after}
use Rattle.agv_desk.specs.StateSteps.{take_state}
use Rattle.agv_desk.specs.Step.{step}
use Rattle.agv_desk.specs.VehicleSteps.{place_vehicle}
use Rattle.agv_desk.specs.WellTyped.{IsWellTyped}
use Rattle.agv_desk.specs.declared.call.Call.{Call}
use Rattle.agv_desk.specs.declared.call.Call.TheVariants as call
use Rattle.agv_desk.proofs.stock.StockInvariantCounts.{stocktake_keeps}
use Rattle.agv_desk.proofs.stock.StockInvariantStock.{register_keeps as load_register_keeps, correct_keeps, leave_keeps, add_keeps, stop_keeps}
use Rattle.agv_desk.proofs.stock.StockInvariantVehicles.{advance_keeps, cancel_keeps, instant_keeps, layout_keeps, job_keeps, load_keeps, order_keeps, pause_keeps, register_keeps, resume_keeps, resync_keeps, vehicle_keeps}
use Rattle.agv_desk.proofs.row_changes.Given.{GivesItself}
use Rattle.agv_desk.proofs.outcomes.Keeping.{KeepsStock}
use Rattle.agv_desk.proofs.outcomes.Ladders.{IfMade}

-- the calls that begin or end a trip, or change what it carries
pub record KeepsOnTrips (world : World) : Type 0 where
  pub start : (asked : AskedOrder) → IfMade (KeepsStock world) (start_order world asked)
  pub drive : (asked : AskedDrive) → IfMade (KeepsStock world) (start_drive world asked)
  pub place : (key : VehicleKey) (reference node : List ℕ) → IfMade (KeepsStock world) (place_vehicle world key reference node)
  pub state : (key : VehicleKey) (state : StateMessage) → IfMade (KeepsStock world) (take_state world key state)

module _ (gives : GivesItself) (seats : ℕ) (world : World) (lawful : HasLawfulVehicles seats world) (stock : HasStockInvariant world) (trips : KeepsOnTrips world) where
  -- every call
  pub step_keeps : (at : ℕ) (made : Call) → IsWellTyped made → IfMade (KeepsStock world) (step seats world at made)
  step_keeps at (call.SetLayout rows) typed = layout_keeps gives seats world lawful stock rows
  step_keeps at (call.RegisterVehicle key node capacity) typed = register_keeps world stock seats key node capacity
  step_keeps at (call.RegisterLoad load station) typed = load_register_keeps world stock load station typed
  step_keeps at (call.CorrectLoad load reference station) typed = correct_keeps world stock load reference station
  step_keeps at (call.LeaveLoad load reference) typed = leave_keeps world stock load reference
  step_keeps at (call.AddJob job load to) typed = add_keeps world stock job load to typed
  step_keeps at (call.StopJob job) typed = stop_keeps world stock job
  step_keeps at (call.StartOrder order key stops edges) typed = trips.start (record { at = at; order = order; key = key; stops = stops; edges = edges })
  step_keeps at (call.StartDrive order key to edges) typed = trips.drive (record { at = at; order = order; key = key; to = to; edges = edges })
  step_keeps at (call.Advance key order update edges) typed = advance_keeps world stock at key order update edges
  step_keeps at (call.Cancel key) typed = cancel_keeps world stock at key
  step_keeps at (call.Pause key) typed = pause_keeps world stock at key
  step_keeps at (call.Resume key) typed = resume_keeps world stock at key
  step_keeps at (call.PlaceVehicle key reference node) typed = trips.place key reference node
  step_keeps at (call.Resync key) typed = resync_keeps world stock key
  step_keeps at (call.State key state) typed = trips.state key state
  step_keeps at (call.GetOrder key) typed = order_keeps world stock key
  step_keeps at (call.GetInstant key) typed = instant_keeps world stock key
  step_keeps at (call.Stocktake reference rows) typed = stocktake_keeps world stock reference rows
  step_keeps at (call.GetLoad load) typed = load_keeps world stock load
  step_keeps at (call.GetJob job) typed = job_keeps world stock job
  step_keeps at (call.GetVehicle key) typed = vehicle_keeps world stock key
  step_keeps at (call.Report report) typed = record { stock = stock }

-- the world after a call, refused or not
pub stock_after : (world : World) (outcome : Outcome) → HasStockInvariant world → IfMade (KeepsStock world) outcome → HasStockInvariant (after world outcome)
unfolding after
stock_after world (Refused why) stock keeps = stock
stock_after world (Made effect) stock keeps = keeps.stock
