-- Every call leads to the maps of the world after it.
use Rattle.std.proofs.Common.{◌≡◌, ℕ}
use Rattle.agv_world_core.specs.Changes.{changed}
use Rattle.agv_world_core.specs.Maps.{maps_of}
use Rattle.agv_world_core.specs.Worlds.{World}
use Rattle.agv_desk.specs.InOrder.{IsInOrder}
use Rattle.agv_desk.specs.Outcomes.{after, decided}
use Rattle.agv_desk.specs.Step.{step}
use Rattle.agv_desk.specs.declared.call.Call.{Call}
use Rattle.agv_desk.specs.declared.call.Call.TheVariants as call
use Rattle.agv_desk.proofs.row_changes.Effects.{LeadsTo, lays_none, touches_none}
use Rattle.agv_desk.proofs.row_changes.Given.{Given}
use Rattle.agv_desk.proofs.outcomes.Ladders.{IfMade}
use Rattle.agv_desk.proofs.row_changes.DriveRows.{starts_drive}
use Rattle.agv_desk.proofs.row_changes.LayoutRows.{sets_layout}
use Rattle.agv_desk.proofs.row_changes.OrderRows.{starts_order, advances_trip}
use Rattle.agv_desk.proofs.row_changes.PlainSteps.{registers_load, corrects_load, lets_load_leave, adds_job, stops_job, takes_stock, tells_order, tells_instant, tells_load, tells_job, tells_vehicle, cancels, pauses, resumes, begins_anew, registers_vehicle, places_vehicle}
use Rattle.agv_desk.proofs.row_changes.StateRows.{takes_state}
use Rattle.agv_desk.proofs.row_changes.Steps.{decides, leads}

module _ (given : Given) (world : World) (in_order : IsInOrder world) where
  each : (seats at : ℕ) (made : Call) → IfMade (LeadsTo world) (step seats world at made)
  each seats at (call.SetLayout rows) = sets_layout given world in_order rows
  each seats at (call.RegisterVehicle key node capacity) = registers_vehicle given world in_order seats key node capacity
  each seats at (call.RegisterLoad load station) = registers_load given world in_order load station
  each seats at (call.CorrectLoad load reference station) = corrects_load given world in_order load reference station
  each seats at (call.LeaveLoad load reference) = lets_load_leave given world in_order load reference
  each seats at (call.AddJob job load to) = adds_job given world in_order job load to
  each seats at (call.StopJob job) = stops_job given world in_order job
  each seats at (call.StartOrder order key stops edges) = starts_order given world in_order (record { at = at; order = order; key = key; stops = stops; edges = edges })
  each seats at (call.StartDrive order key to edges) = starts_drive given world in_order (record { at = at; order = order; key = key; to = to; edges = edges })
  each seats at (call.Advance key order update edges) = advances_trip given world in_order at key order update edges
  each seats at (call.Cancel key) = cancels given world in_order at key
  each seats at (call.Pause key) = pauses given world in_order at key
  each seats at (call.Resume key) = resumes given world in_order at key
  each seats at (call.PlaceVehicle key reference node) = places_vehicle given world in_order key reference node
  each seats at (call.Resync key) = begins_anew given world in_order key
  each seats at (call.State key state) = takes_state given world in_order key state
  each seats at (call.GetOrder key) = tells_order given world in_order key
  each seats at (call.GetInstant key) = tells_instant given world in_order key
  each seats at (call.Stocktake reference rows) = takes_stock given world in_order reference rows
  each seats at (call.GetLoad load) = tells_load given world in_order load
  each seats at (call.GetJob job) = tells_job given world in_order job
  each seats at (call.GetVehicle key) = tells_vehicle given world in_order key
  each seats at (call.Report report) = leads given world in_order _ (lays_none world) (touches_none world)

  -- the rows that a call changes lead from the maps of the world to those of the world after it
  pub leads_all : (seats at : ℕ) (made : Call) → changed (decided (step seats world at made)).changes (maps_of world) ≡ maps_of (after world (step seats world at made))
  leads_all seats at made = decides world (step seats world at made) (each seats at made)
