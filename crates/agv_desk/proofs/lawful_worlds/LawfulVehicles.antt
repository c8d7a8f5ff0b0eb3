-- Every call keeps the layout, the vehicles and their trips lawful.
use Rattle.std.proofs.Common.{ℕ}
use Rattle.agv_world_core.specs.LawfulParts.{HasLawfulVehicles}
use Rattle.agv_world_core.specs.Worlds.{World}
use Rattle.agv_desk.specs.Outcomes.{Outcome, Refused, Made, after}
use Rattle.agv_desk.specs.Step.{step}
use Rattle.agv_desk.specs.WellTyped.{IsMoment, IsSeats, IsWellTyped}
use Rattle.agv_desk.specs.declared.call.Call.{Call}
use Rattle.agv_desk.specs.declared.call.Call.TheVariants as call
use Rattle.agv_desk.proofs.row_changes.Given.{Given}
use Rattle.agv_desk.proofs.outcomes.Keeping.{KeepsVehicles}
use Rattle.agv_desk.proofs.outcomes.Ladders.{IfMade}
use Rattle.agv_desk.proofs.lawful_worlds.LawfulVehiclesGiven.{GivenMore}
use Rattle.agv_desk.proofs.lawful_worlds.LawfulVehiclesDrives.{starts_drive}
use Rattle.agv_desk.proofs.lawful_worlds.LawfulVehiclesOrders.{starts_order, advances_trip}
use Rattle.agv_desk.proofs.lawful_worlds.LawfulVehiclesPlain.{sets_layout, registers_load, corrects_load, lets_load_leave, adds_job, stops_job, takes_stock, tells_order, tells_instant, tells_load, tells_job, tells_vehicle, cancels, pauses, resumes, begins_anew, registers_vehicle, places_vehicle}
use Rattle.agv_desk.proofs.lawful_worlds.LawfulVehiclesStates.{takes_state}

module _ (given : Given) (more : GivenMore) (seats : ℕ) (world : World) (lawful : HasLawfulVehicles seats world) where
  pub keeps_vehicles : (at : ℕ) (made : Call) → IsSeats seats → IsMoment at → IsWellTyped made → IfMade (KeepsVehicles seats world) (step seats world at made)
  keeps_vehicles at (call.SetLayout rows) is_seats moment typed = sets_layout given more seats world lawful rows typed
  keeps_vehicles at (call.RegisterVehicle key node capacity) is_seats moment typed = registers_vehicle given more seats world lawful key node capacity typed
  keeps_vehicles at (call.RegisterLoad load station) is_seats moment typed = registers_load given more seats world lawful load station
  keeps_vehicles at (call.CorrectLoad load reference station) is_seats moment typed = corrects_load given more seats world lawful load reference station typed
  keeps_vehicles at (call.LeaveLoad load reference) is_seats moment typed = lets_load_leave given more seats world lawful load reference typed
  keeps_vehicles at (call.AddJob job load to) is_seats moment typed = adds_job given more seats world lawful job load to
  keeps_vehicles at (call.StopJob job) is_seats moment typed = stops_job given more seats world lawful job
  keeps_vehicles at (call.StartOrder order key stops edges) is_seats moment typed = starts_order given more seats world lawful (record { at = at; order = order; key = key; stops = stops; edges = edges }) is_seats moment typed
  keeps_vehicles at (call.StartDrive order key to edges) is_seats moment typed = starts_drive given more seats world lawful (record { at = at; order = order; key = key; to = to; edges = edges }) moment typed
  keeps_vehicles at (call.Advance key order update edges) is_seats moment typed = advances_trip given more seats world lawful at key order update edges moment
  keeps_vehicles at (call.Cancel key) is_seats moment typed = cancels given more seats world lawful at key moment
  keeps_vehicles at (call.Pause key) is_seats moment typed = pauses given more seats world lawful at key moment
  keeps_vehicles at (call.Resume key) is_seats moment typed = resumes given more seats world lawful at key moment
  keeps_vehicles at (call.PlaceVehicle key reference node) is_seats moment typed = places_vehicle given more seats world lawful key reference node typed
  keeps_vehicles at (call.Resync key) is_seats moment typed = begins_anew given more seats world lawful key
  keeps_vehicles at (call.State key state) is_seats moment typed = takes_state given more seats world lawful key state typed
  keeps_vehicles at (call.GetOrder key) is_seats moment typed = tells_order given more seats world lawful key
  keeps_vehicles at (call.GetInstant key) is_seats moment typed = tells_instant given more seats world lawful key
  keeps_vehicles at (call.Stocktake reference rows) is_seats moment typed = takes_stock given more seats world lawful reference rows typed
  keeps_vehicles at (call.GetLoad load) is_seats moment typed = tells_load given more seats world lawful load
  keeps_vehicles at (call.GetJob job) is_seats moment typed = tells_job given more seats world lawful job
  keeps_vehicles at (call.GetVehicle key) is_seats moment typed = tells_vehicle given more seats world lawful key
  keeps_vehicles at (call.Report report) is_seats moment typed = record { vehicles = lawful }

  -- a call that is refused changes nothing
  lawful_if_made : (outcome : Outcome) → IfMade (KeepsVehicles seats world) outcome → HasLawfulVehicles seats (after world outcome)
  unfolding after
  lawful_if_made (Refused why) keeps = lawful
  lawful_if_made (Made effect) keeps = keeps.vehicles

  pub lawful_after : (at : ℕ) (made : Call) → IsSeats seats → IsMoment at → IsWellTyped made → HasLawfulVehicles seats (after world (step seats world at made))
  lawful_after at made is_seats moment typed = lawful_if_made (step seats world at made) (keeps_vehicles at made is_seats moment typed)
