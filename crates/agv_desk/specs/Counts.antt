-- What a call adds to the counts of vehicles, loads, jobs, orders and references: one to one of them, or nothing (this project's profile).
use Rattle.std.specs.Prelude.{ℕ, if◌then◌else◌, Option, None, Some}
use Rattle.agv_world_core.specs.Counts.{one_more}
use Rattle.agv_world_core.specs.declared.floor.Counted.{Counted}
use Rattle.agv_world_core.specs.declared.floor.Counted.TheVariants as counted
use Rattle.agv_desk.specs.Causes.{is_refusal}
use Rattle.agv_desk.specs.declared.answer.Answer.{Answer}
use Rattle.agv_desk.specs.declared.call.Call.{Call}
use Rattle.agv_desk.specs.declared.call.Call.TheVariants as call

-- the count that a call increases by one if it is not refused: vehicles, loads, jobs, names of orders or references
abbrev pub adds_to : Call → Option Counted
adds_to (call.RegisterVehicle key node capacity) = Some counted.Vehicles
adds_to (call.RegisterLoad load station) = Some counted.Loads
adds_to (call.CorrectLoad load reference station) = Some counted.References
adds_to (call.LeaveLoad load reference) = Some counted.References
adds_to (call.AddJob job load to) = Some counted.Jobs
adds_to (call.StartOrder order key stops edges) = Some counted.Orders
adds_to (call.StartDrive order key to edges) = Some counted.Orders
adds_to (call.PlaceVehicle key reference node) = Some counted.References
adds_to (call.Stocktake reference rows) = Some counted.References
adds_to _ = None

-- the count that a call with this answer increases by one, if any
abbrev pub counted_by : Call → Answer → Option Counted
counted_by made answer = if is_refusal answer then None else adds_to made

-- by how much a call with this answer increases a count: 1 or 0
abbrev pub added : Call → Answer → Counted → ℕ
added made answer what = one_more (counted_by made answer) what
