-- Calls that change nothing: those that only read, and states that are no newer than the last one that was accepted (VDA 5050 2.0, headerId; this project's profile). And what a call leaves that concerns one vehicle.
use Rattle.std.specs.Prelude.{◌≡◌, ◌≢◌, ◌≤◌, ℕ, Bool, true, false, List, [], Some}
use Rattle.std.specs.FinMap as finite
use Rattle.std.specs.FinSet as set
use Rattle.agv_header.specs.declared.key.VehicleKey.{VehicleKey}
use Rattle.agv_message_core.specs.declared.state.StateMessage.{StateMessage}
use Rattle.agv_world_core.specs.Questions.{row_of}
use Rattle.agv_world_core.specs.Worlds.{World}
use Rattle.agv_world_core.specs.declared.row.VehicleRow.{VehicleRow}
use Rattle.agv_desk.specs.Outcomes.{Outcome, after, decided}
use Rattle.agv_desk.specs.declared.call.Call.{Call}
use Rattle.agv_desk.specs.declared.call.Call.TheVariants as call

-- the call only reads; every other call may change something
abbrev pub only_tells : Call → Bool
only_tells (call.GetOrder key) = true
only_tells (call.GetInstant key) = true
only_tells (call.GetLoad load) = true
only_tells (call.GetJob job) = true
only_tells (call.GetVehicle key) = true
only_tells (call.Report report) = true
only_tells _ = false

-- the last accepted state of the vehicle has the same `headerId` or a later one
pub record IsOld (world : World) (key : VehicleKey) (state : StateMessage) : Type 0 where
  pub row : VehicleRow
  pub last : ℕ
  pub known : row_of world key ≡ Some row
  pub accepted : row.last_header ≡ Some last
  pub no_later : state.header_id ≤ last

-- the world is unchanged, and no row changes
abbrev pub ChangesNothing : World → Outcome → Type 0
ChangesNothing world outcome = (after world outcome ≡ world) × ((decided outcome).changes ≡ [])

-- of a world only the row and the trip of this vehicle have changed, and whether this name of an order was used
pub record ChangesOnly (key : VehicleKey) (order : List ℕ) (old new : World) : Type 0 where
  pub layout : new.layout ≡ old.layout
  pub vehicles : (other : VehicleKey) → other ≢ key → finite.get new.vehicles other ≡ finite.get old.vehicles other
  pub places : new.places ≡ old.places
  pub jobs : new.jobs ≡ old.jobs
  pub orders : (name : List ℕ) → name ≢ order → set.contains new.orders name ≡ set.contains old.orders name
  pub references : new.references ≡ old.references
