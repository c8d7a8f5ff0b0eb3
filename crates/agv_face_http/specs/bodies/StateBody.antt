-- The body that is a state message, and the call that it makes (VDA 5050 2.0, state; this project's profile).
use Rattle.std.specs.Prelude.{ℕ, List, Bool, ◌&&◌, Result, Ok, Err, if◌then◌else◌}
use Rattle.std.specs.Str.{bytes_eq}
use Rattle.agv_header.specs.declared.key.VehicleKey.{VehicleKey}
use Rattle.agv_header.specs.declared.refusal.Refusal.{Refusal}
use Rattle.agv_header.specs.declared.refusal.Refusal.TheVariants as refusal
use Rattle.agv_message_json.specs.Body.{body_of}
use Rattle.agv_message_json.specs.State.{state_of}
use Rattle.agv_message_core.specs.declared.state.StateMessage.{StateMessage}
use Rattle.agv_desk.specs.declared.call.Call.{Call}
use Rattle.agv_desk.specs.declared.call.Call.TheVariants as call

-- applies `next` to what was read, unless that is refused
abbrev pub unless_refused : {A B : Type 0} → (A → Result B Refusal) → Result A Refusal → Result B Refusal
unless_refused next (Err r) = Err r
unless_refused next (Ok read) = next read

-- the state names this vehicle as its sender
abbrev pub is_sent_by : VehicleKey → StateMessage → Bool
is_sent_by key state = bytes_eq state.manufacturer key.manufacturer && bytes_eq state.serial key.serial

-- the call with this state of the vehicle that the path names, or `WrongVehicle`
abbrev pub from_vehicle : VehicleKey → StateMessage → Result Call Refusal
from_vehicle key state = if is_sent_by key state then Ok (call.State key state) else Err refusal.WrongVehicle

-- the state message that the body is, or the first refusal that applies
unfoldable pub message_in : List ℕ → Result StateMessage Refusal
message_in body = unless_refused state_of (body_of body)

-- `State`: the refusals of the message come first, then `WrongVehicle` where it isn't of the path's vehicle
unfoldable pub state_in : VehicleKey → List ℕ → Result Call Refusal
state_in key body = unless_refused (from_vehicle key) (message_in body)
