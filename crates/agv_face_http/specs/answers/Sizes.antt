-- The lengths of answers, for reserving the memory that an answer needs.
use Rattle.std.specs.Prelude.{◌<◌, ◌+◌, ◌^◌, ℕ, Bool, true, false, List, length, Option, Some, None, Result, Ok, Err}
use Rattle.std.specs.List.{sum_by}
use Rattle.agv_header.specs.Key.{thing_name}
use Rattle.agv_header.specs.Name.{IsName}
use Rattle.agv_header.specs.declared.refusal.Refusal.{Refusal}
use Rattle.agv_header.specs.declared.refusal.Refusal.TheVariants as refusal
use Rattle.agv_header.specs.declared.key.VehicleKey.{VehicleKey}
use Rattle.agv_world_core.specs.declared.floor.Carrier.{Carrier}
use Rattle.agv_world_core.specs.declared.row.JobRow.{JobRow}
use Rattle.agv_world_core.specs.declared.row.VehicleRow.{VehicleRow}
use Rattle.agv_desk.specs.declared.answer.OpenOrder.{OpenOrder}
use Rattle.agv_desk.specs.declared.answer.Answer.{Answer}
use Rattle.agv_desk.specs.declared.answer.Answer.TheVariants as answer
use Rattle.agv_desk.specs.declared.call.Call.{Call}
use Rattle.agv_desk.specs.Unchanged.{only_tells}

-- the details of a refusal are of their types: names, and a number below 2^32
abbrev pub IsToldBriefly : Refusal → Type 0
IsToldBriefly (refusal.Held what by) = IsName (thing_name what) × IsName by.manufacturer × IsName by.serial
IsToldBriefly (refusal.WrongUpdate sent) = sent < 2 ^ 32
IsToldBriefly _ = Unit {0}

-- the answer is a refusal, `Done`, an update or instant number, an acceptance, or `NoMessage`, and its details are of their types
abbrev pub IsBrief : Answer → Type 0
IsBrief (answer.Refused r) = IsToldBriefly r
IsBrief answer.Done = Unit {0}
IsBrief (answer.Update n) = n < 2 ^ 32
IsBrief (answer.Instructed n) = n < 2 ^ 32
IsBrief (answer.Accepted accepted) = Unit {0}
IsBrief answer.NoMessage = Unit {0}
IsBrief _ = ⊥

-- the bytes of the names as JSON strings with commas
abbrev pub names_size : List (List ℕ) → ℕ
names_size names = sum_by (λ name. length name + 3) names

-- the answer says what was done, or why not
abbrev pub is_outcome : Answer → Bool
is_outcome (answer.Refused r) = true
is_outcome answer.Done = true
is_outcome (answer.Update n) = true
is_outcome (answer.Instructed n) = true
is_outcome (answer.Accepted accepted) = true
is_outcome answer.NoMessage = true
is_outcome (answer.Counted moved unknown) = true
is_outcome _ = false

-- the most bytes that such an answer may have
abbrev pub outcome_bytes : Answer → ℕ
outcome_bytes (answer.Counted moved unknown) = 1024 + names_size unknown
outcome_bytes _ = 1024

-- the parts of an outcome are of their types: names, and numbers of their widths; nothing is said of the unknown names of a count
abbrev pub IsOfItsTypes : Answer → Type 0
IsOfItsTypes (answer.Refused r) = IsToldBriefly r
IsOfItsTypes (answer.Update n) = n < 2 ^ 32
IsOfItsTypes (answer.Instructed n) = n < 2 ^ 32
IsOfItsTypes (answer.Counted moved unknown) = moved < 2 ^ 64
IsOfItsTypes _ = Unit {0}

-- a name, if there is one
abbrev pub IsNameIfAny : Option (List ℕ) → Type 0
IsNameIfAny None = Unit {0}
IsNameIfAny (Some name) = IsName name

-- a number below 2^32, if there is one
abbrev pub IsShortIfAny : Option ℕ → Type 0
IsShortIfAny None = Unit {0}
IsShortIfAny (Some n) = n < 2 ^ 32

-- the description of a vehicle has names, and numbers below 2^32
pub record IsVehicleShort (key : VehicleKey) (row : VehicleRow) : Type 0 where
  pub manufacturer : IsName key.manufacturer
  pub serial : IsName key.serial
  pub node : IsName row.node
  pub capacity : row.capacity < 2 ^ 32
  pub header : IsShortIfAny row.last_header

-- the description of an open order, if there is one, has a name, and numbers below 2^32
abbrev pub IsOrderShort : Option OpenOrder → Type 0
IsOrderShort None = Unit {0}
IsOrderShort (Some order) = IsName order.order × (order.sent < 2 ^ 32) × IsShortIfAny order.confirmed

-- the load and the stations of a job have names
pub record IsJobNamed (row : JobRow) : Type 0 where
  pub load : IsName row.load
  pub origin : IsName row.origin
  pub target : IsName row.target

-- the vehicle of a job and its order, if there is one, have names
abbrev pub IsCarrierNamed : Option Carrier → Type 0
IsCarrierNamed None = Unit {0}
IsCarrierNamed (Some carrier) = IsName carrier.order × IsName carrier.vehicle.manufacturer × IsName carrier.vehicle.serial

-- the most bytes of the answer to a call that may change something
abbrev pub most_answer : ℕ
most_answer = 131072

-- whether the request makes a call that only reads; false for a refused request
abbrev pub only_asks : Result Call Refusal → Bool
only_asks (Err why) = false
only_asks (Ok made) = only_tells made
