-- What is true of every call because of the types of its parts: the new names in it are valid names, and the `headerId` of a state is in its range.
use Rattle.std.specs.Prelude.{ℕ, ◌≤◌, List, [], ◌∷◌}
use Rattle.agv_header.specs.Name.{IsName}
use Rattle.agv_layout.specs.Rows.{AreNamed}
use Rattle.agv_world_core.specs.Lawful.{IsKey}
use Rattle.agv_desk.specs.declared.call.Call.{Call}
use Rattle.agv_desk.specs.declared.call.Call.TheVariants as call

-- the new names of the call are valid, and the `headerId` of a state has 32 bits
abbrev pub IsWellTyped : Call → Type 0
IsWellTyped (call.SetLayout rows) = AreNamed rows
IsWellTyped (call.RegisterVehicle key node capacity) = IsKey key
IsWellTyped (call.RegisterLoad load station) = IsName load
IsWellTyped (call.CorrectLoad load reference station) = IsName reference
IsWellTyped (call.LeaveLoad load reference) = IsName reference
IsWellTyped (call.AddJob job load to) = IsName job
IsWellTyped (call.StopJob job) = Unit {0}
IsWellTyped (call.StartOrder order key stops edges) = IsName order
IsWellTyped (call.StartDrive order key to edges) = IsName order
IsWellTyped (call.Advance key order update edges) = Unit {0}
IsWellTyped (call.Cancel key) = Unit {0}
IsWellTyped (call.Pause key) = Unit {0}
IsWellTyped (call.Resume key) = Unit {0}
IsWellTyped (call.PlaceVehicle key reference node) = IsName reference
IsWellTyped (call.Resync key) = Unit {0}
IsWellTyped (call.State key state) = state.header_id ≤ 4294967295
IsWellTyped (call.GetOrder key) = Unit {0}
IsWellTyped (call.GetInstant key) = Unit {0}
IsWellTyped (call.Stocktake reference rows) = IsName reference
IsWellTyped (call.GetLoad load) = Unit {0}
IsWellTyped (call.GetJob job) = Unit {0}
IsWellTyped (call.GetVehicle key) = Unit {0}
IsWellTyped (call.Report report) = Unit {0}

-- the moment is before 2100
abbrev pub IsMoment : ℕ → Type 0
IsMoment at = at ≤ 4102444799999

-- each call of the list is well typed, and made at a moment before 2100
abbrev pub AreWellTyped : List (ℕ × Call) → Type 0
AreWellTyped [] = Unit {0}
AreWellTyped (made ∷ calls) = IsMoment made.0 × IsWellTyped made.1 × AreWellTyped calls

-- the largest capacity of a vehicle is from 1 to 4
abbrev pub IsSeats : ℕ → Type 0
IsSeats seats = (1 ≤ seats) × (seats ≤ 4)
