-- The sizes of an open trip (this project's profile): each well-formed trip is within them.
use Rattle.std.specs.Prelude.{◌≤◌, length, Option, None, Some}
use Rattle.agv_order.specs.declared.trip.Trip.{Trip}
use Rattle.agv_world_core.specs.Questions.{trip_of}
use Rattle.agv_world_core.specs.Worlds.{World}
use Rattle.agv_desk.specs.declared.call.Call.{Call}
use Rattle.agv_desk.specs.declared.call.Call.TheVariants as call

-- the trip, if there is one, has at most 200 edges
abbrev pub IsShort : Option Trip → Type 0
IsShort None = Unit {0}
IsShort (Some trip) = length trip.edges ≤ 200

-- the trip, if there is one, has at most 200 edges and eight acts, and no more updates were sent than edges are released
abbrev pub IsOfSize : Option Trip → Type 0
IsOfSize None = Unit {0}
IsOfSize (Some trip) = (length trip.edges ≤ 200) × (length trip.acts ≤ 8) × (trip.sent ≤ trip.base)

-- the vehicle's open trip is within the sizes (`IsOfSize`), for a call that looks at how it goes on: an update, a place, a state, and the question for the last order message; the other calls need nothing
abbrev pub IsWithinTripLimits : World → Call → Type 0
IsWithinTripLimits world (call.SetLayout rows) = Unit {0}
IsWithinTripLimits world (call.RegisterVehicle key node capacity) = Unit {0}
IsWithinTripLimits world (call.RegisterLoad load station) = Unit {0}
IsWithinTripLimits world (call.CorrectLoad load reference station) = Unit {0}
IsWithinTripLimits world (call.LeaveLoad load reference) = Unit {0}
IsWithinTripLimits world (call.AddJob job load to) = Unit {0}
IsWithinTripLimits world (call.StopJob job) = Unit {0}
IsWithinTripLimits world (call.StartOrder order key stops edges) = Unit {0}
IsWithinTripLimits world (call.StartDrive order key to edges) = Unit {0}
IsWithinTripLimits world (call.Advance key order update edges) = IsOfSize (trip_of world key)
IsWithinTripLimits world (call.Cancel key) = Unit {0}
IsWithinTripLimits world (call.Pause key) = Unit {0}
IsWithinTripLimits world (call.Resume key) = Unit {0}
IsWithinTripLimits world (call.PlaceVehicle key reference node) = IsOfSize (trip_of world key)
IsWithinTripLimits world (call.Resync key) = Unit {0}
IsWithinTripLimits world (call.State key state) = IsOfSize (trip_of world key)
IsWithinTripLimits world (call.GetOrder key) = IsOfSize (trip_of world key)
IsWithinTripLimits world (call.GetInstant key) = Unit {0}
IsWithinTripLimits world (call.Stocktake reference rows) = Unit {0}
IsWithinTripLimits world (call.GetLoad load) = Unit {0}
IsWithinTripLimits world (call.GetJob job) = Unit {0}
IsWithinTripLimits world (call.GetVehicle key) = Unit {0}
IsWithinTripLimits world (call.Report report) = Unit {0}
