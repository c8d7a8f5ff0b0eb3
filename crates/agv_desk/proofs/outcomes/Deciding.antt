-- In a world in order each call finds trips of the size that it asks for.
use Rattle.std.proofs.Common.{◌≡◌, Option, None, Some, refl}
use Rattle.agv_header.specs.declared.key.VehicleKey.{VehicleKey}
use Rattle.agv_order.specs.declared.trip.Trip.{Trip}
use Rattle.agv_world_core.specs.Questions.{trip_of}
use Rattle.agv_world_core.specs.Worlds.{World}
use Rattle.agv_desk.specs.declared.call.Call.{Call}
use Rattle.agv_desk.specs.declared.call.Call.TheVariants as call
use Rattle.agv_desk.specs.InOrder.{IsInOrder, IsOpen}
use Rattle.agv_desk.specs.Sizes.{IsOfSize, IsWithinTripLimits}
use Rattle.agv_desk.proofs.outcomes.Known.{has_trip}

size_of : (world : World) → IsInOrder world → (key : VehicleKey) (trip : Option Trip) → trip_of world key ≡ trip → IsOfSize trip
size_of world in_order key None is = tt
size_of world in_order key (Some trip) is =
    let opened : IsOpen trip = in_order.open_trips key trip (has_trip world key trip is) in
    (opened.short, opened.few, opened.under_way.sent_released)

pub of_size : (world : World) → IsInOrder world → (made : Call) → IsWithinTripLimits world made
of_size world in_order (call.SetLayout rows) = tt
of_size world in_order (call.RegisterVehicle key node capacity) = tt
of_size world in_order (call.RegisterLoad load station) = tt
of_size world in_order (call.CorrectLoad load reference station) = tt
of_size world in_order (call.LeaveLoad load reference) = tt
of_size world in_order (call.AddJob job load to) = tt
of_size world in_order (call.StopJob job) = tt
of_size world in_order (call.StartOrder order key stops edges) = tt
of_size world in_order (call.StartDrive order key to edges) = tt
of_size world in_order (call.Advance key order update edges) = size_of world in_order key (trip_of world key) refl
of_size world in_order (call.Cancel key) = tt
of_size world in_order (call.Pause key) = tt
of_size world in_order (call.Resume key) = tt
of_size world in_order (call.PlaceVehicle key reference node) = size_of world in_order key (trip_of world key) refl
of_size world in_order (call.Resync key) = tt
of_size world in_order (call.State key state) = size_of world in_order key (trip_of world key) refl
of_size world in_order (call.GetOrder key) = size_of world in_order key (trip_of world key) refl
of_size world in_order (call.GetInstant key) = tt
of_size world in_order (call.Stocktake reference rows) = tt
of_size world in_order (call.GetLoad load) = tt
of_size world in_order (call.GetJob job) = tt
of_size world in_order (call.GetVehicle key) = tt
of_size world in_order (call.Report report) = tt
