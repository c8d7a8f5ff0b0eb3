-- In a lawful world each call is served: its vehicle's trip is of the size that its decision asks for.
use Rattle.std.proofs.Common.{◌≡◌, ℕ, Option, None, Some, refl}
use Rattle.agv_header.specs.declared.key.VehicleKey.{VehicleKey}
use Rattle.agv_order.specs.declared.trip.Trip.{Trip}
use Rattle.agv_world_core.specs.LawfulParts.{HasLawfulVehicles}
use Rattle.agv_world_core.specs.Questions.{trip_of}
use Rattle.agv_world_core.specs.Worlds.{World}
use Rattle.agv_desk.specs.Sizes.{IsOfSize, IsWithinTripLimits}
use Rattle.agv_desk.specs.declared.call.Call.{Call}
use Rattle.agv_desk.specs.declared.call.Call.TheVariants as call
use Rattle.agv_desk.proofs.outcomes.Known.{has_trip}
use Rattle.agv_desk.proofs.lawful_worlds.LawfulVehiclesWritten.{is_in_order}

module _ (seats : ℕ) (world : World) (lawful : HasLawfulVehicles seats world) where
  size_of : (key : VehicleKey) (there : Option Trip) → trip_of world key ≡ there → IsOfSize there
  size_of key None is = tt
  size_of key (Some trip) is =
      let goes = (is_in_order seats world lawful).open_trips key trip (has_trip world key trip is) in
      (goes.short, goes.few, goes.under_way.sent_released)

  of_size : (key : VehicleKey) → IsOfSize (trip_of world key)
  of_size key = size_of key (trip_of world key) refl

  pub is_served : (made : Call) → IsWithinTripLimits world made
  is_served (call.SetLayout rows) = tt
  is_served (call.RegisterVehicle key node capacity) = tt
  is_served (call.RegisterLoad load station) = tt
  is_served (call.CorrectLoad load reference station) = tt
  is_served (call.LeaveLoad load reference) = tt
  is_served (call.AddJob job load to) = tt
  is_served (call.StopJob job) = tt
  is_served (call.StartOrder order key stops edges) = tt
  is_served (call.StartDrive order key to edges) = tt
  is_served (call.Advance key order update edges) = of_size key
  is_served (call.Cancel key) = tt
  is_served (call.Pause key) = tt
  is_served (call.Resume key) = tt
  is_served (call.PlaceVehicle key reference node) = of_size key
  is_served (call.Resync key) = tt
  is_served (call.State key state) = of_size key
  is_served (call.GetOrder key) = of_size key
  is_served (call.GetInstant key) = tt
  is_served (call.Stocktake reference rows) = tt
  is_served (call.GetLoad load) = tt
  is_served (call.GetJob job) = tt
  is_served (call.GetVehicle key) = tt
  is_served (call.Report report) = tt
