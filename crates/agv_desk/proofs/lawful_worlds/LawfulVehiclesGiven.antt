-- What the laws of the crates below say of trips and of vehicles that stand as before, as the proofs of a lawful world take them.
use Rattle.std.proofs.Common.{◌≡◌, ◌<◌, ◌≤◌, ◌*◌, ℕ, IsTrue, List, None, Option, Some, Ok, filter, length}
use Rattle.std.specs.FinMap as finite
use Rattle.agv_header.specs.declared.key.VehicleKey.{VehicleKey}
use Rattle.agv_layout.specs.Layout.{Layout, KeepsRules, Name}
use Rattle.agv_layout.specs.LayoutOf.{layout_of}
use Rattle.agv_layout.specs.Rows.{AreNamed}
use Rattle.agv_layout.specs.declared.row.LayoutRow.{LayoutRow}
use Rattle.agv_message_core.specs.declared.state.StateMessage.{StateMessage}
use Rattle.agv_order.specs.Drives.{drive_planned, IsDriveTo}
use Rattle.agv_order.specs.Plans.{planned}
use Rattle.agv_order.specs.Releases.{CanRelease, released}
use Rattle.agv_order.specs.StopPlaces.{stop_picks}
use Rattle.agv_order.specs.Stops.{are_paired, stops_fit}
use Rattle.agv_order.specs.Tours.{IsPlanOf}
use Rattle.agv_order.specs.WellFormed.{IsWellFormed}
use Rattle.agv_order.specs.declared.stop.Stop.{Stop}
use Rattle.agv_order.specs.declared.trip.Trip.{Trip}
use Rattle.agv_stock.specs.declared.job.Job.{Job}
use Rattle.agv_track.specs.Judgements.{judged}
use Rattle.agv_track.specs.Progressed.{progressed}
use Rattle.agv_track.specs.declared.pending.Pending.{Pending}
use Rattle.agv_track.specs.declared.progress.Progress.{Progress}
use Rattle.agv_world_core.specs.ConsistentTrips.{HasOneTripAnOrder, SharesNothing}
use Rattle.agv_world_core.specs.VehicleChanges.{StandsAsBefore, with_vehicle}
use Rattle.agv_world_core.specs.Worlds.{Vehicle, World}

abbrev pub PlansAreWellFormed : Type 0
PlansAreWellFormed = (layout : Layout) (vehicle : VehicleKey) (jobs : List Job) (stops : List Stop) (order at : Name) (base : ℕ) (trip : Trip)
    → IsTrue (stops_fit stops) → length stops ≤ 8
    → planned layout vehicle jobs stops order at base ≡ Ok trip → IsWellFormed layout trip

abbrev pub PlansGoByRoutes : Type 0
PlansGoByRoutes = (layout : Layout) (jobs : List Job) (vehicle : VehicleKey) (stops : List Stop) (order at : Name) (base : ℕ) (trip : Trip)
    → planned layout vehicle jobs stops order at base ≡ Ok trip → IsPlanOf layout jobs stops at base trip

abbrev pub StopsTwice : Type 0
StopsTwice = (stops : List Stop) → IsTrue (are_paired stops) → length stops ≡ 2 * length (filter stop_picks stops)

abbrev pub FittingArePaired : Type 0
FittingArePaired = (stops : List Stop) → IsTrue (stops_fit stops) → IsTrue (are_paired stops)

abbrev pub DrivesAreWellFormed : Type 0
DrivesAreWellFormed = (layout : Layout) (vehicle : VehicleKey) (order at to : Name) (base : ℕ) (trip : Trip)
    → drive_planned layout vehicle order at to base ≡ Ok trip → IsWellFormed layout trip

abbrev pub DrivesGoByTheRoute : Type 0
DrivesGoByTheRoute = (layout : Layout) (vehicle : VehicleKey) (order at to : Name) (base : ℕ) (trip : Trip)
    → drive_planned layout vehicle order at to base ≡ Ok trip → IsDriveTo layout vehicle order at to base trip × (0 < length trip.edges)

abbrev pub ReleasesKeepTrips : Type 0
ReleasesKeepTrips = (layout : Layout) (trip : Trip) (n : ℕ) → IsWellFormed layout trip → trip.confirmed ≡ Some trip.sent
    → CanRelease trip n → IsWellFormed layout (released trip n)

abbrev pub StaysWellFormed : Type 0
StaysWellFormed = (layout : Layout) (trip : Trip) (pending : Option Pending) (state : StateMessage) (progress : Progress)
    → IsWellFormed layout trip → judged trip pending state ≡ Ok progress → progress.«end» ≡ None
    → IsWellFormed layout (progressed trip progress)

abbrev pub KeepsLayoutRules : Type 0
KeepsLayoutRules = (rows : List LayoutRow) (layout : Layout) → AreNamed rows → layout_of rows ≡ Ok layout → KeepsRules layout

abbrev pub KeepsApartAsBefore : Type 0
KeepsApartAsBefore = (world : World) (key : VehicleKey) (old new : Vehicle) → finite.get world.vehicles key ≡ Some old → StandsAsBefore old new
    → SharesNothing world → SharesNothing (with_vehicle world key new)

abbrev pub KeepsOneTripAsBefore : Type 0
KeepsOneTripAsBefore = (world : World) (key : VehicleKey) (old new : Vehicle) → finite.get world.vehicles key ≡ Some old → StandsAsBefore old new
    → HasOneTripAnOrder world → HasOneTripAnOrder (with_vehicle world key new)

-- all of them
pub record GivenMore : Type 0 where
  pub plans : PlansAreWellFormed
  pub goes : PlansGoByRoutes
  pub twice : StopsTwice
  pub paired : FittingArePaired
  pub drives : DrivesAreWellFormed
  pub drives_go : DrivesGoByTheRoute
  pub releases : ReleasesKeepTrips
  pub stays : StaysWellFormed
  pub rules : KeepsLayoutRules
  pub apart : KeepsApartAsBefore
  pub one_trip : KeepsOneTripAsBefore
