-- What the laws of the crates below say, as the proofs here take them.
use Rattle.std.proofs.Common.{◌≡◌, ◌≢◌, ◌≤◌, ◌↔◌, [], ◌∷◌, Option, None, Some, Ok, Contains, length}
use Rattle.std.specs.FinMap as finite
use Rattle.agv_header.specs.declared.key.Thing.{Thing}
use Rattle.agv_header.specs.declared.key.VehicleKey.{VehicleKey}
use Rattle.agv_layout.specs.Layout.{Layout, KeepsRules}
use Rattle.agv_layout.specs.LayoutOf.{layout_of, rows_in}
use Rattle.agv_message_core.specs.declared.state.StateMessage.{StateMessage}
use Rattle.agv_order.specs.WellFormed.{IsUnderWay}
use Rattle.agv_order.specs.declared.trip.Trip.{Trip}
use Rattle.agv_track_holds.specs.Footprints.{Occupies, IsOnBase, footprint_of}
use Rattle.agv_track_holds.specs.Holds.{first_held}
use Rattle.agv_track.specs.Judgements.{judged}
use Rattle.agv_track.specs.Progressed.{Advances}
use Rattle.agv_track.specs.declared.pending.Pending.{Pending}
use Rattle.agv_track.specs.declared.progress.Progress.{Progress}
use Rattle.agv_track_holds.specs.declared.standing.Standing.{Standing}
use Rattle.agv_world_core.specs.Changes.{changed}
use Rattle.agv_world_core.specs.ConsistentTrips.{HasTrip, HasOneTripAnOrder, SharesNothing}
use Rattle.agv_world_core.specs.Maps.{maps_of, standing_of}
use Rattle.agv_world_core.specs.VehicleChanges.{KeepsOrderAndEdges, StandsAsBefore, own_changes, trip_before, vehicle_changes, with_vehicle}
use Rattle.agv_world_core.specs.TableChanges.{with_use}
use Rattle.agv_world_core.specs.Worlds.{Vehicle, World, empty_layout}
use Rattle.agv_world_core.specs.declared.change.Change.TheVariants as row
use Rattle.agv_world_core.specs.declared.key.UseKey.{UseKey}
use Rattle.agv_desk.specs.Outcomes.{laid_changes, with_layout}

abbrev pub KeepsApartByClaim : Type 0
KeepsApartByClaim = (world : World) (key : VehicleKey) (vehicle : Vehicle) → SharesNothing world
    → first_held (maps_of world).holds key (footprint_of (standing_of vehicle)) ≡ None
    → SharesNothing (with_vehicle world key vehicle)

abbrev pub KeepsApartByLess : Type 0
KeepsApartByLess = (world : World) (key : VehicleKey) (old new : Vehicle) → finite.get world.vehicles key ≡ Some old
    → ((thing : Thing) → Contains (footprint_of (standing_of new)) thing → Contains (footprint_of (standing_of old)) thing)
    → SharesNothing world → SharesNothing (with_vehicle world key new)

abbrev pub KeepsOneTripWithout : Type 0
KeepsOneTripWithout = (world : World) (key : VehicleKey) (vehicle : Vehicle) → HasOneTripAnOrder world → vehicle.trip ≡ None
    → HasOneTripAnOrder (with_vehicle world key vehicle)

abbrev pub KeepsOneTripFurther : Type 0
KeepsOneTripFurther = (world : World) (key : VehicleKey) (vehicle : Vehicle) → HasOneTripAnOrder world
    → (before trip : Trip) → HasTrip world key before → vehicle.trip ≡ Some trip → trip.order ≡ before.order
    → HasOneTripAnOrder (with_vehicle world key vehicle)

abbrev pub KeepsOneTripNew : Type 0
KeepsOneTripNew = (world : World) (key : VehicleKey) (vehicle : Vehicle) → HasOneTripAnOrder world
    → (trip : Trip) → vehicle.trip ≡ Some trip
    → ((other : VehicleKey) (more : Trip) → HasTrip world other more → trip.order ≢ more.order)
    → HasOneTripAnOrder (with_vehicle world key vehicle)

abbrev pub FollowsAVehicle : Type 0
FollowsAVehicle = (world : World) (key : VehicleKey) (vehicle : Vehicle)
    → HasOneTripAnOrder world → SharesNothing world
    → HasOneTripAnOrder (with_vehicle world key vehicle) → SharesNothing (with_vehicle world key vehicle)
    → KeepsOrderAndEdges (trip_before (finite.get world.vehicles key)) vehicle.trip
    → changed (vehicle_changes key (finite.get world.vehicles key) vehicle) (maps_of world) ≡ maps_of (with_vehicle world key vehicle)

abbrev pub NotesAVehicle : Type 0
NotesAVehicle = (world : World) (key : VehicleKey) (old new : Vehicle) → finite.get world.vehicles key ≡ Some old → StandsAsBefore old new
    → HasOneTripAnOrder world → SharesNothing world
    → changed (own_changes key (Some old.row) new.row) (maps_of world) ≡ maps_of (with_vehicle world key new)

abbrev pub UsesAName : Type 0
UsesAName = (world : World) (key : UseKey) → changed (row.Used key ∷ []) (maps_of world) ≡ maps_of (with_use world key.kind key.name)

abbrev pub SetsTheLayout : Type 0
SetsTheLayout = (world : World) (layout : Layout) → world.layout ≡ empty_layout
    → changed (laid_changes (Some layout)) (maps_of world) ≡ maps_of (with_layout world (Some layout))

abbrev pub GivesItself : Type 0
GivesItself = (layout : Layout) → KeepsRules layout → layout_of (rows_in layout) ≡ Ok layout

abbrev pub ListsWhatIsHeld : Type 0
ListsWhatIsHeld = (standing : Standing) → IsOnBase standing.trip → (held : Thing) → Contains (footprint_of standing) held ↔ Occupies standing held

abbrev pub AdvancesTrips : Type 0
AdvancesTrips = (trip : Trip) (pending : Option Pending) (state : StateMessage) (progress : Progress)
    → IsUnderWay trip → length trip.acts ≤ 8 → judged trip pending state ≡ Ok progress → Advances trip progress

-- all of them
pub record Given : Type 0 where
  pub by_claim : KeepsApartByClaim
  pub by_less : KeepsApartByLess
  pub without : KeepsOneTripWithout
  pub further : KeepsOneTripFurther
  pub new_trip : KeepsOneTripNew
  pub follows : FollowsAVehicle
  pub notes : NotesAVehicle
  pub uses : UsesAName
  pub sets : SetsTheLayout
  pub gives : GivesItself
  pub lists : ListsWhatIsHeld
  pub advances : AdvancesTrips
