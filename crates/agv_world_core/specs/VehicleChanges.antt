-- The changes for writing a vehicle, and what is the same if only its own row changes.
use Rattle.std.specs.Prelude.{◌≡◌, ℕ, List, [], ◌∷◌, ◌++◌, map, if◌then◌else◌, Option, None, Some}
use Rattle.std.specs.FinMap as finite
use Rattle.std.specs.List.{enumerate_from}
use Rattle.agv_header.specs.declared.key.Thing.{Thing}
use Rattle.agv_header.specs.declared.key.VehicleKey.{VehicleKey}
use Rattle.agv_layout.specs.declared.edge.Edge.{Edge}
use Rattle.agv_order.specs.declared.trip.Trip.{Trip}
use Rattle.agv_track_holds.specs.Footprints.{footprint_of}
use Rattle.agv_track_holds.specs.Holders.{gained}
use Rattle.agv_world_core.specs.Maps.{standing_of, trip_row}
use Rattle.agv_world_core.specs.SameRows.{same_row, same_trip_row}
use Rattle.agv_world_core.specs.Worlds.{Vehicle, World}
use Rattle.agv_world_core.specs.declared.change.Change.{Change}
use Rattle.agv_world_core.specs.declared.change.Change.TheVariants as row
use Rattle.agv_world_core.specs.declared.row.VehicleRow.{VehicleRow}

-- ---- the world with one vehicle written

-- the world with this vehicle written
abbrev pub with_vehicle : World → VehicleKey → Vehicle → World
with_vehicle world key vehicle = record world { vehicles = finite.insert world.vehicles key vehicle }

-- ---- its own row

-- the vehicle's own row is written if it changes, or if there was none
abbrev pub own_changes : VehicleKey → Option VehicleRow → VehicleRow → List Change
own_changes key None new = row.Vehicle key new ∷ []
own_changes key (Some old) new = if same_row old new then [] else row.Vehicle key new ∷ []

-- ---- its trip

-- a change for each edge of a trip: its row is written
abbrev pub leg_writes : List ℕ → List Edge → List Change
leg_writes order edges = map (λ (numbered : ℕ × Edge). row.Leg (record { order = order; k = numbered.0 }) (Some numbered.1.id)) (enumerate_from 0 edges)

-- a change for each edge of a trip: its row is removed
abbrev pub leg_removals : List ℕ → List Edge → List Change
leg_removals order edges = map (λ (numbered : ℕ × Edge). row.Leg (record { order = order; k = numbered.0 }) None) (enumerate_from 0 edges)

-- the changes if a trip begins, ends or goes on; one that goes on keeps its order and its edges, and its row is written if it changes
abbrev pub trip_changes : VehicleKey → Option Trip → Option Trip → List Change
trip_changes key None None = []
trip_changes key None (Some new) = row.Trip new.order (Some (trip_row key new)) ∷ leg_writes new.order new.edges
trip_changes key (Some old) None = row.Trip old.order None ∷ leg_removals old.order old.edges
trip_changes key (Some old) (Some new) = if same_trip_row old new then [] else row.Trip new.order (Some (trip_row key new)) ∷ []

-- ---- what it holds

-- the changes of holds: the vehicle holds what it gains, and nobody holds what it loses
abbrev pub hold_changes : VehicleKey → List Thing → List Thing → List Change
hold_changes key old new =
    map (λ (thing : Thing). row.Hold thing (Some key)) (gained old new) ++ map (λ (thing : Thing). row.Hold thing None) (gained new old)

-- the row of the old vehicle, if there was one
abbrev pub row_before : Option Vehicle → Option VehicleRow
row_before None = None
row_before (Some old) = Some old.row

-- the open trip of the old vehicle, if it had one
abbrev pub trip_before : Option Vehicle → Option Trip
trip_before None = None
trip_before (Some old) = old.trip

-- the footprint of the old vehicle, or nothing if there was none
abbrev pub held_before : Option Vehicle → List Thing
held_before None = []
held_before (Some old) = footprint_of (standing_of old)

-- ---- all of it

-- the changes for writing this vehicle in place of the old one
abbrev pub vehicle_changes : VehicleKey → Option Vehicle → Vehicle → List Change
vehicle_changes key old new =
    own_changes key (row_before old) new.row
    ++ (trip_changes key (trip_before old) new.trip ++ hold_changes key (held_before old) (footprint_of (standing_of new)))

-- if the trip goes on, it has the same order and the same edges as before
abbrev pub KeepsOrderAndEdges : Option Trip → Option Trip → Type 0
KeepsOrderAndEdges None new = Unit {0}
KeepsOrderAndEdges (Some old) None = Unit {0}
KeepsOrderAndEdges (Some old) (Some new) = (new.order ≡ old.order) × (new.edges ≡ old.edges)

-- the vehicle stands where it stood, with the same trip
pub record StandsAsBefore (old : Vehicle) (new : Vehicle) : Type 0 where
  pub node : new.row.node ≡ old.row.node
  pub rest : new.row.rest ≡ old.row.rest
  pub trip : new.trip ≡ old.trip
