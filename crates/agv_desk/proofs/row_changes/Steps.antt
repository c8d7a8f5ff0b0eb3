-- From a world in order the rows that a call changes lead to the maps of the world after it: what each call touches.
use Rattle.std.proofs.Common.{◌≡◌, Bool, true, false, not, Option, None, Some, is_none, refl, subst}
use Rattle.std.specs.FinMap as finite
use Rattle.agv_header.specs.declared.key.VehicleKey.{VehicleKey}
use Rattle.agv_world_core.specs.Changes.{changed}
use Rattle.agv_world_core.specs.ConsistentTrips.{HasOneTripAnOrder, SharesNothing}
use Rattle.agv_world_core.specs.Questions.{row_of, trip_of}
use Rattle.agv_world_core.specs.Maps.{maps_of}
use Rattle.agv_world_core.specs.VehicleChanges.{KeepsOrderAndEdges, trip_before, vehicle_changes, with_vehicle}
use Rattle.agv_world_core.specs.Worlds.{Vehicle, World}
use Rattle.agv_world_core.specs.declared.row.VehicleRow.{VehicleRow}
use Rattle.agv_desk.specs.InOrder.{IsInOrder}
use Rattle.agv_desk.specs.Outcomes.{Effect, Outcome, Refused, Made, RowOnly, Whole, after, decided, with_layout}
use Rattle.agv_desk.proofs.row_changes.Effects.{LaysRows, TouchesRows, LeadsTo, leads_to}
use Rattle.agv_desk.proofs.row_changes.Given.{Given}
use Rattle.agv_desk.proofs.outcomes.Known.{vehicle_with, known}
use Rattle.agv_desk.proofs.outcomes.Ladders.{IfMade}

-- what is decided, where each effect leads to the rows
pub decides : (world : World) (outcome : Outcome) → IfMade (LeadsTo world) outcome → changed (decided outcome).changes (maps_of world) ≡ maps_of (after world outcome)
unfolding decided after changed
decides world (Refused why) leads = refl
decides world (Made effect) leads = leads.rows

-- a test that something is missing passes only where it is
pub missing : {A : Type 0} (there : Option A) → is_none there ≡ true → there ≡ None
missing None e = refl
missing (Some x) e = cc

-- a test that passes, and its contrary
pub not_true : (test : Bool) → not test ≡ true → test ≡ false
not_true true e = cc
not_true false e = refl

module _ (given : Given) (world : World) (in_order : IsInOrder world) where
  -- an effect that leads from the layout and the vehicle to the rest
  pub leads : (effect : Effect) → LaysRows world effect.layout → TouchesRows (with_layout world effect.layout) effect.touched → LeadsTo world effect
  leads effect lays touches = leads_to (λ w key. given.uses w key) world effect lays touches

  -- the row of a vehicle changes that stands as before
  pub notes : (key : VehicleKey) (row new : VehicleRow) → row_of world key ≡ Some row → new.node ≡ row.node → new.rest ≡ row.rest → TouchesRows world (RowOnly key row new)
  notes key row new is node rest =
      given.notes world key (vehicle_with row (trip_of world key)) (vehicle_with new (trip_of world key)) (known world key row is) (record { node = node; rest = rest; trip = refl }) in_order.one_trip in_order.apart

  -- a vehicle is written in place of the old one
  pub puts : (key : VehicleKey) (old : Option Vehicle) (new : Vehicle) → finite.get world.vehicles key ≡ old
      → HasOneTripAnOrder (with_vehicle world key new) → SharesNothing (with_vehicle world key new) → KeepsOrderAndEdges (trip_before old) new.trip
      → TouchesRows world (Whole key old new)
  puts key old new is one apart goes =
      subst (λ there. KeepsOrderAndEdges (trip_before there) new.trip → changed (vehicle_changes key there new) (maps_of world) ≡ maps_of (with_vehicle world key new)) is
      (given.follows world key new in_order.one_trip in_order.apart one apart) goes
