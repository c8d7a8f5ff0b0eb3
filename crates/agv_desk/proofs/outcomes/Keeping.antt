-- What each effect of a call keeps, from a lawful world, in three parts that are proved apart: the vehicles with their trips, the stock invariant, and how the trips follow those before.
use Rattle.std.specs.Prelude.{◌≡◌, ◌≤◌, ◌⊎◌, ℕ, List, Some, true, false}
use Rattle.std.specs.FinSet as set
use Rattle.std.specs.List.{slice_get}
use Rattle.agv_header.specs.declared.key.VehicleKey.{VehicleKey}
use Rattle.agv_order.specs.declared.act.Act.{Act}
use Rattle.agv_order.specs.declared.trip.Trip.{Trip}
use Rattle.agv_track.specs.Progressed.{ActGoesOn}
use Rattle.agv_world_core.specs.StockInvariant.{HasStockInvariant}
use Rattle.agv_world_core.specs.ConsistentTrips.{HasTrip}
use Rattle.agv_world_core.specs.LawfulParts.{HasLawfulVehicles}
use Rattle.agv_world_core.specs.Worlds.{World}
use Rattle.agv_desk.specs.Outcomes.{Effect, with_effect}

-- the layout, the vehicles and their trips are lawful afterwards
pub record KeepsVehicles (seats : ℕ) (world : World) (effect : Effect) : Type 0 where
  pub vehicles : HasLawfulVehicles seats (with_effect world effect)

-- the loads, the jobs and the trips are joined afterwards
pub record KeepsStock (world : World) (effect : Effect) : Type 0 where
  pub stock : HasStockInvariant (with_effect world effect)

-- a trip that went on: of the same order, at least as far, each act with the same task and a status that may follow
pub record Continues (before after : Trip) : Type 0 where
  pub order : after.order ≡ before.order
  pub further : before.seen ≤ after.seen
  pub acts : (k : ℕ) (act : Act) → slice_get after.acts k ≡ Some act → (old : Act) × (slice_get before.acts k ≡ Some old) × ActGoesOn old act

-- one world comes after another: used orders stay used, and each open trip is one that went on, of the same vehicle, or its order was not used before
pub record Follows (before after : World) : Type 0 where
  pub orders : (order : List ℕ) → set.contains before.orders order ≡ true → set.contains after.orders order ≡ true
  pub trips : (key : VehicleKey) (trip : Trip) → HasTrip after key trip
      → ((old : Trip) × HasTrip before key old × Continues old trip) ⊎ (set.contains before.orders trip.order ≡ false)

pub record FollowsBy (world : World) (effect : Effect) : Type 0 where
  pub follows : Follows world (with_effect world effect)
