-- The stock invariant holds after every call, and every act that becomes finished finds its load.
use Rattle.std.proofs.Common.{◌≡◌, ℕ, subst}
use Rattle.agv_world_core.specs.StockInvariant.{HasStockInvariant}
use Rattle.agv_world_core.specs.LawfulParts.{HasLawfulVehicles}
use Rattle.agv_world_core.specs.Worlds.{World}
use Rattle.agv_desk.specs.ActedMoves.{FindsLoads}
use Rattle.agv_desk.specs.Outcomes.{Effect, Made, after}
use Rattle.agv_desk.specs.Step.{step}
use Rattle.agv_desk.specs.WellTyped.{IsWellTyped}
use Rattle.agv_desk.specs.declared.call.Call.{Call}
use Rattle.agv_desk.proofs.stock.StockInvariantDrives.{DrivesGoByTheRoute, drive_start_keeps}
use Rattle.agv_desk.proofs.stock.StockInvariantOrders.{FittingArePaired, PlansGoByRoutes, start_keeps}
use Rattle.agv_desk.proofs.stock.StockInvariantSteps.{KeepsOnTrips, stock_after, step_keeps}
use Rattle.agv_desk.proofs.stock.StockInvariantTrips.{PairsAsSaid, place_keeps, state_keeps}
use Rattle.agv_desk.proofs.trip_acts.FoundMoves.{finds_all}
use Rattle.agv_desk.proofs.row_changes.Given.{AdvancesTrips, GivesItself}
use Rattle.agv_desk.proofs.outcomes.Ladders.{IfMade}

pub stock_joined : GivesItself → PairsAsSaid → FittingArePaired → PlansGoByRoutes → DrivesGoByTheRoute → AdvancesTrips → (seats : ℕ) (world : World) (at : ℕ) (made : Call) → IsWellTyped made
    → HasLawfulVehicles seats world → HasStockInvariant world → HasStockInvariant (after world (step seats world at made))
stock_joined gives fits paired plans drives advances seats world at made typed lawful stock =
    stock_after world (step seats world at made) stock (step_keeps gives seats world lawful stock on_trips at made typed)
  where
    on_trips : KeepsOnTrips world
    on_trips = record {
      start = start_keeps fits paired plans world stock;
      drive = drive_start_keeps drives world stock;
      place = place_keeps fits advances seats world lawful stock;
      state = state_keeps fits advances seats world lawful stock;
    }

pub acts_find : PairsAsSaid → AdvancesTrips → (seats : ℕ) (world : World) (at : ℕ) (made : Call) (effect : Effect)
    → HasLawfulVehicles seats world → HasStockInvariant world → step seats world at made ≡ Made effect → FindsLoads world effect
acts_find fits advances seats world at made effect lawful stock is =
    subst (IfMade (FindsLoads world)) is (finds_all world fits advances seats lawful stock at made)
