-- From a lawful world each call leads to a lawful world, and each act that becomes finished finds its load.
use Rattle.std.proofs.Common.{◌≡◌, ◌↔◌, ℕ}
use Rattle.agv_world_core.specs.StockInvariant.{HasStockInvariant}
use Rattle.agv_world_core.specs.Lawful.{IsLawful}
use Rattle.agv_world_core.specs.LawfulParts.{HasLawfulVehicles, HasLawfulLoads}
use Rattle.agv_world_core.specs.Worlds.{World}
use Rattle.agv_world_core.proofs.LawfulInParts.{lawful_by, loads_of, vehicles_of}
use Rattle.agv_desk.specs.ActedMoves.{FindsLoads}
use Rattle.agv_desk.specs.Outcomes.{Effect, Made, after}
use Rattle.agv_desk.specs.Step.{step}
use Rattle.agv_desk.specs.WellTyped.{IsMoment, IsSeats, IsWellTyped}
use Rattle.agv_desk.specs.declared.call.Call.{Call}

-- the vehicles are lawful after each call
abbrev pub KeepsVehiclesLawful : Type 0
KeepsVehiclesLawful = (seats : ℕ) (world : World) (at : ℕ) (call : Call) → IsSeats seats → IsMoment at → IsWellTyped call
    → HasLawfulVehicles seats world → HasLawfulVehicles seats (after world (step seats world at call))

-- the stock invariant holds after each call
abbrev pub KeepsStockInvariant : Type 0
KeepsStockInvariant = (seats : ℕ) (world : World) (at : ℕ) (call : Call) → IsWellTyped call
    → HasLawfulVehicles seats world → HasStockInvariant world → HasStockInvariant (after world (step seats world at call))

-- the loads are lawful exactly where the stock invariant holds
abbrev pub LoadsMeetInvariant : Type 0
LoadsMeetInvariant = (seats : ℕ) (world : World) → HasLawfulVehicles seats world → HasLawfulLoads world ↔ HasStockInvariant world

-- each act that becomes finished finds its load
abbrev pub ActsFindTheirLoads : Type 0
ActsFindTheirLoads = (seats : ℕ) (world : World) (at : ℕ) (call : Call) (effect : Effect)
    → HasLawfulVehicles seats world → HasStockInvariant world → step seats world at call ≡ Made effect → FindsLoads world effect

pub step_lawful : KeepsVehiclesLawful → KeepsStockInvariant → LoadsMeetInvariant → (seats : ℕ) → IsSeats seats
    → (world : World) (at : ℕ) (call : Call) → IsLawful seats world → IsMoment at → IsWellTyped call → IsLawful seats (after world (step seats world at call))
step_lawful vehicles stock loads seats is_seats world at call lawful moment typed =
    let now = vehicles_of lawful in
    let kept = vehicles seats world at call is_seats moment typed now in
    let joined = stock seats world at call typed now ((loads seats world now).0 (loads_of lawful)) in
    lawful_by kept ((loads seats (after world (step seats world at call)) kept).1 joined)

pub lawful_finds : ActsFindTheirLoads → LoadsMeetInvariant → (seats : ℕ) (world : World) (at : ℕ) (call : Call) (effect : Effect)
    → IsLawful seats world → step seats world at call ≡ Made effect → FindsLoads world effect
lawful_finds finds loads seats world at call effect lawful made =
    let now = vehicles_of lawful in
    finds seats world at call effect now ((loads seats world now).0 (loads_of lawful)) made
