use Rattle.std.proofs.Common.{IsTrue}
use Rattle.std.specs.FinMap as finite
use Rattle.agv_store_sql.specs.WritesInside.{WritesInside}
use Rattle.agv_store_migrate.specs.MoveStatements.{capacity_inserted}
use Rattle.agv_store_migrate.specs.Moved.{with_vehicle_capacity}
use Rattle.agv_store_migrate.proofs.MovingEach.{Leads}
use Rattle.agv_store_migrate.proofs.MovingRun.{RunsFor}
use Rattle.agv_store_migrate.proofs.row_moving.add_capacities.Given as goal

abbrev pub invariant-loop-key : goal.invariant-loop-key
invariant-loop-key g l =
    WritesInside g.S.Store l.initial.tx l.tx (λ before after. IsTrue before.in_transaction → Leads with_vehicle_capacity (finite.entries l.vehicles) before l.key-iterator after)
    × RunsFor g.S.Store capacity_inserted (finite.entries l.vehicles) l.initial.tx l.key-iterator l.tx
