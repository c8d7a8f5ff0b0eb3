use Rattle.std.proofs.Common.{IsTrue}
use Rattle.std.specs.FinMap as finite
use Rattle.agv_store_sql.specs.WritesInside.{WritesInside}
use Rattle.agv_store_migrate.specs.MoveStatements.{HaveFewActs, trip_inserted}
use Rattle.agv_store_migrate.specs.Moved.{with_journey}
use Rattle.agv_store_migrate.proofs.MovingEach.{Leads}
use Rattle.agv_store_migrate.proofs.MovingRun.{RunsFor}
use Rattle.agv_store_migrate.proofs.row_moving.add_trips.Given as goal

abbrev pub invariant-loop-order : goal.invariant-loop-order
invariant-loop-order g l =
    WritesInside g.S.Store l.initial.tx l.tx (λ before after. IsTrue before.in_transaction → Leads with_journey (finite.entries l.trips) before l.order-iterator after)
    × (HaveFewActs l.trips → RunsFor g.S.Store trip_inserted (finite.entries l.trips) l.initial.tx l.order-iterator l.tx)
