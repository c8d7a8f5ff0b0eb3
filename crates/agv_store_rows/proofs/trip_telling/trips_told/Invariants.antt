use Rattle.std.proofs.Common.{◌≡◌}
use Rattle.std.specs.FinMap as finite
use Rattle.agv_store_rows.proofs.TripsFrom.{trips_from}
use Rattle.agv_store_rows.proofs.trip_telling.trips_told.Given as goal

-- the trips told so far, with those of the journeys and the rows that are left, are all
abbrev pub invariant-loop-order : goal.invariant-loop-order
invariant-loop-order l = trips_from l.jobs l.trips l.order-iterator l.rest ≡ trips_from l.jobs finite.empty (finite.entries l.journeys) (finite.entries l.acts)
