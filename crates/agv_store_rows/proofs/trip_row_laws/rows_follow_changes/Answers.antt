use Rattle.agv_store_rows.proofs.TripTables.{acts-removed, acts-written, journeys-removed, journeys-written}
use Rattle.agv_store_rows.proofs.trip_row_laws.rows_follow_changes.Goals as goal

pub returns : goal.returns
returns c = record { journeys_removed = journeys-removed; acts_removed = acts-removed; journeys_written = journeys-written; acts_written = acts-written }
