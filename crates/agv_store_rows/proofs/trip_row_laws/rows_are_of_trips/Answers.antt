use Rattle.agv_store_rows.proofs.TripTables.{acts-found, journeys-found}
use Rattle.agv_store_rows.proofs.trip_row_laws.rows_are_of_trips.Goals as goal

pub returns : goal.returns
returns c = record { journeys = journeys-found; acts = acts-found }
