use Rattle.agv_store_rows.proofs.TripTables.{acts_sorted, entries-acts, entries-journeys, entries-own_acts, journeys_sorted}
use Rattle.agv_store_rows.proofs.trip_row_laws.rows_have_keys.Goals as goal

pub returns : goal.returns
returns c = record { journeys = journeys_sorted; acts = acts_sorted; journeys_listed = entries-journeys; acts_listed = entries-acts; own_acts_listed = entries-own_acts }
