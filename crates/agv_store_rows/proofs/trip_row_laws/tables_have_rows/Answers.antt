use Rattle.agv_store_rows.proofs.RowsAtKeys.{get-acts, get-journeys}
use Rattle.agv_store_rows.proofs.trip_row_laws.tables_have_rows.Goals as goal

pub returns : goal.returns
returns c = record { journeys = get-journeys; acts = get-acts }
