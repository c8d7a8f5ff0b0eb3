use Rattle.agv_store_rows.proofs.RowsTellActs.{rows_tell_acts}
use Rattle.agv_store_rows.proofs.TripsFrom.{one_told}
use Rattle.agv_store_rows.proofs.trips_told_laws.rows_tell_one_table.Goals as goal

pub returns : goal.returns
returns c = record { acts = λ jobs order trip are. rows_tell_acts jobs order 0 trip.acts are; one = one_told }
