use Rattle.agv_store_rows.proofs.LawfulValues.{row_at}
use Rattle.agv_store_rows.proofs.trip_laws.rows_have_vehicles.Goals as goal

pub returns : goal.returns
returns c = row_at
