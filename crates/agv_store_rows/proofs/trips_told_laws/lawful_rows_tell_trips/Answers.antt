use Rattle.agv_store_rows.proofs.LawfulTripRows.{lawful_trip, lawful_trips}
use Rattle.agv_store_rows.proofs.trips_told_laws.lawful_rows_tell_trips.Goals as goal

pub returns : goal.returns
returns c = record { all = lawful_trips; each = lawful_trip }
