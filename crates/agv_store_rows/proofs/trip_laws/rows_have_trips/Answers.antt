use Rattle.agv_store_schema.specs.SchemaNumbers.{desk_seats}
use Rattle.agv_store_rows.proofs.TripsHaveRows.{has_its_rows}
use Rattle.agv_store_rows.proofs.trip_laws.rows_have_trips.Goals as goal

pub returns : goal.returns
returns c = λ world lawful. has_its_rows world (c.has_consistent_trips.ensures desk_seats world lawful) (c.rows_tell_trips.ensures.ways world lawful)
