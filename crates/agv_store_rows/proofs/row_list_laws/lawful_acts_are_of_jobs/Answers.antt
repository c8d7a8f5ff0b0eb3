use Rattle.agv_store_schema.specs.SchemaNumbers.{desk_seats}
use Rattle.agv_store_rows.proofs.row_list_laws.lawful_acts_are_of_jobs.Goals as goal

pub returns : goal.returns
returns c = λ world lawful. (c.lawful_rows_tell_trips.ensures.all desk_seats world lawful).of_jobs
