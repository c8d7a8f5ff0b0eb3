use Rattle.agv_store_schema.specs.SchemaNumbers.{desk_seats}
use Rattle.agv_store_read_tables.proofs.WorldIn.{world_told}
use Rattle.agv_store_read_tables.proofs.world_laws.a_database_tells_its_world.Goals as goal

pub returns : goal.returns
returns c = world_told (c.has_consistent_trips.ensures desk_seats) c.rows_tell_trips.ensures.journeys c.rows_tell_trips.ensures.act_values c.rows_tell_trips.ensures.all c.tables_tell_the_world.ensures
