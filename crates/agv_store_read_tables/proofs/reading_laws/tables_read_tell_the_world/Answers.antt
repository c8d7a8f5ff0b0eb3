use Rattle.agv_store_read_tables.proofs.ReadWorld.{rows_told, world_held}
use Rattle.agv_store_read_tables.proofs.reading_laws.tables_read_tell_the_world.Goals as goal

pub returns : goal.returns
returns c = record { rows = rows_told; world = world_held }
