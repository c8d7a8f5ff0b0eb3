use Rattle.std.proofs.Common.{length}
use Rattle.agv_store_migrate.proofs.rows_reading.+read_each.Given as goal

abbrev pub decreases-read_each : goal.decreases-read_each
decreases-read_each g l = length l.tables.now
