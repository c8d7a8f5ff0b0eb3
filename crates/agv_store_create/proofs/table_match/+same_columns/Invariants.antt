use Rattle.std.proofs.Common.{length}
use Rattle.agv_store_create.proofs.table_match.+same_columns.Given as goal

abbrev pub decreases-same_columns : goal.decreases-same_columns
decreases-same_columns l = length l.found.now
