use Rattle.std.proofs.Common.{length}
use Rattle.agv_store_create.proofs.table_match.+is_key.Given as goal

abbrev pub decreases-is_key : goal.decreases-is_key
decreases-is_key l = length l.all.now
