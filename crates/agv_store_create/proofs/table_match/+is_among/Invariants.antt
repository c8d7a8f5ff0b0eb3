use Rattle.std.proofs.Common.{length}
use Rattle.agv_store_create.proofs.table_match.+is_among.Given as goal

abbrev pub decreases-is_among : goal.decreases-is_among
decreases-is_among l = length l.all.now
