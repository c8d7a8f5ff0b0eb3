use Rattle.std.proofs.Common.{length}
use Rattle.agv_store_create.proofs.table_match.+are_among.Given as goal

abbrev pub decreases-are_among : goal.decreases-are_among
decreases-are_among l = length l.places.now
