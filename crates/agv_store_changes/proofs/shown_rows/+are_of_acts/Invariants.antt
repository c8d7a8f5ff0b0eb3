use Rattle.std.proofs.Common.{length}
use Rattle.agv_store_changes.proofs.shown_rows.+are_of_acts.Given as goal

abbrev pub decreases-are_of_acts : goal.decreases-are_of_acts
decreases-are_of_acts l = length l.rows.now
