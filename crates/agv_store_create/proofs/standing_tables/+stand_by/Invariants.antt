use Rattle.std.proofs.Common.{length}
use Rattle.agv_store_create.proofs.standing_tables.+stand_by.Given as goal

abbrev pub decreases-stand_by : goal.decreases-stand_by
decreases-stand_by l = length l.texts.now
