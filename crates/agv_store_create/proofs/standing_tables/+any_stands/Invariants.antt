use Rattle.std.proofs.Common.{length}
use Rattle.agv_store_create.proofs.standing_tables.+any_stands.Given as goal

abbrev pub decreases-any_stands : goal.decreases-any_stands
decreases-any_stands l = length l.texts.now
