use Rattle.std.proofs.Common.{length}
use Rattle.agv_store_read.proofs.rowid_reading.+query_each_keyed.Given as goal

abbrev pub decreases-query_each_keyed : goal.decreases-query_each_keyed
decreases-query_each_keyed g l = length l.others.now
