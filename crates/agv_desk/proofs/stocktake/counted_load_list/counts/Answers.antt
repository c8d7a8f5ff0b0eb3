use Rattle.std.proofs.Common.{ap, unwrap_or, ◌∙◌}
use Rattle.std.specs.FinMap as map
use Rattle.agv_desk.proofs.stocktakes.CountedLoads.{Counts, no_counts}
use Rattle.agv_desk.proofs.stocktake.counted_load_list.counts.Goals as goal

pub loop-one-init : goal.loop-one-init
loop-one-init c = λ station. ap (λ (counts : Counts). unwrap_or (map.get counts station) 0) c.new-counts.ensures ∙ no_counts station
