use Rattle.std.proofs.Common.{sym, ap, ◌+◌, ℕ, unwrap_or, ◌∙◌}
use Rattle.std.specs.FinMap as map
use Rattle.agv_desk.proofs.stocktakes.CountedLoads.{Counts, recounted_one}
use Rattle.agv_desk.proofs.stocktake.counted_load_list.count_up.Goals as goal

pub returns-in_ok-insert : goal.returns-in_ok-insert
returns-in_ok-insert c = λ station.
    let old = c.args.counts.now in
    let at = c.args.one.now.station in
    ap (λ (counts : Counts). unwrap_or (map.get counts station) 0) (c.in_ok-insert.ensures.ok ∙ ap (λ (n : ℕ). map.insert old at (n + 1)) (c.unwrap_or-count.ensures ∙ ap (λ o. unwrap_or o 0) (c.copied.ensures ∙ c.get.ensures)))
    ∙ recounted_one old c.args.one.now station (sym c.is_here.ensures ∙ c.if-is_here.true)
