use Rattle.std.proofs.Common.{List, ℕ, ◌++◌, ap, ◌∙◌, string_bytes}
use Rattle.agv_header.specs.Name.{name_cmp}
use Rattle.agv_count.specs.Reports.{station_part}
use Rattle.agv_count.specs.LoadsByPlace.{loads_at}
use Rattle.agv_count.proofs.Pieces.{one_more_piece}
use Rattle.agv_count.proofs.stock.write_stations.Goals as goal

pub loop-station-preserved : goal.loop-station-preserved
loop-station-preserved c =
    let s = c.loop-station-item.result in
    one_more_piece (λ s. station_part (loads_at name_cmp c.args.placed.now s.0.id) s.0 s.1) c.args.stations.now c.loop-station.station-index s _ _ _ c.loop-station-test.true c.loop-station-item.is c.loop-station.invariant
    (c.in_ok-write_station.ensures ∙ ap (λ (here : List (List ℕ)). string_bytes c.loop-station.out ++ station_part here s.0 s.1) c.loads_at.ensures)
