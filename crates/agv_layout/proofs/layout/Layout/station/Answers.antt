use Rattle.std.proofs.Common.{sym, ap, option_map, ◌∙◌}
use Rattle.std.specs.FinMap as map
use Rattle.agv_layout.specs.Layout.{Layout as Plan, station_of}
use Rattle.agv_layout.proofs.Maps.{get-shown}
use Rattle.agv_layout.proofs.layout.Layout.station.Goals as goal

pub returns-in_err-site : goal.returns-in_err-site
returns-in_err-site c =
    let here = sym (get-shown _ _) ∙ ap (λ (layout : Plan). map.get layout.stations c.args.id) c.self.view_is in
    c.from_residual.ensures ∙ ap (option_map (station_of c.args.id)) (c.in_err-site.ensures.value ∙ here)

pub returns : goal.returns
returns c =
    let here = sym (get-shown _ _) ∙ ap (λ (layout : Plan). map.get layout.stations c.args.id) c.self.view_is in
    ap (option_map (station_of c.args.id)) (c.in_ok-site.ensures.value ∙ here)
