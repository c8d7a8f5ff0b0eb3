use Rattle.std.proofs.Common.{rules, tests, List, ℕ}
use Rattle.std.specs.FinMap as map
use Rattle.std.proofs.lemmas.Iterator.Consumers.{YieldsList-from_rest}
use Rattle.std.proofs.lemmas.Iterator.Search.{all_from_yields_List}
use Rattle.agv_layout.specs.declared.station.StationSite.{StationSite}
use Rattle.agv_world_lawful.specs.LawfulTests.{does_stand}
use Rattle.agv_world_lawful.proofs.laid.all_stand.Goals as goal

pub returns : goal.returns
returns c =
    all_from_yields_List (λ (station : List ℕ × StationSite). does_stand c.args.world.now station.1) _ _ c.all.result c.all.ensures.ran
    (YieldsList-from_rest (map.entries c.args.world.now.stations) c.iter.ensures) (λ x b q k. search (rules, tests))
