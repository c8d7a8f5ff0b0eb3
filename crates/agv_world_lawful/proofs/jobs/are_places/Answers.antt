use Rattle.std.proofs.Common.{rules, tests, List, ℕ}
use Rattle.std.specs.FinMap as map
use Rattle.std.proofs.lemmas.Iterator.Consumers.{YieldsList-from_rest}
use Rattle.std.proofs.lemmas.Iterator.Search.{all_from_yields_List}
use Rattle.agv_stock.specs.declared.place.Place.{Place}
use Rattle.agv_world_lawful.specs.LoadTests.{is_place}
use Rattle.agv_world_lawful.proofs.jobs.are_places.Goals as goal

pub returns : goal.returns
returns c =
    all_from_yields_List (λ (entry : List ℕ × Place). is_place c.args.world.now entry.1) _ _ c.all.result c.all.ensures.ran
    (YieldsList-from_rest (map.entries c.args.world.now.loads) c.iter.ensures) (λ x b q k. search (rules, tests))
