use Rattle.std.proofs.Common.{rules, tests, List, ℕ}
use Rattle.std.specs.FinMap as map
use Rattle.std.proofs.lemmas.Iterator.Consumers.{YieldsList-from_rest}
use Rattle.std.proofs.lemmas.Iterator.Search.{all_from_yields_List}
use Rattle.agv_world_core.specs.declared.row.TripRow.{TripRow}
use Rattle.std.specs.List.{list_all}
use Rattle.agv_world_lawful.specs.LoadTests.{is_act}
use Rattle.agv_world_lawful.proofs.acts.are_acts.Goals as goal

pub returns : goal.returns
returns c =
    all_from_yields_List (λ (entry : List ℕ × TripRow). list_all (is_act c.args.world.now entry.1.vehicle) entry.1.acts) _ _ c.all.result c.all.ensures.ran
    (YieldsList-from_rest (map.entries c.args.world.now.trips) c.iter.ensures) (λ x b q k. search (rules, tests))
