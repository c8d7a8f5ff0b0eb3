use Rattle.std.proofs.Common.{rules, tests, ◌∙◌, sym}
use Rattle.std.proofs.lemmas.Iterator.Consumers.{count_from_yields_List, YieldsList-from_filter, YieldsList-from_rest}
use Rattle.agv_world_core.specs.Told.{is_of_kind}
use Rattle.agv_world_core.proofs.told_worlds.Counts.{len-names_of}
use Rattle.agv_world_core.proofs.world.World.used_count.Goals as goal

pub returns : goal.returns
returns c =
    count_from_yields_List c.filter.result _ c.count.ensures.ran
    (YieldsList-from_filter _ (is_of_kind c.args.kind) (YieldsList-from_rest c.iter.result c.filter.ensures.source) c.filter.ensures.closure (λ x b q k. search (rules, tests)))
    ∙ sym (len-names_of c.args.kind c.args.self.now c.iter.result c.iter.ensures.ordered c.iter.ensures.all)
