use Rattle.std.proofs.Common.{sym, ap, ◌∙◌}
use Rattle.std.specs.List.{list_any}
use Rattle.agv_header.specs.ThingOrder.{thing_eq}
use Rattle.agv_track_holds.proofs.Firsts.{knows_more}
use Rattle.agv_track_holds.proofs.ordered_set.OrderedSet.add.Goals as goal

pub returns-in_ok-push-clause-knows : goal.returns-in_ok-push-clause-knows
returns-in_ok-push-clause-knows c =
    λ q. knows_more c.args.thing.now q c.args.self.now.things.items _ _ (c.in_ok-is_new.ensures.updates.0 q) (c.requires q) ∙ ap (list_any (thing_eq q)) (sym c.in_ok-push.ensures.items)
