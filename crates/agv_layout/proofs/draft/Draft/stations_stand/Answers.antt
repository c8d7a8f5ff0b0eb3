use Rattle.std.proofs.Common.{rules, tests}
use Rattle.std.proofs.lemmas.Bool.Decides.{Decides-at}
use Rattle.std.proofs.lemmas.Iterator.Consumers.{YieldsList-from_rest}
use Rattle.std.proofs.lemmas.Iterator.Search.{all_from_yields_List}
use Rattle.agv_layout.specs.Draft.{stands_in_draft}
use Rattle.agv_layout.proofs.Drafts.{AllStand-Decides}
use Rattle.agv_layout.proofs.draft.Draft.stations_stand.Goals as goal

pub returns : goal.returns
returns c =
    Decides-at _ _
    (all_from_yields_List (stands_in_draft c.args.self.now) _ _ c.all.result c.all.ensures.ran (YieldsList-from_rest _ c.values.ensures.rest) (λ x b q k. search (rules, tests)))
    (AllStand-Decides c.args.self.now c.values.ensures.ordered)
