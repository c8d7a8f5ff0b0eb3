use Rattle.std.proofs.Common.{sym, ◌∙◌}
use Rattle.std.proofs.lemmas.Bool.{both_ways}
use Rattle.agv_layout.proofs.draft.Draft.is_whole.Goals as goal
use Rattle.agv_layout.proofs.draft.Draft.is_whole.Goals.{then-has_node, else-has_node}

pub returns-then-edges_lead : goal.returns-then-edges_lead
returns-then-edges_lead c =
    elim c.if-has_node.branch [
      | then-has_node w ↦ (
        λ all. record {
          some = c.has_node.ensures.0 w.if-has_node.true;
          leads = w.edges_lead.ensures.0 (sym w.value-is ∙ c.if-edges_lead.true);
          stands = c.stations_stand.ensures.0 all;
        },
        λ whole. c.stations_stand.ensures.1 whole.stands,
      )
      | else-has_node w ↦ absurd (both_ways _ (w.value-is ∙ w.if-has_node.false) c.if-edges_lead.true)
    ]
