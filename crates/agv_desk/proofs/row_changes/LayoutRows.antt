-- A layout that is set leads to the maps of the world with it.
use Rattle.std.proofs.Common.{◌≡◌, ◌⊎◌, inl, inr, List, None, Some, Result, Ok, Err, refl, sym, ap, ◌∙◌}
use Rattle.agv_layout.specs.Layout.{Layout, KeepsRules}
use Rattle.agv_layout.specs.declared.fault.LayoutFault.{LayoutFault}
use Rattle.agv_layout.specs.declared.row.LayoutRow.{LayoutRow}
use Rattle.agv_world_core.specs.Questions.{given as set_where, layout_set}
use Rattle.agv_world_core.specs.Worlds.{World, empty_layout}
use Rattle.agv_desk.specs.InOrder.{IsInOrder}
use Rattle.agv_desk.specs.LayoutSteps.{if_given, set_layout}
use Rattle.agv_desk.specs.Outcomes.{Effect, Outcome, with_layout}
use Rattle.agv_desk.proofs.row_changes.Effects.{LeadsTo, touches_none}
use Rattle.agv_desk.proofs.row_changes.Given.{Given}
use Rattle.agv_desk.proofs.outcomes.Known.{none_some}
use Rattle.agv_desk.proofs.outcomes.Ladders.{IfMade, made_refuse_unless}
use Rattle.agv_desk.proofs.row_changes.Steps.{missing, leads}

pub made_given : (P : Effect → Type 0) (read : Result Layout LayoutFault) (rest : Layout → Outcome) → ((layout : Layout) → read ≡ Ok layout → IfMade P (rest layout)) → IfMade P (if_given read rest)
unfolding if_given
made_given P (Ok layout) rest h = h layout refl
made_given P (Err why) rest h = tt

module _ (given : Given) (world : World) (in_order : IsInOrder world) where
  -- where no layout is set, the layout is empty
  pub is_empty : layout_set world ≡ None → (world.layout ≡ empty_layout) ⊎ KeepsRules world.layout → world.layout ≡ empty_layout
  unfolding layout_set
  is_empty unset (inl empty) = empty
  is_empty unset (inr keeps) = none_some (sym unset ∙ ap set_where (given.gives world.layout keeps))

  pub sets_layout : (rows : List LayoutRow) → IfMade (LeadsTo world) (set_layout world rows)
  sets_layout rows =
      made_refuse_unless (LeadsTo world) _ _ _ (λ unset. made_given (LeadsTo world) _ _ (λ layout read.
      leads given world in_order _ (given.sets world layout (is_empty (missing _ unset) in_order.laid)) (touches_none (with_layout world (Some layout)))))
