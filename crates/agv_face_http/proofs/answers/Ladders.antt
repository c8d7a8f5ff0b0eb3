-- What holds of each answer at the end of a ladder of checks, and of refusals, holds of the ladder's answer.
use Rattle.std.proofs.Common.{Bool, true, false, Option, None, Some, Result, Ok, Err}
use Rattle.agv_header.specs.declared.key.Thing.{Thing}
use Rattle.agv_header.specs.declared.key.VehicleKey.{VehicleKey}
use Rattle.agv_header.specs.declared.refusal.Refusal.{Refusal}
use Rattle.agv_header.specs.declared.refusal.Refusal.TheVariants as refusal
use Rattle.agv_layout.specs.Layout.{Layout}
use Rattle.agv_layout.specs.declared.fault.LayoutFault.{LayoutFault}
use Rattle.agv_order.specs.declared.fault.PlanFault.{PlanFault}
use Rattle.agv_order.specs.declared.trip.Trip.{Trip}
use Rattle.agv_stock.specs.Checks.{Checked}
use Rattle.agv_desk.specs.LayoutSteps.{if_given, layout_refusal}
use Rattle.agv_desk.specs.OrderSteps.{if_planned, plan_refusal}
use Rattle.agv_desk.specs.Outcomes.{Effect, Outcome, Made, answer_of, refuse_unless, refuse_if_none, checked, unheld, branch}
use Rattle.agv_desk.specs.StateSteps.{if_judged}
use Rattle.agv_desk.specs.declared.answer.Answer.{Answer}
use Rattle.agv_desk.specs.declared.answer.Answer.TheVariants as answer

module _ (P : Answer → Type 0) (refused : (why : Refusal) → P (answer.Refused why)) where
  pub of_made : (effect : Effect) → P effect.answer → P (answer_of (Made effect))
  unfolding answer_of
  of_made effect h = h

  pub of_refuse_unless : (test : Bool) (why : Refusal) (rest : Outcome) → P (answer_of rest) → P (answer_of (refuse_unless test why rest))
  unfolding refuse_unless answer_of
  of_refuse_unless true why rest h = h
  of_refuse_unless false why rest h = refused why

  pub of_refuse_if_none : {X : Type 0} (there : Option X) (why : Refusal) (rest : X → Outcome) → ((x : X) → P (answer_of (rest x))) → P (answer_of (refuse_if_none there why rest))
  unfolding refuse_if_none answer_of
  of_refuse_if_none None why rest h = refused why
  of_refuse_if_none (Some x) why rest h = h x

  pub of_checked : (check : Checked) (rest : Outcome) → P (answer_of rest) → P (answer_of (checked check rest))
  unfolding checked answer_of
  of_checked (Ok passed) rest h = h
  of_checked (Err why) rest h = refused why

  pub of_unheld : (held : Option (Thing × VehicleKey)) (rest : Outcome) → P (answer_of rest) → P (answer_of (unheld held rest))
  unfolding unheld answer_of
  of_unheld None rest h = h
  of_unheld (Some by) rest h = refused (refusal.Held by.0 by.1)

  pub of_branch : (test : Bool) (one other : Outcome) → P (answer_of one) → P (answer_of other) → P (answer_of (branch test one other))
  unfolding branch
  of_branch true one other h k = h
  of_branch false one other h k = k

  pub of_judged : {X : Type 0} (judged : Result X Refusal) (rest : X → Outcome) → ((x : X) → P (answer_of (rest x))) → P (answer_of (if_judged judged rest))
  unfolding if_judged answer_of
  of_judged (Ok x) rest h = h x
  of_judged (Err why) rest h = refused why

  pub of_given : (read : Result Layout LayoutFault) (rest : Layout → Outcome) → ((layout : Layout) → P (answer_of (rest layout))) → P (answer_of (if_given read rest))
  unfolding if_given answer_of
  of_given (Ok layout) rest h = h layout
  of_given (Err why) rest h = refused (layout_refusal why)

  pub of_planned : (plan : Result Trip PlanFault) (rest : Trip → Outcome) → ((trip : Trip) → P (answer_of (rest trip))) → P (answer_of (if_planned plan rest))
  unfolding if_planned answer_of
  of_planned (Ok trip) rest h = h trip
  of_planned (Err why) rest h = refused (plan_refusal why)
