-- What holds of each effect at the end of a ladder of checks holds of the ladder.
use Rattle.std.proofs.Common.{◌≡◌, Bool, true, false, Option, None, Some, Result, Ok, Err, refl}
use Rattle.agv_header.specs.declared.key.Thing.{Thing}
use Rattle.agv_header.specs.declared.key.VehicleKey.{VehicleKey}
use Rattle.agv_header.specs.declared.refusal.Refusal.{Refusal}
use Rattle.agv_stock.specs.Checks.{Checked}
use Rattle.agv_desk.specs.StateSteps.{if_judged}
use Rattle.agv_desk.specs.Outcomes.{Effect, Outcome, Refused, Made, refuse_unless, refuse_if_none, checked, unheld, branch}

-- it holds of the effect, where the call is not refused
abbrev pub IfMade : (Effect → Type 0) → Outcome → Type 0
IfMade P (Refused why) = Unit {0}
IfMade P (Made effect) = P effect

module _ (P : Effect → Type 0) where
  pub made_refuse_unless : (test : Bool) (why : Refusal) (rest : Outcome) → (test ≡ true → IfMade P rest) → IfMade P (refuse_unless test why rest)
  unfolding refuse_unless
  made_refuse_unless true why rest h = h refl
  made_refuse_unless false why rest h = tt

  pub made_refuse_if_none : {X : Type 0} (there : Option X) (why : Refusal) (rest : X → Outcome) → ((x : X) → there ≡ Some x → IfMade P (rest x)) → IfMade P (refuse_if_none there why rest)
  unfolding refuse_if_none
  made_refuse_if_none None why rest h = tt
  made_refuse_if_none (Some x) why rest h = h x refl

  pub made_checked : (check : Checked) (rest : Outcome) → IfMade P rest → IfMade P (checked check rest)
  unfolding checked
  made_checked (Ok passed) rest h = h
  made_checked (Err why) rest h = tt

  pub made_passed : (check : Checked) (rest : Outcome) → (check ≡ Ok tt → IfMade P rest) → IfMade P (checked check rest)
  unfolding checked
  made_passed (Ok passed) rest h = h refl
  made_passed (Err why) rest h = tt

  pub made_unheld : (held : Option (Thing × VehicleKey)) (rest : Outcome) → (held ≡ None → IfMade P rest) → IfMade P (unheld held rest)
  unfolding unheld
  made_unheld None rest h = h refl
  made_unheld (Some by) rest h = tt

  pub made_branch : (test : Bool) (one other : Outcome) → IfMade P one → IfMade P other → IfMade P (branch test one other)
  unfolding branch
  made_branch true one other h k = h
  made_branch false one other h k = k

  pub made_judged : {X : Type 0} (judged : Result X Refusal) (rest : X → Outcome) → ((x : X) → judged ≡ Ok x → IfMade P (rest x)) → IfMade P (if_judged judged rest)
  unfolding if_judged
  made_judged (Ok x) rest h = h x refl
  made_judged (Err why) rest h = tt
