-- What is state_or_refusal of a state that has no position, from what its readers ensure.
use Rattle.std.proofs.Common.{◌≡◌, ℕ, List, Bool, true, false, not, cond, Option, Some, None, Result, Ok, Err, codes, nat_eq, refl, ap, sym, ◌∙◌}
use Rattle.std.specs.List.{starts_with}
use Rattle.std.specs.Option.{ok_or}
use Rattle.serde_json.specs.Data.{Data}
use Rattle.agv_header.specs.Stamp.{moment_said}
use Rattle.agv_header.specs.declared.refusal.Refusal.{Refusal}
use Rattle.agv_header.specs.declared.refusal.Refusal.TheVariants.{BadBody, Position, Version}
use Rattle.agv_header.specs.declared.stamp.StampFault.{StampFault}
use Rattle.agv_header.specs.declared.stamp.StampFault.TheVariants.{Bad}
use Rattle.agv_message_json.specs.Position.{has_position}
use Rattle.agv_message_json.specs.State.{is_bad, is_other_version, state_or_refusal, stamped, state_of, text}
use Rattle.agv_message_core.specs.declared.state.StateMessage.{StateMessage}

judged_by : (d : Data) (bad other : Bool) (moment : Option ℕ) → is_bad d ≡ bad → is_other_version d ≡ other → moment_said (text (codes "timestamp") d) ≡ moment → state_or_refusal d ≡ cond bad (Err BadBody) (cond other (Err Version) (stamped moment d))
judged_by d bad other moment b o m =
    let F : Bool → Bool → Option ℕ → Result StateMessage Refusal = λ b o m. cond b (Err BadBody) (cond o (Err Version) (stamped m d)) in
    λ i. F (b i) (o i) (m i)

other_version : (d : Data) (version : List ℕ) (served : Bool) → version ≡ text (codes "version") d → served ≡ starts_with nat_eq version (codes "2.") → is_other_version d ≡ not served
unfolding is_other_version
other_version d version served is s =
    ap (λ (t : List ℕ). not (starts_with nat_eq t (codes "2."))) (sym is) ∙ ap not (sym s)

-- a state that isn't bad, of another version
pub judged-other_version : (d : Data) (version : List ℕ) → is_bad d ≡ false → version ≡ text (codes "version") d → false ≡ starts_with nat_eq version (codes "2.") → state_or_refusal d ≡ Err Version
judged-other_version d version good is s =
    judged_by d false true _ good (other_version d version false is s) refl

-- a state that isn't bad, of this version, whose timestamp says that moment or none
pub judged-stamped : (d : Data) (version timestamp : List ℕ) (moment : Option ℕ) → is_bad d ≡ false → version ≡ text (codes "version") d → true ≡ starts_with nat_eq version (codes "2.") → timestamp ≡ text (codes "timestamp") d → moment_said timestamp ≡ moment → state_or_refusal d ≡ stamped moment d
judged-stamped d version timestamp moment good is s t m =
    judged_by d false false moment good (other_version d version true is s) (ap moment_said (sym t) ∙ m)

-- a state that has no position
pub state_of-not_located : (d : Data) → has_position d ≡ false → state_of d ≡ state_or_refusal d
state_of-not_located d none =
    let F : Bool → Result StateMessage Refusal = λ b. cond b (Err Position) (state_or_refusal d) in ap F none

-- what reading a stamp answered
pub no_moment : (said : Option ℕ) (fault : StampFault) → Err fault ≡ ok_or said Bad → said ≡ None
no_moment None fault e = refl
no_moment (Some at) fault e = cc

pub a_moment : (said : Option ℕ) (at : ℕ) → Ok at ≡ ok_or said Bad → said ≡ Some at
a_moment None at e = cc
a_moment (Some said) at e = cc
