-- Stops that fit, stop by stop: each stands there once, and each pick has a later drop.
use Rattle.std.proofs.Common.{◌≡◌, ℕ, zero, suc, ◌+◌, ◌-◌, ◌<◌, List, [], ◌∷◌, Some, sym, ap, subst, ◌∙◌, arith}
use Rattle.std.specs.List.{slice_get}
use Rattle.agv_message_core.specs.declared.order.ActKind.{ActKind}
use Rattle.agv_message_core.specs.declared.order.ActKind.TheVariants.{Pick, Drop}
use Rattle.agv_order.specs.StopPlaces.{ArePaired, IsAt, IsPickedThenDropped}
use Rattle.agv_order.specs.declared.stop.Stop.{Stop}
use Rattle.agv_desk.proofs.outcomes.Known.{none_some, same_some}

-- no later stop is the same, and the drop of each pick comes later
abbrev pub Fit : List Stop → Type 0
Fit [] = Unit {0}
Fit (stop ∷ stops) = ((k : ℕ) → IsAt stops stop.job stop.kind k → ⊥) × (stop.kind ≡ Pick → (k : ℕ) × IsAt stops stop.job Drop k) × Fit stops

-- each pick among the stops has its drop there
pub later_drop : (stops : List Stop) (job : List ℕ) (k : ℕ) → Fit stops → IsAt stops job Pick k → (i : ℕ) × IsAt stops job Drop i
later_drop [] job k fit at = none_some at
later_drop (stop ∷ stops) job zero fit at =
    let same = same_some at in
    let drop = fit.1 (ap (λ (s : Stop). s.kind) same) in
    (suc drop.0, subst (λ j. IsAt stops j Drop drop.0) (ap (λ (s : Stop). s.job) same) drop.1)
later_drop (stop ∷ stops) job (suc k) fit at = let drop = later_drop stops job k fit.2 at in (suc drop.0, drop.1)

-- after the drop of a job there is no pick of it
pub no_pick_after : (stop : Stop) (stops : List Stop) → Fit (stop ∷ stops) → stop.kind ≡ Drop → (k : ℕ) → IsAt stops stop.job Pick k → ⊥
no_pick_after stop stops fit is k at =
    let drop = later_drop stops stop.job k fit.2 at in
    fit.0 drop.0 (subst (λ kind. IsAt stops stop.job kind drop.0) (sym is) drop.1)

-- a job is picked at one place, and dropped at one
pub one_place : (all : List Stop) (job : List ℕ) (kind : ActKind) (i k : ℕ) → IsPickedThenDropped all job → IsAt all job kind i → IsAt all job kind k → i ≡ k
one_place all job Pick i k served a b = served.3.1 i a ∙ sym (served.3.1 k b)
one_place all job Drop i k served a b = served.4.1 i a ∙ sym (served.4.1 k b)

-- the stops from place n on
fit_from : (all stops : List Stop) (n : ℕ) → ((k : ℕ) (stop : Stop) → slice_get all k ≡ Some stop → IsPickedThenDropped all stop.job)
    → ((k : ℕ) → slice_get stops k ≡ slice_get all (n + k)) → Fit stops
fit_from all [] n each at = tt
fit_from all (stop ∷ stops) n each at =
    let here : IsAt all stop.job stop.kind n = ap (slice_get all) (plus_zero n) ∙ sym (at 0) in
    let served : IsPickedThenDropped all stop.job = each n stop here in
    let later : (k : ℕ) → slice_get stops k ≡ slice_get all (n + suc k) = λ k. at (suc k) in (
      λ k same. apart n k (one_place all stop.job stop.kind (n + suc k) n served (sym (later k) ∙ same) here),
      λ is.
          let first : n ≡ served.0 = served.3.1 n (subst (λ kind. IsAt all stop.job kind n) is here) in
          (served.1 - suc n, later (served.1 - suc n) ∙ ap (slice_get all) (gap n served.0 served.1 first served.2) ∙ served.4.0),
      fit_from all stops (suc n) each (λ k. later k ∙ ap (slice_get all) (plus_suc n k)),
    )
  where
    plus_zero : (n : ℕ) → n ≡ n + 0
    plus_zero n = omega arith

    plus_suc : (n k : ℕ) → n + suc k ≡ suc n + k
    plus_suc n k = omega arith

    apart : (n k : ℕ) → n + suc k ≡ n → ⊥
    apart n k e = absurd (omega (arith, e))

    gap : (n p d : ℕ) → n ≡ p → p < d → n + suc (d - suc n) ≡ d
    gap n p d e h = omega (arith, e, h)

pub fit_of : (stops : List Stop) → ArePaired stops → Fit stops
fit_of stops can = fit_from stops stops 0 can (λ k. ap (slice_get stops) (zero_plus k))
  where
    zero_plus : (k : ℕ) → k ≡ 0 + k
    zero_plus k = omega arith
