-- How many moves of the acts that become finished are the pick (or drop) of a job by an order: at most one, where a trip has each at most once.
use Rattle.std.proofs.Common.{◌≡◌, ◌⊎◌, ◌++◌, ◌&&◌, inl, inr, ℕ, suc, ◌+◌, Bool, true, false, cond, nat_eq, List, [], ◌∷◌, Option, None, Some, refl, ◌∙◌, arith}
use Rattle.std.specs.Cmp.Lexicographic.{pointwise}
use Rattle.std.specs.List.{slice_get, cons_option}
use Rattle.std.proofs.lemmas.Bool.{and_parts}
use Rattle.std.proofs.lemmas.List.Sums.{sum_by-append, sum_by-cons}
use Rattle.agv_header.specs.declared.key.VehicleKey.{VehicleKey}
use Rattle.agv_message_core.specs.declared.order.ActKind.{ActKind}
use Rattle.agv_message_core.specs.declared.order.ActKind.TheVariants.{Pick, Drop}
use Rattle.agv_desk.specs.Histories.{is_kind, is_by, times}
use Rattle.agv_desk.specs.ActSteps.{Renewed, becomes_finished, taken_to, act_move, act_moves}
use Rattle.agv_desk.specs.Outcomes.{Acted, Move}
use Rattle.agv_desk.proofs.lists.SameNames.{same_name}

same_kind : (one other : ActKind) → is_kind one other ≡ true → one ≡ other
same_kind Pick Pick is = refl
same_kind Pick Drop is = cc
same_kind Drop Pick is = cc
same_kind Drop Drop is = refl

module _ (kind : ActKind) (order job : List ℕ) where
  pub times-append : (moves others : List Move) → times kind order job (moves ++ others) ≡ times kind order job moves + times kind order job others
  times-append moves others = sum_by-append (λ (move : Move). cond (is_by kind order job move.cause) 1 0) moves others

  -- one move more, or none
  worth : Option Move → ℕ
  worth None = 0
  worth (Some move) = cond (is_by kind order job move.cause) 1 0

  times-cons : (move : Option Move) (moves : List Move) → times kind order job (cons_option move moves) ≡ worth move + times kind order job moves
  unfolding worth
  times-cons None moves = omega arith
  times-cons (Some move) moves = sum_by-cons (λ (one : Move). cond (is_by kind order job one.cause) 1 0) move moves

  -- the act is the pick (or drop) of the job, and becomes finished
  pub record IsCarriedOut (by : List ℕ) (act : Renewed) : Type 0 where
    pub same_order : by ≡ order
    pub finished : becomes_finished act ≡ true
    pub kind_is : act.0.kind ≡ kind
    pub job_is : act.0.job ≡ job

  -- in these acts the job is picked (or dropped) once at most
  abbrev pub HasOnce : List Renewed → Type 0
  HasOnce acts = (i k : ℕ) (one other : Renewed) → slice_get acts i ≡ Some one → slice_get acts k ≡ Some other
      → one.0.kind ≡ kind → other.0.kind ≡ kind → one.0.job ≡ job → other.0.job ≡ job → i ≡ k

  module _ (key : VehicleKey) (by : List ℕ) where
    one_act : (act : Renewed) → (worth (act_move key by act) ≡ 0) ⊎ ((worth (act_move key by act) ≡ 1) × IsCarriedOut by act)
    unfolding worth
    one_act act = by_test (becomes_finished act) refl
      where
        by_cause : becomes_finished act ≡ true → (test : Bool) → (is_kind act.0.kind kind && pointwise nat_eq by order && pointwise nat_eq act.0.job job) ≡ test
            → (◌≡◌ {A = ℕ} (cond test 1 0) 0) ⊎ ((◌≡◌ {A = ℕ} (cond test 1 0) 1) × IsCarriedOut by act)
        by_cause finished true is =
            let parts = and_parts _ _ is in
            let first = and_parts _ _ parts.0 in
            inr (refl, record { same_order = same_name by order first.1; finished = finished; kind_is = same_kind act.0.kind kind first.0; job_is = same_name act.0.job job parts.1 })
        by_cause finished false is = inl refl

        by_test : (test : Bool) → becomes_finished act ≡ test
            → (worth (cond test (Some (record { load = act.0.load; place = taken_to key act.0.kind act.0.station; cause = Acted act.0.kind by act.0.job })) None) ≡ 0)
            ⊎ ((worth (cond test (Some (record { load = act.0.load; place = taken_to key act.0.kind act.0.station; cause = Acted act.0.kind by act.0.job })) None) ≡ 1) × IsCarriedOut by act)
        by_test true is = by_cause is (is_kind act.0.kind kind && pointwise nat_eq by order && pointwise nat_eq act.0.job job) refl
        by_test false is = inl refl

    -- the act of these that is carried out
    abbrev pub SomeCarriedOut : List Renewed → Type 0
    SomeCarriedOut acts = (k : ℕ) × (act : Renewed) × (slice_get acts k ≡ Some act) × IsCarriedOut by act

    pub none_or_one : (acts : List Renewed) → HasOnce acts
        → (times kind order job (act_moves key by acts) ≡ 0) ⊎ ((times kind order job (act_moves key by acts) ≡ 1) × SomeCarriedOut acts)
    none_or_one [] once = inl refl
    none_or_one (act ∷ acts) once =
        let total = times-cons (act_move key by act) (act_moves key by acts) in
        let later = none_or_one acts (λ i k one other a b c d e f. pred_same i k (once (suc i) (suc k) one other a b c d e f)) in
        elim (one_act act) [
          | inl none ↦ elim later [
            | inl zero_more ↦ inl (total ∙ sum _ _ 0 0 none zero_more)
            | inr more ↦ inr (total ∙ sum _ _ 0 1 none more.0, (suc more.1.0, more.1.1, more.1.2, more.1.3))
          ]
          | inr one ↦ elim later [
            | inl zero_more ↦ inr (total ∙ sum _ _ 1 0 one.0 zero_more, (0, act, refl, one.1))
            | inr more ↦ absurd (zero_suc more.1.0 (once 0 (suc more.1.0) act more.1.1 refl more.1.2 one.1.kind_is more.1.3.kind_is one.1.job_is more.1.3.job_is))
          ]
        ]
      where
        pred_same : (i k : ℕ) → suc i ≡ suc k → i ≡ k
        pred_same i k same = omega (arith, same)

        zero_suc : (k : ℕ) → 0 ≡ suc k → ⊥
        zero_suc k same = omega (arith, same)

        sum : (a b c d : ℕ) → a ≡ c → b ≡ d → a + b ≡ c + d
        sum a b c d first second = omega (arith, first, second)
