-- Over a list of calls, where each call keeps a world lawful: the world stays lawful, and each order picks and drops each job at most once.
use Rattle.std.proofs.Common.{◌≡◌, ◌≤◌, ◌⊎◌, inl, inr, ℕ, ◌+◌, true, List, [], ◌∷◌, ◌++◌, refl, sym, ap, ◌∙◌, arith}
use Rattle.std.specs.FinSet as set
use Rattle.std.proofs.lemmas.Bool.{false≢true}
use Rattle.agv_header.specs.declared.key.VehicleKey.{VehicleKey}
use Rattle.agv_message_core.specs.declared.order.ActKind.{ActKind}
use Rattle.agv_message_core.specs.declared.status.Status.{Status}
use Rattle.agv_message_core.specs.declared.status.Status.TheVariants.{Waiting, Initializing, Running, Paused, Finished, Failed}
use Rattle.agv_order.specs.Statuses.{is_final, is_finished}
use Rattle.agv_order.specs.Trips.{Task}
use Rattle.agv_world_core.proofs.LawfulInParts.{vehicles_of}
use Rattle.agv_world_core.specs.Lawful.{IsLawful}
use Rattle.agv_world_core.specs.Worlds.{World}
use Rattle.agv_desk.specs.Histories.{times}
use Rattle.agv_desk.specs.Outcomes.{Outcome, Refused, Made, after, moves_of}
use Rattle.agv_desk.specs.Step.{step, steps, moves}
use Rattle.agv_desk.specs.WellTyped.{AreWellTyped, IsMoment, IsWellTyped}
use Rattle.agv_desk.specs.declared.call.Call.{Call}
use Rattle.agv_desk.proofs.histories.ActsCounted.{times-append}
use Rattle.agv_desk.proofs.histories.AllAlong.{Forgets, follows_step, goes_along}
use Rattle.agv_desk.proofs.row_changes.Given.{AdvancesTrips}
use Rattle.agv_desk.proofs.histories.GoingAlong.{GoesAlong, IsSpent}
use Rattle.agv_desk.proofs.outcomes.Keeping.{Follows}
use Rattle.agv_desk.proofs.outcomes.Ladders.{IfMade}
use Rattle.agv_desk.proofs.histories.TripLeft.{PairsAsSaid}
use Rattle.agv_desk.proofs.histories.TripsFollow.{final_stays, world_itself, world_through}

-- each call keeps a lawful world lawful
abbrev pub KeepsLawful : ℕ → Type 0
KeepsLawful seats = (world : World) (at : ℕ) (made : Call) → IsLawful seats world → IsMoment at → IsWellTyped made → IsLawful seats (after world (step seats world at made))

pub finished_final : (status : Status) → is_finished status ≡ true → is_final status ≡ true
finished_final Waiting is = cc
finished_final Initializing is = cc
finished_final Running is = cc
finished_final Paused is = cc
finished_final Finished is = refl
finished_final Failed is = cc

-- what is spent stays so
pub spent_stays : (kind : ActKind) (order job : List ℕ) (before after : World) → Follows before after → IsSpent kind order job before → IsSpent kind order job after
spent_stays kind order job before after follows spent = record {
  used = follows.orders order spent.used;
  over = λ key trip has same k act there kind_is job_is. elim (follows.trips key trip has) [
    | inl old ↦
        let was = old.2.acts k act there in
        let finished = spent.over key old.0 old.1 (sym old.2.order ∙ same) k was.0 was.1 (ap (λ (t : Task). t.kind) (sym was.2.task) ∙ kind_is) (ap (λ (t : Task). t.job) (sym was.2.task) ∙ job_is) in
        ap is_finished (final_stays was.0.status act.status (finished_final was.0.status finished) was.2.follows) ∙ finished
    | inr unused ↦ absurd (false≢true (sym unused ∙ ap (set.contains before.orders) same ∙ spent.used))
  ];
}

-- the moves of one call
once_made : (world : World) (forgets : VehicleKey → Type 0) (outcome : Outcome) → IfMade (GoesAlong world forgets) outcome → (kind : ActKind) (order job : List ℕ)
    → (times kind order job (moves_of outcome) ≡ 0)
    ⊎ ((times kind order job (moves_of outcome) ≡ 1) × (IsSpent kind order job world → ⊥) × IsSpent kind order job (after world outcome))
unfolding after moves_of
once_made world forgets (Refused why) goes kind order job = inl refl
once_made world forgets (Made effect) goes kind order job = goes.acts.once kind order job

pub typed_first : (calls others : List (ℕ × Call)) → AreWellTyped (calls ++ others) → AreWellTyped calls
typed_first [] others typed = tt
typed_first (made ∷ calls) others typed = (typed.0, typed.1, typed_first calls others typed.2)

pub typed_later : (calls others : List (ℕ × Call)) → AreWellTyped (calls ++ others) → AreWellTyped others
typed_later [] others typed = typed
typed_later (made ∷ calls) others typed = typed_later calls others typed.2

pub typed_more : (calls : List (ℕ × Call)) (made : ℕ × Call) → AreWellTyped calls → IsMoment made.0 → IsWellTyped made.1 → AreWellTyped (calls ++ made ∷ [])
typed_more [] made typed moment well = (moment, well, tt)
typed_more (first ∷ calls) made typed moment well = (typed.0, typed.1, typed_more calls made typed.2 moment well)

module _ (advances : AdvancesTrips) (fits : PairsAsSaid) (seats : ℕ) (keeps : KeepsLawful seats) where
  -- every list of calls keeps a lawful world lawful
  pub stays_lawful : (world : World) (calls : List (ℕ × Call)) → IsLawful seats world → AreWellTyped calls → IsLawful seats (steps seats world calls)
  stays_lawful world [] lawful typed = lawful
  stays_lawful world (made ∷ calls) lawful typed = stays_lawful (after world (step seats world made.0 made.1)) calls (keeps world made.0 made.1 lawful typed.0 typed.1) typed.2

  -- and leads to a world that comes after it
  pub follows_steps : (world : World) (calls : List (ℕ × Call)) → IsLawful seats world → AreWellTyped calls → Follows world (steps seats world calls)
  follows_steps world [] lawful typed = world_itself world
  follows_steps world (made ∷ calls) lawful typed =
      let next = after world (step seats world made.0 made.1) in
      world_through world next (steps seats next calls) (follows_step advances fits seats world (vehicles_of lawful) made.0 made.1)
      (follows_steps next calls (keeps world made.0 made.1 lawful typed.0 typed.1) typed.2)

  module _ (kind : ActKind) (order job : List ℕ) where
    -- what is spent is not carried out again
    none_more : (world : World) (calls : List (ℕ × Call)) → IsLawful seats world → AreWellTyped calls → IsSpent kind order job world → times kind order job (moves seats world calls) ≡ 0
    none_more world [] lawful typed spent = refl
    none_more world (made ∷ calls) lawful typed spent =
        let outcome = step seats world made.0 made.1 in
        let next = after world outcome in
        let rest = none_more next calls (keeps world made.0 made.1 lawful typed.0 typed.1) typed.2 (spent_stays kind order job world next (follows_step advances fits seats world (vehicles_of lawful) made.0 made.1) spent) in
        elim (once_made world (Forgets made.1) outcome (goes_along advances fits seats world (vehicles_of lawful) made.0 made.1) kind order job) [
          | inl none ↦ times-append kind order job (moves_of outcome) (moves seats next calls) ∙ sum_zero _ _ none rest
          | inr one ↦ absurd (one.1 spent)
        ]
      where
        sum_zero : (a b : ℕ) → a ≡ 0 → b ≡ 0 → a + b ≡ 0
        sum_zero a b first second = omega (arith, first, second)

    -- in a list of calls the order picks (or drops) the job at most once
    pub once_at_most : (world : World) (calls : List (ℕ × Call)) → IsLawful seats world → AreWellTyped calls → times kind order job (moves seats world calls) ≤ 1
    once_at_most world [] lawful typed = omega arith
    once_at_most world (made ∷ calls) lawful typed =
        let outcome = step seats world made.0 made.1 in
        let next = after world outcome in
        let lawful_next = keeps world made.0 made.1 lawful typed.0 typed.1 in
        let total = times-append kind order job (moves_of outcome) (moves seats next calls) in
        elim (once_made world (Forgets made.1) outcome (goes_along advances fits seats world (vehicles_of lawful) made.0 made.1) kind order job) [
          | inl none ↦ sum _ _ _ 0 1 total none (once_at_most next calls lawful_next typed.2)
          | inr one ↦ last _ _ _ total one.0 (none_more next calls lawful_next typed.2 one.2)
        ]
      where
        sum : (a b c m n : ℕ) → a ≡ b + c → b ≡ m → c ≤ n → a ≤ m + n
        sum a b c m n total first second = omega (arith, total, first, second)

        last : (a b c : ℕ) → a ≡ b + c → b ≡ 1 → c ≡ 0 → a ≤ 1
        last a b c total first second = omega (arith, total, first, second)
