-- A decision over a connection to the desk's tables.
use Rattle.std.proofs.Common.{◌≡◌, ℕ, Bool, false, None, Result, Err, arith, ◌∙◌, ap, refl, sym, subst}
use Rattle.sqlite_trees.specs.declared.store.Store.{Ghosts}
use Rattle.agv_header.specs.Moment.{IsMoment}
use Rattle.agv_world_core.specs.Asks.{Answers, IsFaulted, IsStill, Kept, failed_after}
use Rattle.agv_world_core.specs.Changes.{changed}
use Rattle.agv_world_core.specs.Lawful.{IsLawful}
use Rattle.agv_world_core.specs.LawfulParts.{HasLawfulVehicles}
use Rattle.agv_world_core.specs.Maps.{maps_of}
use Rattle.agv_world_core.specs.Worlds.{World}
use Rattle.agv_world_core.specs.declared.fault.Fault.{Fault}
use Rattle.agv_world_core.specs.declared.fault.Fault.TheVariants as machine
use Rattle.agv_world_core.proofs.LawfulInParts.{vehicles_of}
use Rattle.agv_world_core.proofs.lists.Asking.{answers, kept_here, left}
use Rattle.agv_desk.specs.InOrder.{IsInOrder}
use Rattle.agv_desk.specs.Outcomes.{after, answer_of, decided}
use Rattle.agv_desk.specs.Reports.{report_asked, served}
use Rattle.agv_desk.specs.Sizes.{IsWithinTripLimits}
use Rattle.agv_desk.specs.Step.{step}
use Rattle.agv_desk.specs.WellTyped.{IsSeats, IsWellTyped}
use Rattle.agv_desk.specs.declared.answer.Decision.{Decision}
use Rattle.agv_desk.specs.declared.call.Call.{Call}
use Rattle.agv_store_schema.specs.SchemaNumbers.{desk_seats}
use Rattle.agv_store_floor.specs.Flags.{EndsAs}
use Rattle.agv_store_floor.specs.Floors.{Keyed, facts_of, world_at}
use Rattle.agv_store.specs.Serving.{Decides, outcome_in, world_after}
use Rattle.agv_store.proofs.Writing.{answer_decided}

-- the law that is cited
abbrev pub ServesAsDecided : Type 0
ServesAsDecided = (seats : ℕ) (world : World) (at : ℕ) (call : Call) → report_asked call ≡ None → served world (answer_of (step seats world at call)) ≡ answer_of (step seats world at call)

-- a decision in a lawful world is that of the call
pub decides_in : ((seats : ℕ) (world : World) → HasLawfulVehicles seats world → IsInOrder world)
    → ((seats : ℕ) (world : World) (call : Call) → HasLawfulVehicles seats world → IsWithinTripLimits world call)
    → ((seats : ℕ) → IsSeats seats → (world : World) (at : ℕ) (call : Call) → IsLawful seats world → IsMoment at → IsWellTyped call → IsLawful seats (after world (step seats world at call)))
    → ServesAsDecided
    → (at : ℕ) → IsMoment at → (call : Call) → IsWellTyped call → report_asked call ≡ None → (world : World) (decision : Decision)
    → (IsWithinTripLimits world call → decision ≡ decided (outcome_in world at call))
    → (IsInOrder world → changed decision.changes (maps_of world) ≡ maps_of (world_after world at call))
    → IsLawful desk_seats world → Decides world at call decision
decides_in order of_size keeps as_decided at moment call typed none world decision decides changes lawful = record {
  decided_is = decides (of_size desk_seats world call (vehicles_of lawful));
  answer_is = ap (λ (d : Decision). d.answer) (decides (of_size desk_seats world call (vehicles_of lawful))) ∙ answer_decided _ ∙ sym (as_decided desk_seats world at call none);
  changes = changes (order desk_seats world (vehicles_of lawful));
  lawful = keeps desk_seats (omega arith, omega arith) world at call lawful moment typed;
}

ends_by : (B : Type 0) (why : Fault) → EndsAs {A = B} (Err why) (failed_after why false)
ends_by B machine.Memory = refl
ends_by B machine.Storage = refl

module _ {S : Type 0} (g : Ghosts S) where
  -- a fault of a decision raises the flag where it is the store's
  pub ends_faulted : {B : Type 0} (old new : Keyed S) → old.failed ≡ false → (why : Fault) → ((start : Keyed S) → Kept (facts_of g) start old → IsFaulted (facts_of g) start new why)
      → (q : Result B Fault) → q ≡ Err why → EndsAs q new.failed
  ends_faulted {B} old new works why asked q q_is =
      let raised : new.failed ≡ failed_after why false = (left why asked).failed ∙ ap (failed_after why) works in
      subst (λ (q : Result B Fault). EndsAs q new.failed) (sym q_is) (subst (λ (now : Bool). EndsAs {A = B} (Err why) now) (sym raised) (ends_by B why))

  -- a decision between two questions
  pub decided_between : ((seats : ℕ) (world : World) → HasLawfulVehicles seats world → IsInOrder world)
      → ((seats : ℕ) (world : World) (call : Call) → HasLawfulVehicles seats world → IsWithinTripLimits world call)
      → ((seats : ℕ) → IsSeats seats → (world : World) (at : ℕ) (call : Call) → IsLawful seats world → IsMoment at → IsWellTyped call → IsLawful seats (after world (step seats world at call)))
      → ServesAsDecided
      → (at : ℕ) → IsMoment at → (call : Call) → IsWellTyped call → report_asked call ≡ None → (decision : Decision) (a b c d : Keyed S) {P R : Type 0}
      → Answers (facts_of g) a b P
      → Answers (facts_of g) b c (IsWithinTripLimits (world_at g b.held) call → decision ≡ decided (outcome_in (world_at g b.held) at call))
      → Answers (facts_of g) b c (IsInOrder (world_at g b.held) → changed decision.changes (maps_of (world_at g b.held)) ≡ maps_of (world_after (world_at g b.held) at call))
      → Answers (facts_of g) c d R
      → Answers (facts_of g) a d (IsLawful desk_seats (world_at g a.held) → Decides (world_at g a.held) at call decision)
  unfolding IsStill
  decided_between order of_size keeps as_decided at moment call typed none decision a b c d one decides changes again =
      answers (again.kept a (decides.kept a (one.kept a kept_here))).still
      (λ clean.
      let clean_c = again.was_clean clean in
      subst (λ (world : World). IsLawful desk_seats world → Decides world at call decision) (one.world (decides.was_clean clean_c))
      (decides_in order of_size keeps as_decided at moment call typed none (world_at g b.held) decision (decides.told clean_c) (changes.told clean_c)))
