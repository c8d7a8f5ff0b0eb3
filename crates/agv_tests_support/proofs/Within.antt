-- A floor that asks another one, which never fails, and notes itself whether the store has failed.
use Rattle.std.proofs.Common.{◌≡◌, Bool, true, false, Result, Ok, Err, sym, ap, subst, ◌∙◌}
use Rattle.agv_world_core.specs.Asks.{Facts, IsFaulted, Kept, Asks, failed_after}
use Rattle.agv_world_core.specs.Worlds.{World}
use Rattle.agv_world_core.specs.declared.fault.Fault.{Fault}
use Rattle.agv_world_core.specs.declared.fault.Fault.TheVariants.{Memory, Storage}
use Rattle.agv_world_core.proofs.lists.Asking.{answers, faults, left, stays}
use Rattle.agv_tests_support.specs.Within.{facts_beside}

module _ {S T A : Type 0} (inner : T → S) (failed : T → Bool) (f : Facts S) (old new : T) (says : World → A → Type 0) where
  memory_alone : (why : Fault) (was now : Bool) → false ≡ failed_after why false → now ≡ was → now ≡ failed_after why was
  memory_alone Memory was now none same = same
  memory_alone Storage was now wrong same = absurd (cc wrong)

  beside : ((floor : S) → f.failed floor ≡ false) → failed new ≡ failed old → (result : Result A Fault)
      → Asks f (inner old) (inner new) result says → Asks (facts_beside inner failed f) old new result says
  beside never same (Ok answer) asked =
      let still = stays asked in
      answers (record { later = λ first. still.later (inner first); was_clean = still.was_clean; was_open = still.was_open; world = still.world; failed = same; seats = still.seats }) asked.told
  beside never same (Err why) asked =
      let fault = left why asked in
      faults why (record {
        later = λ first. fault.later (inner first);
        was_clean = fault.was_clean;
        was_open = fault.was_open;
        world = fault.world;
        failed = memory_alone why (failed old) (failed new) (sym (never (inner new)) ∙ fault.failed ∙ ap (failed_after why) (never (inner old))) same;
        seats = fault.seats;
      })

  -- the inner floor was asked
  pub asked_inside : ((floor : S) → f.failed floor ≡ false) → (between : S) → between ≡ inner old → failed new ≡ failed old → (result : Result A Fault)
      → Asks f between (inner new) result says → Asks (facts_beside inner failed f) old new result says
  asked_inside never between at same result asked = beside never same result (subst (λ floor. Asks f floor (inner new) result says) at asked)

-- the store has failed, and the inner floor was not asked
module _ {S T : Type 0} (inner : T → S) (failed : T → Bool) (f : Facts S) (old new : T) where
  pub failed_outside : inner new ≡ inner old → failed new ≡ true
      → (start : T) → Kept (facts_beside inner failed f) start old → IsFaulted (facts_beside inner failed f) start new Storage
  failed_outside same has =
      faults Storage (record {
        later = λ first. subst (f.is_later (inner first)) (sym same);
        was_clean = subst f.is_clean same;
        was_open = λ clean. subst f.is_open same;
        world = λ clean is_open. ap f.world same;
        failed = has;
        seats = ap f.seats same;
      })
