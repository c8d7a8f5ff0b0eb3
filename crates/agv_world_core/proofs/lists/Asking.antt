-- Questions to a floor, one after the other.
use Rattle.std.proofs.Common.{◌≡◌, refl, ◌∙◌, ap, Result, Ok, Err}
use Rattle.agv_world_core.specs.Worlds.{World}
use Rattle.agv_world_core.specs.declared.fault.Fault.{Fault}
use Rattle.agv_world_core.specs.declared.fault.Fault.TheVariants.{Memory}
use Rattle.agv_world_core.specs.Asks.{Facts, Still, Faulted, IsStill, IsFaulted, Kept, Answers, Asks, failed_after}

module _ {S : Type 0} {f : Facts S} where
  -- a fault that leaves all as it was
  pub fault_after : {start now : S} (why : Fault) → f.failed now ≡ failed_after why (f.failed start) → Still f start now → Faulted f start now why
  fault_after why failed still = record {
    later = still.later;
    was_clean = still.was_clean;
    was_open = still.was_open;
    world = λ clean is_open. still.world clean;
    failed = failed;
    seats = still.seats;
  }

  still_then : {start old new : S} → Still f start old → Still f old new → Still f start new
  still_then one two = record {
    later = λ first is_later. two.later first (one.later first is_later);
    was_clean = λ clean. one.was_clean (two.was_clean clean);
    was_open = λ clean is_open. one.was_open (two.was_clean clean) (two.was_open clean is_open);
    world = λ clean. two.world clean ∙ one.world (two.was_clean clean);
    failed = two.failed ∙ one.failed;
    seats = two.seats ∙ one.seats;
  }

  faulted_then : {start old new : S} (why : Fault) → Still f start old → Faulted f old new why → Faulted f start new why
  faulted_then why one two = record {
    later = λ first is_later. two.later first (one.later first is_later);
    was_clean = λ clean. one.was_clean (two.was_clean clean);
    was_open = λ clean is_open. one.was_open (two.was_clean clean) (two.was_open clean is_open);
    world = λ clean is_open. two.world clean is_open ∙ one.world (two.was_clean clean);
    failed = two.failed ∙ ap (failed_after why) one.failed;
    seats = two.seats ∙ one.seats;
  }

  -- at one moment
  pub still_here : {now : S} → Still f now now
  still_here = record { later = λ first is_later. is_later; was_clean = λ clean. clean; was_open = λ clean is_open. is_open; world = λ clean. refl; failed = refl; seats = refl }

  -- what is carried on from what is known
  pub kept_of : {start now : S} → Still f start now → Kept f start now
  unfolding IsStill IsFaulted
  kept_of still = record { still = still; spent = fault_after Memory still.failed still }

  pub kept_here : {now : S} → Kept f now now
  kept_here = kept_of still_here

  -- for a floor: an answer, and a fault
  pub answers : {old new : S} {says : Type 0} → Still f old new → (f.is_clean new → says) → Answers f old new says
  unfolding IsStill IsFaulted
  answers still told = record {
    told = told;
    was_clean = still.was_clean;
    world = still.world;
    kept = λ start kept. kept_of (still_then kept.still still);
    spent = λ start kept. (kept_of (still_then kept.still still)).spent;
  }

  pub faults : {old new : S} (why : Fault) → Faulted f old new why → (start : S) → Kept f start old → IsFaulted f start new why
  unfolding IsStill IsFaulted
  faults why faulted start kept = faulted_then why kept.still faulted

  -- for who asks: what an answer leaves, and what a fault leaves
  pub stays : {old new : S} {says : Type 0} → Answers f old new says → Still f old new
  unfolding IsStill
  stays {old} asked = (asked.kept old kept_here).still

  pub left : {old new : S} (why : Fault) → ((start : S) → Kept f start old → IsFaulted f start new why) → Faulted f old new why
  unfolding IsFaulted
  left {old} why asked = asked old kept_here

  -- an answer that says the same in other words
  pub retold : {old new : S} {says other : Type 0} → (says → other) → Answers f old new says → Answers f old new other
  retold more asked = record { told = λ clean. more (asked.told clean); was_clean = asked.was_clean; world = asked.world; kept = asked.kept; spent = asked.spent }

module _ {S A : Type 0} (f : Facts S) (old new : S) where
  -- a question whose answer says the same in other words
  pub asked_as : (result : Result A Fault) (says other : World → A → Type 0)
      → ((answer : A) → says (f.world old) answer → other (f.world old) answer) → Asks f old new result says → Asks f old new result other
  asked_as (Ok answer) says other more asked = retold (more answer) asked
  asked_as (Err why) says other more asked = asked
