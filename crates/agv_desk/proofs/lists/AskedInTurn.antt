-- Questions to a floor that are asked one after the other.
use Rattle.std.proofs.Common.{◌∙◌, Result, Ok, Err}
use Rattle.agv_world_core.specs.Asks.{Facts, Answers, Asks}
use Rattle.agv_world_core.specs.Worlds.{World}
use Rattle.agv_world_core.specs.declared.fault.Fault.{Fault}

module _ {S : Type 0} {f : Facts S} {old now new : S} {one two : Type 0} where
  -- one more is answered
  pub asked_next : Answers f old now one → Answers f now new two → Answers f old new two
  asked_next first next = record {
    told = next.told;
    was_clean = λ clean. first.was_clean (next.was_clean clean);
    world = λ clean. next.world clean ∙ first.world (next.was_clean clean);
    kept = λ start kept. next.kept start (first.kept start kept);
    spent = λ start kept. next.spent start (first.kept start kept);
  }

module _ {S : Type 0} {f : Facts S} {old new : S} {one says : Type 0} where
  -- what was answered says this too
  pub says_so : Answers f old new one → (f.is_clean new → says) → Answers f old new says
  says_so asked said = record { told = said; was_clean = asked.was_clean; world = asked.world; kept = asked.kept; spent = asked.spent }

module _ {S A : Type 0} (f : Facts S) (old now new : S) where
  -- the answer to the last question is what is answered
  pub answers_last : {one : Type 0} (result : Result A Fault) (says other : World → A → Type 0) → Answers f old now one
      → ((answer : A) → f.is_clean now → says (f.world now) answer → other (f.world old) answer) → Asks f now new result says → Asks f old new result other
  answers_last (Ok answer) says other before more asked = says_so (asked_next before asked) (λ clean. more answer (asked.was_clean clean) (asked.told clean))
  answers_last (Err why) says other before more asked = λ start kept. asked start (before.kept start kept)
