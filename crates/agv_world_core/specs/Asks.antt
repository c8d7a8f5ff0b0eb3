-- What a question to a floor answers, and what it leaves unchanged.
use Rattle.std.specs.Prelude.{◌≡◌, ℕ, Bool, true, Result, Ok, Err}
use Rattle.agv_world_core.specs.Worlds.{World}
use Rattle.agv_world_core.specs.declared.fault.Fault.{Fault}
use Rattle.agv_world_core.specs.declared.fault.Fault.TheVariants.{Memory, Storage}

-- what is known of a floor at a moment
pub record Facts (S : Type 0) : Type 1 where
  -- the world that the questions are about
  pub world : S → World
  -- so far no wrong answer of the store was taken for a right one
  pub is_clean : S → Type 0
  -- no fault has closed the floor
  pub is_open : S → Type 0
  -- the store has failed
  pub failed : S → Bool
  -- the largest capacity of a vehicle
  pub seats : S → ℕ
  -- the second moment is the first one, or comes after it with only questions between them
  pub is_later : S → S → Type 0

-- whether the store has failed after a fault: only `Storage` sets it
abbrev pub failed_after : Fault → Bool → Bool
failed_after Memory before = before
failed_after Storage before = true

-- whether the store has failed after the result of a question or a call: only the fault `Storage` changes it
abbrev pub failed_by : {A : Type 0} → Result A Fault → Bool → Bool
failed_by (Ok answer) before = before
failed_by (Err why) before = failed_after why before

module _ {S : Type 0} (f : Facts S) where
  -- every question between the two moments had an answer: what is true now was true at the start
  pub record Still (start now : S) : Type 0 where
    pub later : (first : S) → f.is_later first start → f.is_later first now
    pub was_clean : f.is_clean now → f.is_clean start
    pub was_open : f.is_clean now → f.is_open now → f.is_open start
    pub world : f.is_clean now → f.world now ≡ f.world start
    pub failed : f.failed now ≡ f.failed start
    pub seats : f.seats now ≡ f.seats start

  -- the last question between the two moments ended with a fault: the world is unchanged unless a fault has closed the floor
  pub record Faulted (start now : S) (why : Fault) : Type 0 where
    pub later : (first : S) → f.is_later first start → f.is_later first now
    pub was_clean : f.is_clean now → f.is_clean start
    pub was_open : f.is_clean now → f.is_open now → f.is_open start
    pub world : f.is_clean now → f.is_open now → f.world now ≡ f.world start
    pub failed : f.failed now ≡ failed_after why (f.failed start)
    pub seats : f.seats now ≡ f.seats start

  -- the two records, hidden from the proof search: a function that asks a dozen questions carries them from one to the next in one step each, by `kept` below; otherwise the search would follow six equations through the whole function
  unfoldable pub IsStill : S → S → Type 0
  IsStill start now = Still start now

  unfoldable pub IsFaulted : S → S → Fault → Type 0
  IsFaulted start now why = Faulted start now why

  -- each question since the start had an answer; and if memory runs out now, that is the first fault since then
  pub record Kept (start now : S) : Type 0 where
    pub still : IsStill start now
    pub spent : IsFaulted start now Memory

  -- a question has an answer; and if each question since some start had one, so has each since that start up to now
  pub record Answers (old new : S) (says : Type 0) : Type 0 where
    -- the answer is what the world says
    pub told : f.is_clean new → says
    pub was_clean : f.is_clean new → f.is_clean old
    pub world : f.is_clean new → f.world new ≡ f.world old
    pub kept : (start : S) → Kept start old → Kept start new
    -- if memory runs out before the next question, that is the first fault since the start
    pub spent : (start : S) → Kept start old → IsFaulted start new Memory

  -- a question has the answer that the world gives; or it ends with a fault, the first one since any start after which each question had an answer
  abbrev pub Asks : {A : Type 0} → S → S → Result A Fault → (World → A → Type 0) → Type 0
  Asks old new (Ok answer) says = Answers old new (says (f.world old) answer)
  Asks old new (Err why) says = (start : S) → Kept start old → IsFaulted start new why
