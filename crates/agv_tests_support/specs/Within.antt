-- The facts of a floor that asks another one.
use Rattle.std.specs.Prelude.{Bool}
use Rattle.agv_world_core.specs.Asks.{Facts}

-- the facts of the inner floor, except for failures of the store, which the outer floor notes itself
abbrev pub facts_beside : {S T : Type 0} → (T → S) → (T → Bool) → Facts S → Facts T
facts_beside inner failed facts = record {
  world = λ floor. facts.world (inner floor);
  is_clean = λ floor. facts.is_clean (inner floor);
  is_open = λ floor. facts.is_open (inner floor);
  failed = failed;
  seats = λ floor. facts.seats (inner floor);
  is_later = λ first now. facts.is_later (inner first) (inner now);
}
