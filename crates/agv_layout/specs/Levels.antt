-- The least number of steps to a goal, for any relation of steps. No public clause cites this.
use Rattle.std.specs.Prelude.{◌≡◌, ℕ, zero, suc, ◌≤◌, Option, Some}

module _ {K : Type 0} (Step : K → K → Type 0) (goal : K) where
  -- a walk of this many steps leads to the goal
  abbrev pub Ways : ℕ → K → Type 0
  Ways zero start = start ≡ goal
  Ways (suc n) start = (next : K) × Step start next × Ways n next

  -- the distances are those of shortest walks: each distance is the length of a walk, and the start of each walk has a distance, which is at most the walk's length
  pub record AreDistances (distance : K → Option ℕ) : Type 0 where
    pub sound : (v : K) (k : ℕ) → distance v ≡ Some k → Ways k v
    pub full : (v : K) (j : ℕ) → Ways j v → (k : ℕ) × (distance v ≡ Some k) × (k ≤ j)
