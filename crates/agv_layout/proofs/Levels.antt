-- Distances level by level, over any steps: what holds up to a level holds up to the next, and at an empty level of all.
use Rattle.std.proofs.Common.{◌≡◌, ⊎_elim, ℕ, zero, suc, ◌≤◌, ◌<◌, Bool, true, false, cond, not, ◌&&◌, is_some, Option, Some, None, refl, sym, ap, subst, ◌∙◌, true≢false, arith}
use Rattle.std.proofs.lemmas.Bool.{cases_lt}
use Rattle.std.specs.Option.{option_or, unwrap_or}
use Rattle.agv_layout.specs.Levels as levels

module _ {K : Type 0} (Step : K → K → Type 0) (goal : K) where
  abbrev Ways : ℕ → K → Type 0
  Ways = levels.Ways Step goal

  abbrev AreDistances : (K → Option ℕ) → Type 0
  AreDistances = levels.AreDistances Step goal

  -- each distance is that of a way, and at most so great; each way of at most so many steps is known by a distance
  pub record IsUpTo (far : ℕ) (distance : K → Option ℕ) : Type 0 where
    pub sound : (v : K) (k : ℕ) → distance v ≡ Some k → (k ≤ far) × Ways k v
    pub full : (v : K) (j : ℕ) → Ways j v → j ≤ far → (k : ℕ) × (distance v ≡ Some k) × (k ≤ j)

  -- these are the nodes of that distance
  pub record IsLevel (far : ℕ) (distance : K → Option ℕ) (level : K → Bool) : Type 0 where
    pub has : (v : K) → distance v ≡ Some far → level v ≡ true
    pub is : (v : K) → level v ≡ true → distance v ≡ Some far

  -- these are the nodes that are one step from a level
  pub record IsOneFrom (level : K → Bool) (one : K → Bool) : Type 0 where
    pub has : (v next : K) → level next ≡ true → Step v next → one v ≡ true
    pub is : (v : K) → one v ≡ true → (next : K) × (level next ≡ true) × Step v next

  same_Some : (a b : ℕ) → Some a ≡ Some b → a ≡ b
  same_Some a b e = ap (λ o. unwrap_or o a) e

  module _ (distance : K → Option ℕ) (at_goal : K → Bool) (same : (v : K) → at_goal v ≡ true → goal ≡ v) (itself : at_goal goal ≡ true) (begins : (v : K) → distance v ≡ cond (at_goal v) (Some 0) None) where
    sound_start : (v : K) (k : ℕ) (here : Bool) → at_goal v ≡ here → cond here (Some 0) None ≡ Some k → (k ≤ 0) × Ways k v
    sound_start v k true e g = subst (λ n. (n ≤ 0) × Ways n v) (same_Some 0 k g) (omega arith, sym (same v e))
    sound_start v k false e g = cc

    at_start : distance goal ≡ Some 0
    at_start = begins goal ∙ ap (λ b. cond b (Some 0) None) itself

    full_start : (v : K) (j : ℕ) → Ways j v → j ≤ 0 → (k : ℕ) × (distance v ≡ Some k) × (k ≤ j)
    full_start v zero way fits = (0, ap distance way ∙ at_start, omega arith)
    full_start v (suc j) way fits = absurd (omega (arith, fits))

    -- only the goal is no step away
    pub IsUpTo-start : IsUpTo 0 distance
    IsUpTo-start = record { sound = λ v k e. sound_start v k (at_goal v) refl (sym (begins v) ∙ e); full = full_start }

    has_start : (here : Bool) → cond {A = Option ℕ} here (Some 0) None ≡ Some 0 → here ≡ true
    has_start true e = refl
    has_start false e = cc

    pub IsLevel-start : (level : K → Bool) → ((v : K) → level v ≡ at_goal v) → IsLevel 0 distance level
    IsLevel-start level is = record { has = λ v e. is v ∙ has_start (at_goal v) (sym (begins v) ∙ e); is = λ v e. begins v ∙ ap (λ b. cond b (Some 0) None) (sym (is v) ∙ e) }

  module _ (far : ℕ) (old new : K → Option ℕ) (level one : K → Bool) (up : IsUpTo far old) (at : IsLevel far old level) (from : IsOneFrom level one) (next : (v : K) → new v ≡ option_or (old v) (cond (one v) (Some (suc far)) None)) where
    sound_next : (v : K) (k : ℕ) (was : Option ℕ) (is_one : Bool) → old v ≡ was → one v ≡ is_one → option_or was (cond is_one (Some (suc far)) None) ≡ Some k → (k ≤ suc far) × Ways k v
    sound_next v k (Some n) is_one o e g =
        let known = up.sound v k (o ∙ g) in
        (omega (arith, known.0), known.1)
    sound_next v k None true o e g =
        let found = from.is v e in
        subst (λ n. (n ≤ suc far) × Ways n v) (same_Some (suc far) k g) (omega arith, (found.0, found.2, (up.sound found.0 far (at.is found.0 found.1)).1))
    sound_next v k None false o e g = cc

    kept : (v : K) (k : ℕ) → old v ≡ Some k → new v ≡ Some k
    kept v k e = next v ∙ ap (λ o. option_or o (cond (one v) (Some (suc far)) None)) e

    -- one step from the level, a distance is known
    known_one : (v : K) (was : Option ℕ) → old v ≡ was → one v ≡ true → (k : ℕ) × (new v ≡ Some k) × (k ≤ suc far)
    known_one v (Some n) o e = (n, kept v n o, omega (arith, (up.sound v n o).0))
    known_one v None o e =
        (suc far, next v ∙ ap (λ w. option_or w (cond (one v) (Some (suc far)) None)) o ∙ ap (λ b. option_or None (cond b (Some (suc far)) None)) e, omega arith)

    full_far : (v : K) → Ways (suc far) v → (k : ℕ) × (new v ≡ Some k) × (k ≤ suc far)
    full_far v way =
        let below = up.full way.0 far way.2 (omega arith) in
        ⊎_elim
        (λ (less : below.0 < far).
        let short = up.full v (suc below.0) (way.0, way.1, (up.sound way.0 below.0 below.1).1) (omega (arith, less)) in
        (short.0, kept v short.0 short.1, omega (arith, less, short.2)))
        (λ (more : far ≤ below.0).
        let same : below.0 ≡ far = omega (arith, more, below.2) in
        known_one v (old v) refl (from.has v way.0 (at.has way.0 (below.1 ∙ ap Some same)) way.1))
        (cases_lt below.0 far)

    full_next : (v : K) (j : ℕ) → Ways j v → j ≤ suc far → (k : ℕ) × (new v ≡ Some k) × (k ≤ j)
    full_next v j way fits =
        ⊎_elim
        (λ (less : j < suc far). let short = up.full v j way (omega (arith, less)) in (short.0, kept v short.0 short.1, short.2))
        (λ (more : suc far ≤ j). let same : suc far ≡ j = omega (arith, more, fits) in subst (λ n. (k : ℕ) × (new v ≡ Some k) × (k ≤ n)) same (full_far v (subst (λ n. Ways n v) (sym same) way)))
        (cases_lt j (suc far))

    IsUpTo_next : IsUpTo (suc far) new
    IsUpTo_next = record { sound = λ v k e. sound_next v k (old v) (one v) refl refl (sym (next v) ∙ e); full = full_next }

    has_next : (v : K) (was : Option ℕ) (is_one : Bool) → old v ≡ was → option_or was (cond is_one (Some (suc far)) None) ≡ Some (suc far) → (not (is_some was) && is_one) ≡ true
    has_next v (Some n) is_one o g = absurd (omega (arith, same_Some n (suc far) g, (up.sound v n o).0))
    has_next v None true o g = refl
    has_next v None false o g = cc

    is_next : (was : Option ℕ) (is_one : Bool) → (not (is_some was) && is_one) ≡ true → option_or was (cond is_one (Some (suc far)) None) ≡ Some (suc far)
    is_next (Some n) is_one g = absurd (true≢false (sym g))
    is_next None true g = refl
    is_next None false g = absurd (true≢false (sym g))

    IsLevel_next : (found : K → Bool) → ((v : K) → found v ≡ (not (is_some (old v)) && one v)) → IsLevel (suc far) new found
    IsLevel_next found is = record {
      has = λ v e. is v ∙ has_next v (old v) (one v) refl (sym (next v) ∙ e);
      is = λ v e. next v ∙ is_next (old v) (one v) (sym (is v) ∙ e);
    }

  module _ (far more : ℕ) (one_more : more ≡ suc far) (old new : K → Option ℕ) (level one : K → Bool) (up : IsUpTo far old) (at : IsLevel far old level) (from : IsOneFrom level one) (next : (v : K) → new v ≡ option_or (old v) (cond (one v) (Some more) None)) where
    counted : (v : K) → new v ≡ option_or (old v) (cond (one v) (Some (suc far)) None)
    counted v = next v ∙ ap (λ n. option_or (old v) (cond (one v) (Some n) None)) one_more

    -- the distances are right one level farther
    pub IsUpTo-next : IsUpTo more new
    IsUpTo-next = subst (λ n. IsUpTo n new) (sym one_more) (IsUpTo_next far old new level one up at from counted)

    -- the nodes that were found are the next level
    pub IsLevel-next : (found : K → Bool) → ((v : K) → found v ≡ (not (is_some (old v)) && one v)) → IsLevel more new found
    IsLevel-next found is = subst (λ n. IsLevel n new found) (sym one_more) (IsLevel_next far old new level one up at from counted found is)

  module _ (far : ℕ) (distance : K → Option ℕ) (level : K → Bool) (up : IsUpTo far distance) (at : IsLevel far distance level) (empty : (v : K) → level v ≡ false) where
    full_all : (j : ℕ) (v : K) → Ways j v → (k : ℕ) × (distance v ≡ Some k) × (k ≤ j)
    full_all zero v way = up.full v zero way (omega arith)
    full_all (suc j) v way =
        let below = full_all j way.0 way.2 in
        let known = up.sound way.0 below.0 below.1 in
        ⊎_elim
        (λ (less : below.0 < far).
        let short = up.full v (suc below.0) (way.0, way.1, known.1) (omega (arith, less)) in
        (short.0, short.1, omega (arith, short.2, below.2)))
        (λ (more : far ≤ below.0).
        absurd (true≢false (sym (at.has way.0 (below.1 ∙ ap Some (omega (arith, more, known.0)))) ∙ empty way.0)))
        (cases_lt below.0 far)

    -- at an empty level nothing is left to find
    pub AreDistances-empty : AreDistances distance
    AreDistances-empty = record { sound = λ v k e. (up.sound v k e).1; full = λ v j way. full_all j v way }
