-- A test of all elements of a list is a test of each, and a test of some of one.
use Rattle.std.proofs.Common.{◌≡◌, ℕ, zero, suc, Bool, true, List, [], ◌∷◌, Contains, Some, refl, ap, ◌∙◌}
use Rattle.std.specs.List.{list_all, list_any, slice_get}
use Rattle.std.proofs.lemmas.Bool.{and_from, or_left, or_right}
use Rattle.agv_world_core.proofs.lawful_worlds.ActPlaces.{all_at, among, any_at, place_of}
use Rattle.agv_world_core.proofs.lists.Entries.{no_more, same_Some}

module _ {X : Type 0} (test : X → Bool) where
  -- ---- all
  pub each_passes : (xs : List X) → list_all test xs ≡ true → (x : X) → Contains xs x → test x ≡ true
  each_passes xs all x has = let at = place_of xs x has in all_at test xs all at.0 x at.1

  all_with : (xs : List X) → ((k : ℕ) (x : X) → slice_get xs k ≡ Some x → test x ≡ true) → list_all test xs ≡ true
  all_with [] each = refl
  all_with (x ∷ xs) each = and_from (test x) (list_all test xs) (each 0 x refl) (all_with xs (λ k y at. each (suc k) y at))

  pub all_pass : (xs : List X) → ((x : X) → Contains xs x → test x ≡ true) → list_all test xs ≡ true
  all_pass xs each = all_with xs (λ k x at. each x (among xs k x at))

  -- ---- any
  pub some_passes : (xs : List X) → list_any test xs ≡ true → (x : X) × Contains xs x × (test x ≡ true)
  some_passes xs any = let at = any_at test xs any in (at.1, among xs at.0 at.1 at.2, at.3)

  any_with : (xs : List X) (k : ℕ) (x : X) → slice_get xs k ≡ Some x → test x ≡ true → list_any test xs ≡ true
  any_with [] k x at is = absurd (no_more x at)
  any_with (y ∷ ys) zero x at is = or_left (test y) (list_any test ys) (ap test (same_Some y x at) ∙ is)
  any_with (y ∷ ys) (suc k) x at is = or_right (test y) (list_any test ys) (any_with ys k x at is)

  pub any_passes : (xs : List X) (x : X) → Contains xs x → test x ≡ true → list_any test xs ≡ true
  any_passes xs x has is = let at = place_of xs x has in any_with xs at.0 x at.1 is
