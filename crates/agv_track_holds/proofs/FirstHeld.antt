-- The first thing that another vehicle holds, in words of lists.
use Rattle.std.proofs.Common.{◌≡◌, ◌↔◌, Bool, true, false, cond, ◌⊎◌, inl, inr, List, [], ◌∷◌, ◌++◌, Some, None, Option, refl, sym, ap, subst, ◌∙◌}
use Rattle.std.specs.FinMap.{get}
use Rattle.std.proofs.lemmas.Bool.{or_cases, or_left, or_right, false≢true, false_from_ne_true}
use Rattle.std.proofs.lemmas.Option.{some_pair_parts}
use Rattle.agv_header.specs.KeyOrder.{key_eq}
use Rattle.agv_header.specs.ThingOrder.{thing_eq}
use Rattle.agv_header.specs.declared.key.Thing.{Thing}
use Rattle.agv_header.specs.declared.key.VehicleKey.{VehicleKey}
use Rattle.agv_track_holds.specs.Holds.{Holds, is_in, other_holder, or_further, first_held, IsOpenTo, IsFirstHeld}
use Rattle.agv_track_holds.proofs.Claims.{same_thing, same_vehicle, vehicle_itself, thing_itself, none_held, own_or_free}

-- ---- one holder

other_from : (b : Bool) (key by who : VehicleKey) → key_eq by key ≡ b → cond b None (Some by) ≡ Some who → (by ≡ who) × (¬ (by ≡ key))
other_from true key by who e h = cc
other_from false key by who e h = (cc, λ same. false≢true (sym e ∙ ap (λ v. key_eq v key) same ∙ vehicle_itself key))

other : (key : VehicleKey) (o : Option VehicleKey) (by : VehicleKey) → other_holder key o ≡ Some by → (o ≡ Some by) × (¬ (by ≡ key))
other key None by h = cc
other key (Some who) by h =
    let parts = other_from (key_eq who key) key who by refl h in
    (ap Some parts.0, λ same. parts.1 (parts.0 ∙ same))

no_other : (key : VehicleKey) (o : Option VehicleKey) → (o ≡ None) ⊎ (o ≡ Some key) → other_holder key o ≡ None
no_other key o (inl e) = ap (other_holder key) e
no_other key o (inr e) = ap (other_holder key) e ∙ ap (λ b. cond b None (Some key)) (vehicle_itself key)

an_other : (key by : VehicleKey) (o : Option VehicleKey) → o ≡ Some by → (¬ (by ≡ key)) → other_holder key o ≡ Some by
an_other key by o e apart =
    ap (other_holder key) e
    ∙ ap (λ b. cond b None (Some by)) (false_from_ne_true (key_eq by key) (λ same. apart (same_vehicle by key same)))

module _ (table : Holds) (key : VehicleKey) where
  -- ---- no other vehicle holds any

  open_from : (xs : List Thing) → IsOpenTo table key xs → first_held table key xs ≡ None
  open_from [] h = refl
  open_from (x ∷ xs) h =
      ap (λ o. or_further x o (first_held table key xs)) (no_other key (get table x) (h x (or_left (thing_eq x x) (is_in x xs) (thing_itself x))))
      ∙ open_from xs (λ q among. h q (or_right (thing_eq q x) (is_in q xs) among))

  pub none_is_open : (xs : List Thing) → (first_held table key xs ≡ None) ↔ IsOpenTo table key xs
  none_is_open xs = (λ none q among. own_or_free key (get table q) (none_held table key xs none q among), open_from xs)

  open_more : (x : Thing) (xs : List Thing) → other_holder key (get table x) ≡ None → IsOpenTo table key xs → IsOpenTo table key (x ∷ xs)
  open_more x xs none h q among =
      elim (or_cases (thing_eq q x) (is_in q xs) among) [
        | inl here ↦ own_or_free key (get table q) (ap (λ y. other_holder key (get table y)) (same_thing q x here) ∙ none)
        | inr further ↦ h q further
      ]

  -- ---- the first one

  first_from : (before after : List Thing) (what : Thing) (by : VehicleKey) → get table what ≡ Some by → (¬ (by ≡ key)) → IsOpenTo table key before
      → first_held table key (before ++ what ∷ after) ≡ Some (what, by)
  first_from [] after what by at apart h = ap (λ o. or_further what o (first_held table key after)) (an_other key by (get table what) at apart)
  first_from (x ∷ before) after what by at apart h =
      ap (λ o. or_further x o (first_held table key (before ++ what ∷ after))) (no_other key (get table x) (h x (or_left (thing_eq x x) (is_in x before) (thing_itself x))))
      ∙ first_from before after what by at apart (λ q among. h q (or_right (thing_eq q x) (is_in q before) among))

  first_step : (x : Thing) (xs : List Thing) (o : Option VehicleKey) (what : Thing) (by : VehicleKey) → other_holder key (get table x) ≡ o
      → (first_held table key xs ≡ Some (what, by) → IsFirstHeld table key xs what by)
      → or_further x o (first_held table key xs) ≡ Some (what, by) → IsFirstHeld table key (x ∷ xs) what by
  first_step x xs None what by e further h =
      let f = further h in
      (x ∷ f.0, f.1, ap (λ l. x ∷ l) f.2, f.3, f.4, open_more x f.0 e f.5)
  first_step x xs (Some who) what by e further h =
      let pair = some_pair_parts x what who by h in
      let parts = other key (get table x) by (e ∙ ap Some pair.1) in
      ([], xs, ap (λ y. y ∷ xs) pair.0, subst (λ y. get table y ≡ Some by) pair.0 parts.0, parts.1, λ q among. absurd (false≢true among))

  first_is : (xs : List Thing) (what : Thing) (by : VehicleKey) → first_held table key xs ≡ Some (what, by) → IsFirstHeld table key xs what by
  first_is [] what by h = cc
  first_is (x ∷ xs) what by h = first_step x xs (other_holder key (get table x)) what by refl (first_is xs what by) h

  pub first_is_first : (xs : List Thing) (what : Thing) (by : VehicleKey) → (first_held table key xs ≡ Some (what, by)) ↔ IsFirstHeld table key xs what by
  first_is_first xs what by =
      (first_is xs what by, λ h. ap (first_held table key) h.2 ∙ first_from h.0 h.1 what by h.3 h.4 h.5)
