-- From a table that says just who needs what, to claim the new footprint and to shed what only the old one has gives such a table.
use Rattle.std.proofs.Common.{◌≡◌, ◌↔◌, Bool, true, false, cond, not, ◌&&◌, ◌⊎◌, inl, inr, List, [], ◌∷◌, Some, None, Option, refl, sym, ap, ◌∙◌}
use Rattle.std.specs.FinMap.{get, empty, get-empty}
use Rattle.std.proofs.lemmas.Bool.{false≢true, not-false}
use Rattle.std.proofs.lemmas.Map.Views.{any-filter_same}
use Rattle.std.proofs.lemmas.Option.{same_Some}
use Rattle.agv_header.specs.Key.{thing_cmp}
use Rattle.agv_header.specs.KeyOrder.{key_eq}
use Rattle.agv_header.specs.ThingOrder.{thing_eq}
use Rattle.agv_header.specs.declared.key.Thing.{Thing}
use Rattle.agv_header.specs.declared.key.VehicleKey.{VehicleKey}
use Rattle.agv_track_holds.specs.Holders.{Footprints, HoldsFootprints, with_footprint, gained}
use Rattle.agv_track_holds.specs.Holds.{Holds, is_in, is_own, other_holder, first_held, claimed, shed_from, or_further}
use Rattle.agv_track_holds.proofs.Claims.{same_thing, same_vehicle, vehicle_itself, same_holds, get-claimed, none_held, own_or_free}
use Rattle.agv_track_holds.proofs.Sheds.{get-shed}

-- what stands at a thing afterwards: o before, then claimed if it is in the new list, and then shed
after : VehicleKey → Bool → Bool → Option VehicleKey → Option VehicleKey
after key old new o = let now = cond new (Some key) o in cond (is_own key now && old && not new) None now

get-after : (table : Holds) (key : VehicleKey) (old next : List Thing) (q : Thing)
    → get (shed_from (claimed table key next) key old next) q ≡ after key (is_in q old) (is_in q next) (get table q)
unfolding after
get-after table key old next q =
    get-shed (claimed table key next) key old next q
    ∙ ap (λ o. cond (is_own key o && is_in q old && not (is_in q next)) None o) (get-claimed table key next q)

kept : (b : Bool) (o : Option VehicleKey) (by : VehicleKey) → cond b None o ≡ Some by → (b ≡ false) × (o ≡ Some by)
kept true o by h = cc
kept false o by h = (refl, h)

never : (a b : Bool) → (a && b && false) ≡ false
never true true = refl
never true false = refl
never false b = refl

apart : (key by : VehicleKey) → key_eq by key ≡ false → key ≡ by → ⊥
apart key by e same = false≢true (sym e ∙ ap (λ v. key_eq v key) (sym same) ∙ vehicle_itself key)

-- at one thing: o is its holder before, and `among by` says whether it is in the footprint of `by`
module _ (key : VehicleKey) (among : VehicleKey → Bool) (o : Option VehicleKey) (is : (by : VehicleKey) → (o ≡ Some by) ↔ (among by ≡ true)) where
  claimed_now : after key (among key) true o ≡ Some key
  unfolding after
  claimed_now = ap (λ b. cond b None (Some key)) (never (is_own key (Some key)) (among key))

  own_gone : o ≡ Some key → (is_own key o && among key && true) ≡ true
  own_gone e =
      ap (λ p. is_own key p && among key && true) e
      ∙ ap (λ b. b && among key && true) (vehicle_itself key)
      ∙ ap (λ b. b && true) ((is key).0 e)

  other_stays : (by : VehicleKey) → key_eq by key ≡ false → o ≡ Some by → (is_own key o && among key && true) ≡ false
  other_stays by differs e = ap (λ p. is_own key p && among key && true) e ∙ ap (λ b. b && among key && true) differs

  -- the thing is in the new list, and no other vehicle holds it
  in_new : (o ≡ None) ⊎ (o ≡ Some key) → (by : VehicleKey) (same : Bool) → key_eq by key ≡ same
      → (after key (among key) true o ≡ Some by) ↔ (cond same true (among by) ≡ true)
  in_new free by true e = (λ _. refl, λ _. claimed_now ∙ ap Some (sym (same_vehicle by key e)))
  in_new free by false e = (
    λ h. let one : key ≡ by = cc (claimed_now, h) in absurd (apart key by e one),
    λ h. let held : o ≡ Some by = (is by).1 h in elim free [
      | inl none ↦ cc
      | inr own ↦ let one : key ≡ by = cc in absurd (apart key by e one)
    ],
  )

  -- it is not in the new list
  not_in_new : (by : VehicleKey) (same : Bool) → key_eq by key ≡ same
      → (after key (among key) false o ≡ Some by) ↔ (cond same false (among by) ≡ true)
  unfolding after
  not_in_new by true e = (
    λ h. let parts = kept _ o by h in
        absurd (false≢true (sym parts.0 ∙ own_gone (parts.1 ∙ ap Some (same_vehicle by key e)))),
    λ h. absurd (false≢true h),
  )
  not_in_new by false e = (
    λ h. (is by).0 (kept _ o by h).1,
    λ h. let held = (is by).1 h in ap (λ b. cond b None o) (other_stays by e held) ∙ held,
  )

  at_thing : (new : Bool) → (new ≡ true → (o ≡ None) ⊎ (o ≡ Some key)) → (by : VehicleKey)
      → (after key (among key) new o ≡ Some by) ↔ (cond (key_eq by key) new (among by) ≡ true)
  at_thing true free by = in_new (free refl) by (key_eq by key) refl
  at_thing false free by = not_in_new by (key_eq by key) refl

is_in-cond : (b : Bool) (q : Thing) (one other : List Thing) → cond b (is_in q one) (is_in q other) ≡ is_in q (cond b one other)
is_in-cond true q one other = refl
is_in-cond false q one other = refl

pub holders_move : (table : Holds) (footprint_of : Footprints) (key : VehicleKey) (next : List Thing)
    → HoldsFootprints table footprint_of → first_held table key next ≡ None
    → HoldsFootprints (shed_from (claimed table key next) key (footprint_of key) next) (with_footprint footprint_of key next)
holders_move table footprint_of key next held none q by =
    let is = at_thing key (λ v. is_in q (footprint_of v)) (get table q) (held q) (is_in q next) (λ among. own_or_free key (get table q) (none_held table key next none q among)) by in
    let now = get-after table key (footprint_of key) next q in
    let there = is_in-cond (key_eq by key) q next (footprint_of by) in
    (λ h. sym there ∙ is.0 (sym now ∙ h), λ h. now ∙ is.1 (there ∙ h))

-- ---- what it gains

is_in-gained : (old next : List Thing) (q : Thing) → is_in q (gained old next) ≡ (not (is_in q old) && is_in q next)
is_in-gained old next q =
    any-filter_same (thing_eq q) (λ thing. not (is_in thing old)) (not (is_in q old)) (λ k e. ap (λ thing. not (is_in thing old)) (sym (same_thing q k e))) next

as_claimed : (key : VehicleKey) (old new : Bool) (o : Option VehicleKey) → (old ≡ true → o ≡ Some key) → cond (not old && new) (Some key) o ≡ cond new (Some key) o
as_claimed key true true o own = own refl
as_claimed key true false o own = refl
as_claimed key false new o own = refl

pub gains_are_all : (table : Holds) (footprint_of : Footprints) (key : VehicleKey) (next : List Thing) → HoldsFootprints table footprint_of
    → claimed table key (gained (footprint_of key) next) ≡ claimed table key next
gains_are_all table footprint_of key next held =
    same_holds _ _ (λ q.
    get-claimed table key (gained (footprint_of key) next) q
    ∙ ap (λ b. cond b (Some key) (get table q)) (is_in-gained (footprint_of key) next q)
    ∙ as_claimed key (is_in q (footprint_of key)) (is_in q next) (get table q) (held q key).1
    ∙ sym (get-claimed table key next q))

own_passes : (key : VehicleKey) (o : Option VehicleKey) → o ≡ Some key → other_holder key o ≡ None
own_passes key o e = ap (other_holder key) e ∙ ap (λ b. cond b None (Some key)) (vehicle_itself key)

first_cond : (table : Holds) (key : VehicleKey) (b : Bool) (x : Thing) (xs ys : List Thing) → first_held table key xs ≡ first_held table key ys
    → (b ≡ false → other_holder key (get table x) ≡ None) → first_held table key (cond b (x ∷ xs) xs) ≡ first_held table key (x ∷ ys)
first_cond table key true x xs ys same own = ap (or_further x (other_holder key (get table x))) same
first_cond table key false x xs ys same own = same ∙ sym (ap (λ o. or_further x o (first_held table key ys)) (own refl))

pub gains_are_first : (table : Holds) (footprint_of : Footprints) (key : VehicleKey) (next : List Thing) → HoldsFootprints table footprint_of
    → first_held table key (gained (footprint_of key) next) ≡ first_held table key next
gains_are_first table footprint_of key [] held = refl
gains_are_first table footprint_of key (x ∷ xs) held =
    first_cond table key (not (is_in x (footprint_of key))) x (gained (footprint_of key) xs) xs (gains_are_first table footprint_of key xs held)
    (λ e. own_passes key (get table x) ((held x key).1 (not-false (is_in x (footprint_of key)) e)))

-- ---- one table

pub one_needs : (table : Holds) (footprint_of : Footprints) → HoldsFootprints table footprint_of
    → (q : Thing) (one other : VehicleKey) → is_in q (footprint_of one) ≡ true → is_in q (footprint_of other) ≡ true → one ≡ other
one_needs table footprint_of held q one other a b = same_Some one other (sym ((held q one).1 a) ∙ (held q other).1 b)

alike : (o p : Option VehicleKey) → ((by : VehicleKey) → o ≡ Some by → p ≡ Some by) → ((by : VehicleKey) → p ≡ Some by → o ≡ Some by) → o ≡ p
alike (Some a) p there back = sym (there a refl)
alike None None there back = refl
alike None (Some b) there back = back b refl

pub one_table : (footprint_of : Footprints) (table other : Holds) → HoldsFootprints table footprint_of → HoldsFootprints other footprint_of → table ≡ other
one_table footprint_of table other held also =
    same_holds _ _ (λ q. alike (get table q) (get other q) (λ by e. (also q by).1 ((held q by).0 e)) (λ by e. (held q by).1 ((also q by).0 e)))

pub none_held_at_first : HoldsFootprints empty (λ key. [])
none_held_at_first q by = (λ h. cc (get-empty {X = VehicleKey} thing_cmp q, h), λ h. absurd (false≢true h))
