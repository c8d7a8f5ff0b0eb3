-- What is left of a table when a vehicle gives things up.
use Rattle.std.proofs.Common.{◌≡◌, Bool, true, false, cond, not, ◌||◌, ◌&&◌, inl, inr, List, [], ◌∷◌, ◌++◌, Some, None, Option, refl, sym, ap, ◌∙◌}
use Rattle.std.specs.FinMap.{get, remove, get-remove, get-retain_keys}
use Rattle.std.proofs.lemmas.Bool.{cases_Bool}
use Rattle.agv_header.specs.KeyOrder.{key_eq}
use Rattle.agv_header.specs.ThingOrder.{thing_eq, thing_cmp-total, thing_cmp-IsAntisymmetric}
use Rattle.agv_header.specs.declared.key.Thing.{Thing}
use Rattle.agv_header.specs.declared.key.VehicleKey.{VehicleKey}
use Rattle.agv_track_holds.specs.Holds.{Holds, is_in, is_own, sheds, shed_from}
use Rattle.agv_track_holds.proofs.Claims.{same_thing, same_holds, is_in-push}

kept_or_not : (b : Bool) (o : Option VehicleKey) → cond (not b) o None ≡ cond b None o
kept_or_not true o = refl
kept_or_not false o = refl

pub get-shed : (table : Holds) (key : VehicleKey) (old new : List Thing) (q : Thing)
    → get (shed_from table key old new) q ≡ cond (sheds key old new q (get table q)) None (get table q)
get-shed table key old new q =
    get-retain_keys table (λ thing. not (sheds key old new thing (get table thing))) q (λ x t. ap (λ thing. not (sheds key old new thing (get table thing))) (sym (thing_cmp-IsAntisymmetric q x t)))
    ∙ kept_or_not (sheds key old new q (get table q)) (get table q)

-- nothing old, nothing shed
none_shed : (own : Bool) (b : Bool) (o : Option VehicleKey) → cond (own && false && b) None o ≡ o
none_shed true b o = refl
none_shed false b o = refl

pub shed_none : (table : Holds) (key : VehicleKey) (new : List Thing) → shed_from table key [] new ≡ table
shed_none table key new = same_holds _ _ (λ q. get-shed table key [] new q ∙ none_shed (is_own key (get table q)) (not (is_in q new)) (get table q))

-- ---- one old thing more: where the vehicle has it and is not to keep it, nobody has it afterwards

-- at that thing
here_some : (key by : VehicleKey) (own among goes : Bool) → key_eq by key ≡ own
    → cond (own && true && goes) None (Some by) ≡ cond (is_own key (cond (own && among && goes) None (Some by)) && goes) None (cond (own && among && goes) None (Some by))
here_some key by true true true e = refl
here_some key by true true false e = ap (λ b. cond (b && false) None (Some by)) (sym e)
here_some key by true false true e = ap (λ b. cond (b && true) None (Some by)) (sym e)
here_some key by true false false e = ap (λ b. cond (b && false) None (Some by)) (sym e)
here_some key by false among goes e = ap (λ b. cond (b && goes) None (Some by)) (sym e)

here : (key : VehicleKey) (among goes : Bool) (o : Option VehicleKey)
    → cond (is_own key o && true && goes) None o ≡ cond (is_own key (cond (is_own key o && among && goes) None o) && goes) None (cond (is_own key o && among && goes) None o)
here key among goes None = refl
here key among goes (Some by) = here_some key by (key_eq by key) among goes refl

either_way : (b : Bool) (o : Option VehicleKey) → o ≡ cond b o o
either_way true o = refl
either_way false o = refl

get-cond : (b : Bool) (one other : Holds) (q : Thing) → get (cond b one other) q ≡ cond b (get one q) (get other q)
get-cond true one other q = refl
get-cond false one other q = refl

module _ (table : Holds) (key : VehicleKey) (xs new : List Thing) (x : Thing) where
  before : Holds
  before = shed_from table key xs new

  goes : Bool
  goes = is_own key (get before x) && not (is_in x new)

  after : Holds
  after = cond goes (remove before x) before

  at_it : (q : Thing) → thing_eq q x ≡ true → cond (is_own key (get table q) && (thing_eq q x || is_in q xs) && not (is_in q new)) None (get table q) ≡ get after q
  unfolding after goes before
  at_it q hit =
      ap (λ b. cond (is_own key (get table q) && (b || is_in q xs) && not (is_in q new)) None (get table q)) hit
      ∙ here key (is_in q xs) (not (is_in q new)) (get table q)
      ∙ ap (λ o. cond (is_own key o && not (is_in q new)) None o) (sym (get-shed table key xs new q))
      ∙ ap (λ y. cond (is_own key (get before y) && not (is_in y new)) None (get before q)) (same_thing q x hit)
      ∙ ap (λ b. cond goes (cond b None (get before q)) (get before q)) (sym hit)
      ∙ ap (λ o. cond goes o (get before q)) (sym (get-remove thing_cmp-total before x q))
      ∙ sym (get-cond goes (remove before x) before q)

  elsewhere : (q : Thing) → thing_eq q x ≡ false → cond (is_own key (get table q) && (thing_eq q x || is_in q xs) && not (is_in q new)) None (get table q) ≡ get after q
  unfolding after goes before
  elsewhere q miss =
      ap (λ b. cond (is_own key (get table q) && (b || is_in q xs) && not (is_in q new)) None (get table q)) miss
      ∙ sym (get-shed table key xs new q)
      ∙ either_way goes (get before q)
      ∙ ap (λ b. cond goes (cond b None (get before q)) (get before q)) (sym miss)
      ∙ ap (λ o. cond goes o (get before q)) (sym (get-remove thing_cmp-total before x q))
      ∙ sym (get-cond goes (remove before x) before q)

  pub shed_more : shed_from table key (xs ++ x ∷ []) new ≡ cond (is_own key (get (shed_from table key xs new) x) && not (is_in x new)) (remove (shed_from table key xs new) x) (shed_from table key xs new)
  unfolding after goes before
  shed_more =
      same_holds _ _ (λ q.
      get-shed table key (xs ++ x ∷ []) new q
      ∙ ap (λ b. cond (is_own key (get table q) && b && not (is_in q new)) None (get table q)) (is_in-push q xs x)
      ∙ elim (cases_Bool (thing_eq q x)) [ inl hit ↦ at_it q hit | inr miss ↦ elsewhere q miss ])

module _ (table now : Holds) (key : VehicleKey) (xs new : List Thing) (x : Thing) (so_far : now ≡ shed_from table key xs new) where
  as_it_goes : (b : Bool) → (is_own key (get now x) && not (is_in x new)) ≡ b → shed_from table key (xs ++ x ∷ []) new ≡ cond b (remove now x) now
  as_it_goes b e =
      shed_more table key xs new x
      ∙ ap (λ (t : Holds). cond (is_own key (get t x) && not (is_in x new)) (remove t x) t) (sym so_far)
      ∙ ap (λ c. cond c (remove now x) now) e

  -- the vehicle gives this thing up
  pub shed_this : (is_own key (get now x) && not (is_in x new)) ≡ true → remove now x ≡ shed_from table key (xs ++ x ∷ []) new
  shed_this e = sym (as_it_goes true e)

  -- it does not
  pub shed_not : (is_own key (get now x) && not (is_in x new)) ≡ false → now ≡ shed_from table key (xs ++ x ∷ []) new
  shed_not e = sym (as_it_goes false e)
