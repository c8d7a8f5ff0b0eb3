-- What a claim leaves at each thing, and what it means that nobody else holds any of a list.
use Rattle.std.proofs.Common.{◌≡◌, ℕ, zero, suc, Bool, true, false, cond, ◌||◌, ◌&&◌, ◌⊎◌, inl, inr, List, [], ◌∷◌, ◌++◌, take, Some, None, Option, Result, Ok, Err, OnErr, refl, sym, ap, subst, ◌∙◌}
use Rattle.std.specs.Cmp.{eq_by_cmp_equiv}
use Rattle.std.specs.FinMap.{get, insert, remove, get-insert, get-remove, same_map}
use Rattle.std.specs.List.{list_any}
use Rattle.std.specs.Option.{is_none}
use Rattle.std.proofs.lemmas.Bool.{or_cases, or_parts}
use Rattle.std.proofs.lemmas.List.Folds.{list_any-append}
use Rattle.std.proofs.lemmas.Map.Views.{tells_apart, any-filter_same}
use Rattle.agv_header.specs.KeyOrder.{key_eq, key_cmp-total, key_cmp-IsAntisymmetric, key_cmp-ties}
use Rattle.agv_header.specs.ThingOrder.{thing_eq, thing_cmp-total, thing_cmp-IsAntisymmetric}
use Rattle.agv_header.specs.declared.key.Thing.{Thing}
use Rattle.agv_header.specs.declared.key.VehicleKey.{VehicleKey}
use Rattle.agv_track_holds.specs.Holds.{Holds, is_in, other_holder, or_further, first_held, unheld_of, claimed}

-- ---- things and vehicles that are the same

pub same_thing : (a b : Thing) → thing_eq a b ≡ true → a ≡ b
same_thing = tells_apart thing_cmp-IsAntisymmetric

pub thing_itself : (a : Thing) → thing_eq a a ≡ true
thing_itself a = (eq_by_cmp_equiv thing_cmp-total).refl a

pub same_vehicle : (a b : VehicleKey) → key_eq a b ≡ true → a ≡ b
same_vehicle a b e = tells_apart key_cmp-IsAntisymmetric a b (sym (key_cmp-ties a b) ∙ e)

pub vehicle_itself : (a : VehicleKey) → key_eq a a ≡ true
vehicle_itself a = key_cmp-ties a a ∙ (eq_by_cmp_equiv key_cmp-total).refl a

-- two tables that answer alike are one
pub same_holds : (one other : Holds) → ((q : Thing) → get one q ≡ get other q) → one ≡ other
same_holds = same_map thing_cmp-total thing_cmp-IsAntisymmetric

-- a thing is in a list as `contains` says it
pub is_in-turned : (x : Thing) (xs : List Thing) → list_any (λ y. thing_eq y x) xs ≡ is_in x xs
is_in-turned x [] = refl
is_in-turned x (y ∷ ys) =
    ap (λ b. b || list_any (λ z. thing_eq z x) ys) ((eq_by_cmp_equiv thing_cmp-total).symm y x)
    ∙ ap (λ b. thing_eq x y || b) (is_in-turned x ys)

-- ---- what is claimed

either : {A : Type 0} (b c : Bool) (x y : A) → cond b x (cond c x y) ≡ cond (b || c) x y
either true c x y = refl
either false c x y = refl

pub get-claimed : (table : Holds) (key : VehicleKey) (things : List Thing) (q : Thing) → get (claimed table key things) q ≡ cond (is_in q things) (Some key) (get table q)
get-claimed table key [] q = refl
get-claimed table key (x ∷ xs) q =
    get-insert thing_cmp-total (claimed table key xs) x key q
    ∙ ap (cond (thing_eq q x) (Some key)) (get-claimed table key xs q)
    ∙ either (thing_eq q x) (is_in q xs) (Some key) (get table q)

turned : (a b : Bool) → (a || (b || false)) ≡ (b || a)
turned true true = refl
turned true false = refl
turned false true = refl
turned false false = refl

pub is_in-push : (q : Thing) (xs : List Thing) (x : Thing) → is_in q (xs ++ x ∷ []) ≡ (thing_eq q x || is_in q xs)
is_in-push q xs x = list_any-append (thing_eq q) xs (x ∷ []) ∙ turned (is_in q xs) (thing_eq q x)

-- one thing more
pub claimed_more : (table : Holds) (key : VehicleKey) (xs : List Thing) (x : Thing) → claimed table key (xs ++ x ∷ []) ≡ insert (claimed table key xs) x key
claimed_more table key xs x =
    same_holds _ _ (λ q.
    get-claimed table key (xs ++ x ∷ []) q
    ∙ ap (λ b. cond b (Some key) (get table q)) (is_in-push q xs x)
    ∙ sym (get-claimed table key (x ∷ xs) q))

-- which things there are counts, and not how often, or in which order
pub claims_alike : (table : Holds) (key : VehicleKey) (xs ys : List Thing) → ((q : Thing) → is_in q xs ≡ is_in q ys) → claimed table key xs ≡ claimed table key ys
claims_alike table key xs ys same =
    same_holds _ _ (λ q. get-claimed table key xs q ∙ ap (λ b. cond b (Some key) (get table q)) (same q) ∙ sym (get-claimed table key ys q))

-- a thing that is not in the list is not in its first ones
pub not_among_first : (q : Thing) (i : ℕ) (xs : List Thing) → is_in q xs ≡ false → is_in q (take i xs) ≡ false
not_among_first q zero xs h = refl
not_among_first q (suc i) [] h = refl
not_among_first q (suc i) (x ∷ xs) h =
    let parts = or_parts (thing_eq q x) (is_in q xs) h in
    ap (λ b. b || is_in q (take i xs)) parts.0 ∙ not_among_first q i xs parts.1

-- ---- what is freed again

-- one thing more
pub freed_more : (now before : Holds) (xs : List Thing) (x : Thing) → ((q : Thing) → get now q ≡ cond (is_in q xs) None (get before q))
    → (q : Thing) → get (remove now x) q ≡ cond (is_in q (xs ++ x ∷ [])) None (get before q)
freed_more now before xs x so_far q =
    get-remove thing_cmp-total now x q
    ∙ ap (cond (thing_eq q x) None) (so_far q)
    ∙ either (thing_eq q x) (is_in q xs) None (get before q)
    ∙ ap (λ b. cond b None (get before q)) (sym (is_in-push q xs x))

back : (b : Bool) (o put : Option VehicleKey) → (b ≡ true → o ≡ None) → (b ≡ false → put ≡ o) → cond b None put ≡ o
back true o put free same = sym (free refl)
back false o put free same = same refl

-- where nobody held the things, and all others are held as before, the table without the things is the one before
pub undone : (before put after : Holds) (xs : List Thing)
    → ((q : Thing) → is_in q xs ≡ true → get before q ≡ None)
    → ((q : Thing) → is_in q xs ≡ false → get put q ≡ get before q)
    → ((q : Thing) → get after q ≡ cond (is_in q xs) None (get put q))
    → after ≡ before
undone before put after xs free same gone = same_holds _ _ (λ q. gone q ∙ back (is_in q xs) (get before q) (get put q) (free q) (same q))

-- after some first things are claimed, a thing that is not in the list is held as before
pub others_same : (before put : Holds) (key : VehicleKey) (i : ℕ) (xs : List Thing) → put ≡ claimed before key (take i xs)
    → (q : Thing) → is_in q xs ≡ false → get put q ≡ get before q
others_same before put key i xs is q absent =
    ap (λ (table : Holds). get table q) is
    ∙ get-claimed before key (take i xs) q
    ∙ ap (λ b. cond b (Some key) (get before q)) (not_among_first q i xs absent)

-- ---- what another vehicle holds

none_here : (x : Thing) (o : Option VehicleKey) (further : Option (Thing × VehicleKey)) → or_further x o further ≡ None → (o ≡ None) × (further ≡ None)
none_here x None further e = (refl, e)
none_here x (Some by) further e = cc

pub none_held : (table : Holds) (key : VehicleKey) (things : List Thing) → first_held table key things ≡ None
    → (q : Thing) → is_in q things ≡ true → other_holder key (get table q) ≡ None
none_held table key [] none q among = cc
none_held table key (x ∷ xs) none q among =
    let parts = none_here x (other_holder key (get table x)) (first_held table key xs) none in
    elim (or_cases (thing_eq q x) (is_in q xs) among) [
      | inl here ↦ subst (λ y. other_holder key (get table y) ≡ None) (sym (same_thing q x here)) parts.0
      | inr further ↦ none_held table key xs parts.1 q further
    ]

other_if : (b : Bool) (key by : VehicleKey) → key_eq by key ≡ b → cond b None (Some by) ≡ None → ◌≡◌ {A = Option VehicleKey} (Some by) (Some key)
other_if true key by e h = ap Some (same_vehicle by key e)
other_if false key by e h = cc

-- a thing that no other vehicle holds is this vehicle's or nobody's
pub own_or_free : (key : VehicleKey) (o : Option VehicleKey) → other_holder key o ≡ None → (o ≡ None) ⊎ (o ≡ Some key)
own_or_free key None h = inl refl
own_or_free key (Some by) h = inr (other_if (key_eq by key) key by refl h)

-- ---- what is nobody's

pub is_in-unheld : (table : Holds) (things : List Thing) (q : Thing) → is_in q (unheld_of table things) ≡ (is_none (get table q) && is_in q things)
is_in-unheld table things q =
    any-filter_same (thing_eq q) (λ thing. is_none (get table thing)) (is_none (get table q)) (λ k e. ap (λ thing. is_none (get table thing)) (sym (same_thing q k e))) things

free_there : (o : Option VehicleKey) (b : Bool) → (is_none o && b) ≡ true → o ≡ None
free_there None b e = refl
free_there (Some by) b e = cc

pub unheld_are_free : (table : Holds) (things : List Thing) (q : Thing) → is_in q (unheld_of table things) ≡ true → get table q ≡ None
unheld_are_free table things q among = free_there (get table q) (is_in q things) (sym (is_in-unheld table things q) ∙ among)

same_gain : (key : VehicleKey) (o : Option VehicleKey) (b : Bool) → (b ≡ true → other_holder key o ≡ None) → cond (is_none o && b) (Some key) o ≡ cond b (Some key) o
same_gain key None b h = refl
same_gain key (Some by) false h = refl
same_gain key (Some by) true h = other_if (key_eq by key) key by refl (h refl)

-- to claim what nobody holds is to claim all, where no other vehicle holds any of it
pub claimed-unheld : (table : Holds) (key : VehicleKey) (things : List Thing) → first_held table key things ≡ None
    → claimed table key (unheld_of table things) ≡ claimed table key things
claimed-unheld table key things none =
    same_holds _ _ (λ q.
    get-claimed table key (unheld_of table things) q
    ∙ ap (λ b. cond b (Some key) (get table q)) (is_in-unheld table things q)
    ∙ same_gain key (get table q) (is_in q things) (none_held table key things none q)
    ∙ sym (get-claimed table key things q))

-- ---- results

pub on_err : {A E P : Type 0} (r : Result A E) → P → OnErr r P
on_err (Ok x) p = tt
on_err (Err e) p = p

pub on_err_then : {A E P Q : Type 0} (r : Result A E) → OnErr r P → (P → Q) → OnErr r Q
on_err_then (Ok x) p then = tt
on_err_then (Err e) p then = then p
