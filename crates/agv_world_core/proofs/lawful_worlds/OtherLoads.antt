-- The loads on a vehicle are those of its trip's drops that are not finished, and the others.
use Rattle.std.proofs.Common.{◌≡◌, ℕ, zero, suc, ◌+◌, ◌<◌, ◌&&◌, ◌||◌, not, nat_eq, Bool, true, false, cond, T, List, [], ◌∷◌, count_by, Option, None, Some, Ordering, Less, Equal, Greater, refl, sym, ap, subst, ◌∙◌, arith}
use Rattle.std.specs.Cmp.Lexicographic.{pointwise, nat_list_eq_equiv, same_text, texts_ties}
use Rattle.std.specs.FinMap as finite
use Rattle.std.specs.FinMap.Entries.{below_all, find, is_sorted}
use Rattle.std.specs.List.{AllByRecursion, list_any, slice_get}
use Rattle.std.specs.Ordering.{eq_by_cmp, is_eq, is_lt}
use Rattle.std.proofs.lemmas.Bool.{and_parts, and_right, false_from_ne_true}
use Rattle.agv_header.specs.Name.{name_cmp}
use Rattle.agv_header.specs.declared.key.VehicleKey.{VehicleKey}
use Rattle.agv_order.specs.declared.act.Act.{Act}
use Rattle.agv_stock.specs.Rooms.{is_on}
use Rattle.agv_stock.specs.declared.place.Place.{Place}
use Rattle.agv_world_core.specs.Questions.{loads_on_vehicle}
use Rattle.agv_world_core.specs.StockInvariant.{Places}
use Rattle.agv_world_core.specs.Lawful.{is_to_drop}
use Rattle.agv_world_core.proofs.lawful_worlds.ActPlaces.{any_at}
use Rattle.agv_world_core.proofs.lists.Entries.{entries_found, is_same, no_more, same_Some}
use Rattle.agv_world_core.proofs.lists.Orders.{names_total, names_apart}
use Rattle.agv_world_core.proofs.lawful_worlds.PairCounts.{counted-cons}

and_true : (b : Bool) → (b && true) ≡ b
and_true true = refl
and_true false = refl

-- ---- a count of entries, where the test changes at one key

both_of : (a b : Bool) → T (a && b) → T a × T b
both_of true b p = (tt, p)
both_of false b p = absurd p

less : (o : Ordering) → T (is_lt o) → is_eq o ≡ false
less Less p = refl
less Equal p = absurd p
less Greater p = absurd p

find-below : {X : Type 0} (q : List ℕ) (es : List (List ℕ × X)) → T (below_all name_cmp q es) → find name_cmp q es ≡ None
find-below q [] below = refl
find-below q (e ∷ es) below = ap (λ b. cond b (Some e.1) (find name_cmp q es)) (less _ (both_of _ _ below).0) ∙ find-below q es (both_of _ _ below).1

module _ {X : Type 0} (p q : List ℕ × X → Bool) (name : List ℕ) (same : (e : List ℕ × X) → eq_by_cmp name_cmp name e.0 ≡ false → p e ≡ q e) where
  unchanged : (es : List (List ℕ × X)) → find name_cmp name es ≡ None → count_by p es ≡ count_by q es
  unchanged [] none = refl
  unchanged (e ∷ es) none =
      elim (eq_by_cmp name_cmp name e.0) as (λ b. eq_by_cmp name_cmp name e.0 ≡ b → cond b (Some e.1) (find name_cmp name es) ≡ None → count_by p (e ∷ es) ≡ count_by q (e ∷ es)) [
        | true ↦ λ tied found. absurd (no_more e.1 (sym found))
        | false ↦ λ tied rest. counted-cons p e es ∙ (λ i. cond (same e tied i) 1 0 + unchanged es rest i) ∙ sym (counted-cons q e es)
      ] refl none

  -- the count changes by what the entry of that key counts
  changed_at : (es : List (List ℕ × X)) (x : X) → T (is_sorted name_cmp es) → find name_cmp name es ≡ Some x → count_by p es + cond (q (name, x)) 1 0 ≡ count_by q es + cond (p (name, x)) 1 0
  changed_at [] x sorted found = absurd (no_more x found)
  changed_at (e ∷ es) x sorted found =
      elim (eq_by_cmp name_cmp name e.0) as (λ b. eq_by_cmp name_cmp name e.0 ≡ b → cond b (Some e.1) (find name_cmp name es) ≡ Some x → count_by p (e ∷ es) + cond (q (name, x)) 1 0 ≡ count_by q (e ∷ es) + cond (p (name, x)) 1 0) [
        | true ↦ λ tied first.
            let key : name ≡ e.0 = is_same names_apart name e.0 tied in
            let value : e.1 ≡ x = same_Some e.1 x first in
            let entry : ◌≡◌ {A = List ℕ × X} e (name, x) = λ i. ((sym key) i, value i) in
            let none : find name_cmp name es ≡ None = subst (λ k. find name_cmp k es ≡ None) (sym key) (find-below e.0 es (both_of _ _ sorted).0) in
            here _ _ _ _ _ _ _ _ (counted-cons p e es) (counted-cons q e es) (unchanged es none) (ap (λ z. cond (p z) 1 0) entry) (ap (λ z. cond (q z) 1 0) entry)
        | false ↦ λ tied rest. there _ _ _ _ _ _ _ _ (counted-cons p e es) (counted-cons q e es) (ap (λ b. cond b 1 0) (same e tied)) (changed_at es x (both_of _ _ sorted).1 rest)
      ] refl found
    where
      here : (a b c d x y x' y' : ℕ) → a ≡ x' + c → b ≡ y' + d → c ≡ d → x' ≡ x → y' ≡ y → a + y ≡ b + x
      here a b c d x y x' y' e f g h i = omega (arith, e, f, g, h, i)

      there : (a b c d x y s t : ℕ) → a ≡ x + c → b ≡ y + d → x ≡ y → c + s ≡ d + t → a + s ≡ b + t
      there a b c d x y s t e f g h = omega (arith, e, f, g, h)

-- ---- no entry passes, or one does

module _ {X : Type 0} (p : List ℕ × X → Bool) where
  none_passes : (es : List (List ℕ × X)) → AllByRecursion (λ e. p e ≡ false) es → count_by p es ≡ 0
  none_passes [] none = refl
  none_passes (e ∷ es) none = counted-cons p e es ∙ (λ i. cond (none.0 i) 1 0 + none_passes es none.1 i)

  one_passes : (es : List (List ℕ × X)) (name : List ℕ) (x : X) → find name_cmp name es ≡ Some x → p (name, x) ≡ true → 0 < count_by p es
  one_passes [] name x found passes = absurd (no_more x found)
  one_passes (e ∷ es) name x found passes =
      elim (eq_by_cmp name_cmp name e.0) as (λ b. eq_by_cmp name_cmp name e.0 ≡ b → cond b (Some e.1) (find name_cmp name es) ≡ Some x → 0 < count_by p (e ∷ es)) [
        | true ↦ λ tied first.
            let key : name ≡ e.0 = is_same names_apart name e.0 tied in
            let value : e.1 ≡ x = same_Some e.1 x first in
            let entry : ◌≡◌ {A = List ℕ × X} e (name, x) = λ i. ((sym key) i, value i) in
            more _ _ _ (counted-cons p e es) (ap p entry ∙ passes)
        | false ↦ λ tied rest. later _ _ _ (counted-cons p e es) (one_passes es name x rest passes)
      ] refl found
    where
      more : (b : Bool) (n m : ℕ) → n ≡ cond b 1 0 + m → b ≡ true → 0 < n
      more true n m e f = omega (arith, e)
      more false n m e f = cc

      later : (x n m : ℕ) → n ≡ x + m → 0 < m → 0 < n
      later x n m e f = omega (arith, e, f)

module _ (places : Places) (key : VehicleKey) where
  -- a load that is there counts
  pub capacity_one : (load : List ℕ) (place : Place) → finite.get places load ≡ Some place → is_on key place ≡ true → 0 < loads_on_vehicle places key
  capacity_one load place at on = one_passes (λ (e : List ℕ × Place). is_on key e.1) (finite.entries places) load place (sym (finite.get-entries places load) ∙ at) on

  -- and without one there are none
  pub capacity_none : ((load : List ℕ) (place : Place) → finite.get places load ≡ Some place → is_on key place ≡ false) → loads_on_vehicle places key ≡ 0
  capacity_none none = none_passes (λ (e : List ℕ × Place). is_on key e.1) (finite.entries places) (each (finite.entries places) (entries_found names_total places))
    where
      each : (es : List (List ℕ × Place)) → AllByRecursion (λ (e : List ℕ × Place). finite.get places e.0 ≡ Some e.1) es → AllByRecursion (λ (e : List ℕ × Place). is_on key e.1 ≡ false) es
      each [] found = tt
      each (e ∷ es) found = (none e.0 e.1 found.0, each es found.1)

-- ---- the trip's loads and the others

-- some act of these is still to drop the load
abbrev pub drops_one : List Act → List ℕ → Bool
drops_one acts load = list_any (λ (act : Act). is_to_drop act && pointwise nat_eq act.load load) acts

abbrev pub is_on_some : VehicleKey → Option Place → Bool
is_on_some key None = false
is_on_some key (Some place) = is_on key place

-- no two acts are still to drop one load
abbrev pub DropApart : List Act → Type 0
DropApart acts = (i k : ℕ) (x y : Act) → slice_get acts i ≡ Some x → slice_get acts k ≡ Some y → is_to_drop x ≡ true → is_to_drop y ≡ true → x.load ≡ y.load → i ≡ k

-- each load that is still to be dropped is known
abbrev pub DropKnown : Places → List Act → Type 0
DropKnown places acts = (k : ℕ) (act : Act) → slice_get acts k ≡ Some act → is_to_drop act ≡ true → (place : Place) × (finite.get places act.load ≡ Some place)

not_again : (act : Act) (acts : List Act) → DropApart (act ∷ acts) → is_to_drop act ≡ true → drops_one acts act.load ≡ false
not_again act acts apart to_drop = false_from_ne_true (drops_one acts act.load) (λ again.
    let found = any_at (λ (other : Act). is_to_drop other && pointwise nat_eq other.load act.load) acts again in
    let other = found.1 in
    let parts = and_parts (is_to_drop other) (pointwise nat_eq other.load act.load) found.3 in
    let same : zero ≡ suc found.0 = apart zero (suc found.0) act other refl found.2 to_drop parts.0 (sym (same_text other.load act.load (sym parts.1))) in
    omega (arith, same))

module _ (places : Places) (key : VehicleKey) where
  abbrev pub is_on_vehicle : List ℕ → Bool
  is_on_vehicle load = is_on_some key (finite.get places load)

  abbrev pub others : List Act → ℕ
  others acts = count_by (λ (load : List ℕ × Place). is_on key load.1 && not (drops_one acts load.0)) (finite.entries places)

  -- the acts that are still to drop a load which is on the vehicle
  abbrev pub own : List Act → ℕ
  own acts = count_by (λ (act : Act). is_to_drop act && is_on_vehicle act.load) acts

  module _ (act : Act) (acts : List Act) where
    -- the test of the others, with this act or without it
    abbrev with_act : Bool → List ℕ × Place → Bool
    with_act b load = is_on key load.1 && not ((b && pointwise nat_eq act.load load.0) || drops_one acts load.0)

    -- its load is one of the others no more
    one_less :
        drops_one acts act.load ≡ false → (place : Place) → finite.get places act.load ≡ Some place
        → count_by (with_act true) (finite.entries places) + cond (is_on_vehicle act.load) 1 0 ≡ count_by (with_act false) (finite.entries places)
    one_less free place at =
        let gone : with_act true (act.load, place) ≡ false = and_right (is_on key place) _ (ap (λ b. not (b || drops_one acts act.load)) (nat_list_eq_equiv.refl act.load)) in
        let was : with_act false (act.load, place) ≡ is_on key place = ap (λ b. is_on key place && not b) free ∙ and_true (is_on key place) in
        let flip = changed_at (with_act true) (with_act false) act.load (λ e tied. ap (λ b. is_on key e.1 && not (b || drops_one acts e.0)) (texts_ties act.load e.0 ∙ tied)) (finite.entries places) place (finite.entries_sorted places) (sym (finite.get-entries places act.load) ∙ at) in
        moved _ _ _ _ _ flip (ap (λ b. cond b 1 0) gone) (ap (λ b. cond b 1 0) was) (ap (λ o. cond (is_on_some key o) 1 0) at)
      where
        moved : (m n x y z : ℕ) {w : ℕ} → m + x ≡ n + y → y ≡ 0 → x ≡ w → z ≡ w → m + z ≡ n
        moved m n x y z e f g h = omega (arith, e, f, g, h)

  pub own_and_others : (acts : List Act) → DropApart acts → DropKnown places acts → others acts + own acts ≡ loads_on_vehicle places key
  own_and_others [] apart known = add_none _ _ (λ i. count_by (λ (load : List ℕ × Place). and_true (is_on key load.1) i) (finite.entries places))
    where
      add_none : (n m : ℕ) → n ≡ m → n + 0 ≡ m
      add_none n m e = omega (arith, e)
  own_and_others (act ∷ acts) apart known =
      let rest : others acts + own acts ≡ loads_on_vehicle places key =
      own_and_others acts (λ i k x y at by p q same. let e = apart (suc i) (suc k) x y at by p q same in omega (arith, e)) (λ k one at. known (suc k) one at) in
      ap (λ n. others (act ∷ acts) + n) (counted-cons (λ (a : Act). is_to_drop a && is_on_vehicle a.load) act acts)
      ∙ elim (is_to_drop act) as (λ b. is_to_drop act ≡ b → count_by (with_act act acts b) (finite.entries places) + (cond (b && is_on_vehicle act.load) 1 0 + own acts) ≡ loads_on_vehicle places key) [
        | true ↦ λ to_drop. let at = known 0 act refl to_drop in joined _ _ _ _ _ (one_less act acts (not_again act acts apart to_drop) at.0 at.1) rest
        | false ↦ λ done. as_before _ _ _ rest
      ] refl
    where
      as_before : (m o t : ℕ) → m + o ≡ t → m + (0 + o) ≡ t
      as_before m o t e = omega (arith, e)

      joined : (m c n o t : ℕ) → m + c ≡ n → n + o ≡ t → m + (c + o) ≡ t
      joined m c n o t e f = omega (arith, e, f)
