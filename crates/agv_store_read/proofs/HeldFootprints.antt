-- What the rows tell of holds is what the vehicles hold just where each vehicle holds its footprint and nothing else, and no one but vehicles holds anything.
use Rattle.std.proofs.Common.{◌≡◌, ◌↔◌, ◌||◌, not, Bool, true, false, List, [], ◌∷◌, Option, None, Some, Ordering, Ok, Err, Result, IfOk, IsPermutation, IsTrue, cond, is_eq, refl, sym, ap, subst, ◌∙◌}
use Rattle.std.proofs.lemmas.Bool.{and_parts, and_from}
use Rattle.std.proofs.lemmas.Option.{same_Some}
use Rattle.std.proofs.lemmas.List.Sorted.{IsPermutation-sym}
use Rattle.std.specs.Cmp.{Equal-is, tied_itself}
use Rattle.std.specs.FinMap as finite
use Rattle.std.specs.List.{AllByRecursion, Contains, list_all}
use Rattle.std.specs.Ordering.{eq_by_cmp}
use Rattle.std.specs.Option.{is_some, option_and_then, option_map}
use Rattle.sqlite_trees.proofs.ListLemmas.{all-permutation, all_weaker}
use Rattle.agv_header.specs.Key.{key_cmp, thing_cmp}
use Rattle.agv_header.specs.KeyOrder.{key_cmp-IsAntisymmetric, key_cmp-ties, key_cmp-total, key_eq}
use Rattle.agv_header.specs.ThingOrder.{thing_cmp-IsAntisymmetric, thing_cmp-total, thing_eq}
use Rattle.agv_header.specs.declared.key.Thing.{Thing}
use Rattle.agv_header.specs.declared.key.VehicleKey.{VehicleKey}
use Rattle.agv_order.specs.declared.trip.Trip.{Trip}
use Rattle.agv_track_holds.specs.Footprints.{footprint_of}
use Rattle.agv_track_holds.specs.Holds.{Holds, is_in, is_own}
use Rattle.agv_world_core.specs.ConsistentTrips.{IsHolder, IsVehicle}
use Rattle.agv_world_core.specs.Maps.{maps_of, standing_of}
use Rattle.agv_world_core.specs.Worlds.{Vehicle, World}
use Rattle.agv_world_core.specs.declared.row.VehicleRow.{VehicleRow}
use Rattle.agv_store_read.specs.HeldThings.{HasEach, are_entries, are_holders, footprint_in, hold_their_own, holds_each, holds_its_own, holds_only, is_kept}
use Rattle.agv_store_rows.proofs.LawfulValues.{row_at}
use Rattle.agv_store_schema.proofs.SpreadRows.{entries_found}

-- ---- tests of lists

each_of : {A : Type 0} (p : A → Bool) (xs : List A) → list_all p xs ≡ true → AllByRecursion (λ x. p x ≡ true) xs
each_of p [] passed = tt
each_of p (x ∷ xs) passed = let parts = and_parts (p x) (list_all p xs) passed in (parts.0, each_of p xs parts.1)

all_of : {A : Type 0} (p : A → Bool) (xs : List A) → AllByRecursion (λ x. p x ≡ true) xs → list_all p xs ≡ true
all_of p [] each = refl
all_of p (x ∷ xs) each = and_from (p x) (list_all p xs) each.0 (all_of p xs each.1)

-- what each entry of a map has, each value has with its key
has_in : {K X : Type 0} {R : K → K → Ordering} (apart : finite.IsAntisymmetric R) (P : K × X → Type 0) (k : K) (x : X) (es : List (K × X)) → AllByRecursion P es → finite.find R k es ≡ Some x → P (k, x)
has_in apart P k x [] each found = absurd (cc found)
has_in {K} {X} {R} apart P k x (e ∷ es) each found =
    elim (eq_by_cmp R k e.0) as (λ b. eq_by_cmp R k e.0 ≡ b → cond b (Some e.1) (finite.find R k es) ≡ Some x → P (k, x)) [
      | true ↦ λ tied is. subst (λ (q : K). P (q, x)) (sym (apart k e.0 ((Equal-is (R k e.0)).0 tied))) (subst (λ (y : X). P (e.0, y)) (same_Some e.1 x is) each.0)
      | false ↦ λ _ is. has_in apart P k x es each.1 is
    ] refl found

entry_at : {K X : Type 0} {R : K → K → Ordering} (apart : finite.IsAntisymmetric R) (P : K × X → Type 0) (m : finite.FinMap R X) → AllByRecursion P (finite.entries m) → (k : K) (x : X) → finite.get m k ≡ Some x → P (k, x)
entry_at apart P m each k x at = has_in apart P k x (finite.entries m) each (sym (finite.get-entries m k) ∙ at)

same_key : (a b : VehicleKey) → key_eq a b ≡ true → a ≡ b
same_key a b is = key_cmp-IsAntisymmetric a b ((Equal-is (key_cmp a b)).0 (sym (key_cmp-ties a b) ∙ is))

own_key : (a : VehicleKey) → key_eq a a ≡ true
own_key a = key_cmp-ties a a ∙ ap is_eq (tied_itself key_cmp-total a)

passes_in : (p : Thing → Bool) (things : List Thing) → list_all p things ≡ true → (thing : Thing) → is_in thing things ≡ true → p thing ≡ true
passes_in p [] passed thing among = absurd (cc among)
passes_in p (first ∷ things) passed thing among =
    let parts = and_parts (p first) (list_all p things) passed in
    elim (thing_eq thing first) as (λ b. thing_eq thing first ≡ b → (b || is_in thing things) ≡ true → p thing ≡ true) [
      | true ↦ λ tied _. ap p (thing_cmp-IsAntisymmetric thing first ((Equal-is (thing_cmp thing first)).0 tied)) ∙ parts.0
      | false ↦ λ _ more. passes_in p things parts.1 thing more
    ] refl among

or_right : (a b : Bool) → b ≡ true → (a || b) ≡ true
or_right true b is = refl
or_right false b is = is

all_in : (p : Thing → Bool) (things : List Thing) → ((thing : Thing) → is_in thing things ≡ true → p thing ≡ true) → list_all p things ≡ true
all_in p [] each = refl
all_in p (first ∷ things) each =
    and_from (p first) (list_all p things) (each first (ap (λ b. b || is_in first things) (ap is_eq (tied_itself thing_cmp-total first))))
    (all_in p things (λ thing among. each thing (or_right (thing_eq thing first) (is_in thing things) among)))

own_of : (key : VehicleKey) (o : Option VehicleKey) → is_own key o ≡ true → o ≡ Some key
own_of key None is = absurd (cc is)
own_of key (Some by) is = ap Some (same_key by key is)

pub each_ok : {A E : Type 0} {P Q : A → Type 0} (r : Result A E) → ((a : A) → P a → Q a) → IfOk r P → IfOk r Q
each_ok (Ok a) so h = so a h
each_ok (Err e) so h = tt

-- ---- a table as a list of pairs

module _ (table : Holds) (pairs : List (Thing × VehicleKey)) (same : IsPermutation (finite.entries table) pairs) where
  pub lists_entries : are_entries table pairs ≡ true
  lists_entries =
      all_of (λ (pair : Thing × VehicleKey). is_own pair.1 (finite.get table pair.0)) pairs
      (all_weaker _ _ (λ (pair : Thing × VehicleKey) at. ap (is_own pair.1) at ∙ own_key pair.1) pairs
      (all-permutation (λ (pair : Thing × VehicleKey). finite.get table pair.0 ≡ Some pair.1) (finite.entries table) pairs same (entries_found thing_cmp-total table)))

  pub lists_each : HasEach table pairs
  lists_each test passed thing key at =
      entry_at thing_cmp-IsAntisymmetric (λ (e : Thing × VehicleKey). test e ≡ true) table
      (all-permutation (λ (e : Thing × VehicleKey). test e ≡ true) pairs (finite.entries table) (IsPermutation-sym _ _ same) (each_of test pairs passed)) thing key at

-- ---- the holds of a world

module _ (world : World) (holders : (thing : Thing) (key : VehicleKey) → (finite.get (maps_of world).holds thing ≡ Some key) ↔ IsHolder world key thing)
    (member : (thing : Thing) (things : List Thing) → (is_in thing things ≡ true) ↔ Contains things thing)
    (table : Holds) (pairs : List (Thing × VehicleKey)) (listed : are_entries table pairs ≡ true) (whole : HasEach table pairs) where
  abbrev held : Holds
  held = (maps_of world).holds

  abbrev vehicles : finite.FinMap key_cmp VehicleRow
  vehicles = (maps_of world).vehicles

  row_there : (key : VehicleKey) (vehicle : Vehicle) → IsVehicle world key vehicle → finite.get vehicles key ≡ Some vehicle.row
  row_there key vehicle at = row_at world key ∙ ap (option_map (λ (v : Vehicle). v.row)) at

  things_there : (key : VehicleKey) (vehicle : Vehicle) → IsVehicle world key vehicle → footprint_in world (key, vehicle.row) ≡ footprint_of (standing_of vehicle)
  things_there key vehicle at = ap (λ (o : Option Trip). footprint_of (record { node = vehicle.row.node; rest = vehicle.row.rest; trip = o })) (ap (option_and_then (λ (v : Vehicle). v.trip)) at)

  vehicle_there : (key : VehicleKey) (row : VehicleRow) → finite.get vehicles key ≡ Some row → (vehicle : Vehicle) × IsVehicle world key vehicle × (vehicle.row ≡ row)
  vehicle_there key row at =
      elim (finite.get world.vehicles key) as (λ (o : Option Vehicle). finite.get world.vehicles key ≡ o → option_map (λ (v : Vehicle). v.row) o ≡ Some row → (vehicle : Vehicle) × IsVehicle world key vehicle × (vehicle.row ≡ row)) [
        | None ↦ λ _ found. absurd (cc found)
        | Some vehicle ↦ λ is found. (vehicle, is, same_Some vehicle.row row found)
      ] refl (sym (row_at world key) ∙ at)

  -- what is held stands in the footprint of a row
  in_footprint : (thing : Thing) (key : VehicleKey) → finite.get held thing ≡ Some key → (row : VehicleRow) × (finite.get vehicles key ≡ Some row) × (is_in thing (footprint_in world (key, row)) ≡ true)
  in_footprint thing key is =
      let by = (holders thing key).0 is in
      (by.0.row, row_there key by.0 by.1, (member thing (footprint_in world (key, by.0.row))).1 (subst (λ (things : List Thing). Contains things thing) (sym (things_there key by.0 by.1)) by.2))

  -- and what stands there is held
  from_footprint : (thing : Thing) (key : VehicleKey) (row : VehicleRow) → finite.get vehicles key ≡ Some row → is_in thing (footprint_in world (key, row)) ≡ true → finite.get held thing ≡ Some key
  from_footprint thing key row at among =
      let it = vehicle_there key row at in
      let has = (member thing (footprint_in world (key, row))).0 among in
      (holders thing key).1 (it.0, it.1, subst (λ (things : List Thing). Contains things thing) (ap (λ (r : VehicleRow). footprint_in world (key, r)) (sym it.2) ∙ things_there key it.0 it.1) has)

  -- ---- where the tests pass

  module _ (known : are_holders vehicles pairs ≡ true) (own : hold_their_own table pairs world (finite.entries vehicles) ≡ true) where
    own_at : (key : VehicleKey) (row : VehicleRow) → finite.get vehicles key ≡ Some row → holds_its_own table pairs world (key, row) ≡ true
    own_at key row at = entry_at key_cmp-IsAntisymmetric (λ (e : VehicleKey × VehicleRow). holds_its_own table pairs world e ≡ true) vehicles (each_of (holds_its_own table pairs world) (finite.entries vehicles) own) key row at

    some_row : (o : Option VehicleRow) → is_some o ≡ true → (row : VehicleRow) × (o ≡ Some row)
    some_row None is = absurd (cc is)
    some_row (Some row) is = (row, refl)

    not_other : (b c : Bool) → b ≡ true → (not b || c) ≡ true → c ≡ true
    not_other true c is passed = passed
    not_other false c is passed = absurd (cc is)

    held_by : (thing : Thing) (key : VehicleKey) → finite.get table thing ≡ Some key → finite.get held thing ≡ Some key
    held_by thing key at =
        let row = some_row (finite.get vehicles key) (whole (λ (pair : Thing × VehicleKey). is_some (finite.get vehicles pair.1)) known thing key at) in
        let things = footprint_in world (key, row.0) in
        let parts = and_parts (holds_each table key things) (holds_only pairs key things) (own_at key row.0 row.1) in
        from_footprint thing key row.0 row.1
        (not_other (key_eq key key) (is_in thing things) (own_key key) (whole (is_kept key things) parts.1 thing key at))

    held_in_turn : (thing : Thing) (key : VehicleKey) → finite.get held thing ≡ Some key → finite.get table thing ≡ Some key
    held_in_turn thing key at =
        let it = in_footprint thing key at in
        let things = footprint_in world (key, it.0) in
        let parts = and_parts (holds_each table key things) (holds_only pairs key things) (own_at key it.0 it.1) in
        own_of key (finite.get table thing) (passes_in (λ t. is_own key (finite.get table t)) things parts.0 thing it.2)

    pub are_the_same : table ≡ held
    are_the_same = finite.same_map thing_cmp-total thing_cmp-IsAntisymmetric table held (λ thing.
        elim (finite.get table thing) as (λ (o : Option VehicleKey). finite.get table thing ≡ o → o ≡ finite.get held thing) [
          | Some key ↦ λ at. sym (held_by thing key at)
          | None ↦ λ free.
              elim (finite.get held thing) as (λ (o : Option VehicleKey). finite.get held thing ≡ o → None ≡ o) [
                | None ↦ λ _. refl
                | Some key ↦ λ at. sym free ∙ held_in_turn thing key at
              ] refl
        ] refl)

  -- ---- where they are the same

  module _ (are : table ≡ held) where
    pairs_held : AllByRecursion (λ (pair : Thing × VehicleKey). finite.get held pair.0 ≡ Some pair.1) pairs
    pairs_held =
        all_weaker _ _ (λ (pair : Thing × VehicleKey) is. ap (λ (t : Holds). finite.get t pair.0) (sym are) ∙ own_of pair.1 (finite.get table pair.0) is) pairs
        (each_of (λ (pair : Thing × VehicleKey). is_own pair.1 (finite.get table pair.0)) pairs listed)

    pub are_vehicles : are_holders vehicles pairs ≡ true
    are_vehicles = all_of (λ (pair : Thing × VehicleKey). is_some (finite.get vehicles pair.1)) pairs (all_weaker _ _ (λ (pair : Thing × VehicleKey) at. ap is_some (in_footprint pair.0 pair.1 at).1) pairs pairs_held)

    only_in : (key : VehicleKey) (row : VehicleRow) → finite.get vehicles key ≡ Some row → (pair : Thing × VehicleKey) → finite.get held pair.0 ≡ Some pair.1 → (not (key_eq pair.1 key) || is_in pair.0 (footprint_in world (key, row))) ≡ true
    only_in key row there pair at =
        elim (key_eq pair.1 key) as (λ b. key_eq pair.1 key ≡ b → (not b || is_in pair.0 (footprint_in world (key, row))) ≡ true) [
          | false ↦ λ _. refl
          | true ↦ λ its.
              let it = in_footprint pair.0 key (at ∙ ap Some (same_key pair.1 key its)) in
              subst (λ (r : VehicleRow). is_in pair.0 (footprint_in world (key, r)) ≡ true) (same_Some it.0 row (sym it.1 ∙ there)) it.2
        ] refl

    pub are_their_own : hold_their_own table pairs world (finite.entries vehicles) ≡ true
    are_their_own =
        all_of (holds_its_own table pairs world) (finite.entries vehicles)
        (all_weaker _ _ (λ (entry : VehicleKey × VehicleRow) at.
        let things = footprint_in world entry in
        and_from (holds_each table entry.0 things) (holds_only pairs entry.0 things)
        (all_in (λ thing. is_own entry.0 (finite.get table thing)) things (λ thing among. ap (is_own entry.0) (ap (λ (t : Holds). finite.get t thing) are ∙ from_footprint thing entry.0 entry.1 at among) ∙ own_key entry.0))
        (all_of (is_kept entry.0 things) pairs (all_weaker _ _ (only_in entry.0 entry.1 at) pairs pairs_held)))
        (finite.entries vehicles) (entries_found key_cmp-total vehicles))

  -- ---- both

  -- one who holds is no vehicle
  pub never_fits : (known : finite.FinMap key_cmp VehicleRow) → known ≡ vehicles → are_holders known pairs ≡ false → IsTrue false ↔ (table ≡ held)
  never_fits known is none = (λ wrong. absurd (cc wrong), λ are. absurd (let each : are_holders known pairs ≡ true = ap (λ (v : finite.FinMap key_cmp VehicleRow). are_holders v pairs) is ∙ are_vehicles are in let wrong : false ≡ true = sym none ∙ each in cc wrong))

  pub fits_just_so : (known : finite.FinMap key_cmp VehicleRow) → known ≡ vehicles → (told : World) → told ≡ world → are_holders known pairs ≡ true → (b : Bool) → b ≡ hold_their_own table pairs told (finite.entries known) → IsTrue b ↔ (table ≡ held)
  fits_just_so known is told same each b own =
      let here : b ≡ hold_their_own table pairs world (finite.entries vehicles) =
      own ∙ ap (λ (w : World). hold_their_own table pairs w (finite.entries known)) same ∙ ap (λ (v : finite.FinMap key_cmp VehicleRow). hold_their_own table pairs world (finite.entries v)) is in
      (λ passed. are_the_same (ap (λ (v : finite.FinMap key_cmp VehicleRow). are_holders v pairs) (sym is) ∙ each) (sym here ∙ passed), λ are. here ∙ are_their_own are)
