-- The vehicles can claim their footprints one after the other just where no node or edge is in two of them.
use Rattle.std.proofs.Common.{◌≡◌, ◌||◌, Bool, true, false, cond, List, [], ◌∷◌, Option, Some, None, inl, inr, refl, sym, ap, subst, ◌∙◌}
use Rattle.std.proofs.lemmas.Bool.{and_parts, and_from, cases_Bool, false≢true}
use Rattle.std.proofs.lemmas.Map.Views.{Contains-from_any, list_any-from_Contains}
use Rattle.std.specs.FinMap.{empty, entries, find, get, get-empty, get-entries, get-insert}
use Rattle.std.specs.List.{AllByRecursion, Contains}
use Rattle.std.specs.Ordering.{eq_by_cmp}
use Rattle.agv_header.specs.Key.{key_cmp, thing_cmp}
use Rattle.agv_header.specs.KeyOrder.{key_cmp-total, key_cmp-IsAntisymmetric, key_eq}
use Rattle.agv_header.specs.ThingOrder.{thing_cmp-total, thing_cmp-IsAntisymmetric, thing_eq, thing_eq-equivalence}
use Rattle.agv_header.specs.declared.key.Thing.{Thing}
use Rattle.agv_header.specs.declared.key.VehicleKey.{VehicleKey}
use Rattle.agv_track_holds.specs.Footprints.{footprint_of}
use Rattle.agv_track_holds.specs.Holds.{Holds, claimed, first_held, is_in, or_further, other_holder}
use Rattle.agv_world_core.specs.ConsistentTrips.{IsHolder, SharesNothing}
use Rattle.agv_world_lawful.specs.LawfulTests.{are_apart, can_claim, things_of}
use Rattle.agv_world_core.specs.Maps.{standing_of}
use Rattle.agv_world_core.specs.Told.{vehicle_in, world_of}
use Rattle.agv_world_core.specs.Worlds.{Vehicle}
use Rattle.agv_world_core.specs.declared.row.VehicleRow.{VehicleRow}
use Rattle.agv_world_core.specs.declared.world.World.{World as Tables}
use Rattle.agv_world_core.proofs.lists.Entries.{entries_found, is_same, no_more, same_Some}
use Rattle.agv_world_core.proofs.lists.SameNames.{is_nothing, key_same, nothing, same_key}
use Rattle.agv_world_core.proofs.told_worlds.ToldVehicles.{told_vehicle, vehicle_told}

-- ---- one claim
-- each of the things is the vehicle's or nobody's
abbrev IsFree : Holds → VehicleKey → List Thing → Type 0
IsFree table key things = (thing : Thing) (by : VehicleKey) → is_in thing things ≡ true → get table thing ≡ Some by → by ≡ key

neither : (thing : Thing) (o : Option VehicleKey) (rest : Option (Thing × VehicleKey)) → or_further thing o rest ≡ None → (o ≡ None) × (rest ≡ None)
neither thing None rest e = (refl, e)
neither thing (Some by) rest e = absurd (no_more (thing, by) (sym e))

its_own : (key : VehicleKey) (o : Option VehicleKey) (by : VehicleKey) → other_holder key o ≡ None → o ≡ Some by → by ≡ key
its_own key None by e is = absurd (no_more by is)
its_own key (Some other) by e is =
    elim (key_eq other key) as (λ b. key_eq other key ≡ b → cond b None (Some other) ≡ None → by ≡ key) [
      | true ↦ λ same _. sym (same_Some other by is) ∙ same_key other key same
      | false ↦ λ differs held. absurd (no_more other (sym held))
    ] refl e

no_other : (key : VehicleKey) (o : Option VehicleKey) → ((by : VehicleKey) → o ≡ Some by → by ≡ key) → other_holder key o ≡ None
no_other key None own = refl
no_other key (Some by) own = ap (λ b. cond b None (Some by)) (key_same by key (own by refl))

free : (table : Holds) (key : VehicleKey) (things : List Thing) → first_held table key things ≡ None → IsFree table key things
free table key [] none thing by among at = absurd (false≢true among)
free table key (x ∷ things) none thing by among at =
    let parts = neither x (other_holder key (get table x)) (first_held table key things) none in
    elim (thing_eq thing x) as (λ b. thing_eq thing x ≡ b → (b || is_in thing things) ≡ true → by ≡ key) [
      | true ↦ λ same _. its_own key (get table x) by parts.0 (sym (ap (get table) (is_same thing_cmp-IsAntisymmetric thing x same)) ∙ at)
      | false ↦ λ differs rest. free table key things parts.1 thing by rest at
    ] refl among

or_true : (a b : Bool) → b ≡ true → (a || b) ≡ true
or_true true b e = refl
or_true false b e = e

free_again : (table : Holds) (key : VehicleKey) (things : List Thing) → IsFree table key things → first_held table key things ≡ None
free_again table key [] own = refl
free_again table key (x ∷ things) own =
    ap (λ o. or_further x o (first_held table key things)) (no_other key (get table x) (λ by at. own x by (ap (λ b. b || is_in x things) (thing_eq-equivalence.refl x)) at))
    ∙ free_again table key things (λ thing by among at. own thing by (or_true (thing_eq thing x) (is_in thing things) among) at)

given : (table : Holds) (key : VehicleKey) (things : List Thing) (thing : Thing) → get (claimed table key things) thing ≡ cond (is_in thing things) (Some key) (get table thing)
given table key [] thing = refl
given table key (x ∷ things) thing =
    get-insert thing_cmp-total (claimed table key things) x key thing
    ∙ elim (thing_eq thing x) as (λ b. cond b (Some key) (get (claimed table key things) thing) ≡ cond (b || is_in thing things) (Some key) (get table thing)) [
      | true ↦ refl
      | false ↦ given table key things thing
    ]

-- ---- all claims
abbrev Entry : Type 0
Entry = VehicleKey × VehicleRow

map_all : {P Q : Entry → Type 0} → ((e : Entry) → P e → Q e) → (es : List Entry) → AllByRecursion P es → AllByRecursion Q es
map_all f [] each = tt
map_all f (e ∷ es) each = (f e each.0, map_all f es each.1)

map_both : {P Q S : Entry → Type 0} → ((e : Entry) → P e → Q e → S e) → (es : List Entry) → AllByRecursion P es → AllByRecursion Q es → AllByRecursion S es
map_both f [] each more = tt
map_both f (e ∷ es) each more = (f e each.0 more.0, map_both f es each.1 more.1)

module _ (tables : Tables) where
  abbrev IsOpen : Holds → Entry → Type 0
  IsOpen table e = IsFree table e.0 (things_of tables e)

  -- vehicles whose footprints share something are one
  abbrev Meet : Entry → Entry → Type 0
  Meet e f = (thing : Thing) → is_in thing (things_of tables e) ≡ true → is_in thing (things_of tables f) ≡ true → e.0 ≡ f.0

  abbrev Separate : List Entry → Type 0
  Separate [] = Unit {0}
  Separate (e ∷ es) = AllByRecursion (Meet e) es × Separate es

  -- what the table says after the claim
  abbrev after : Holds → Entry → Holds
  after table e = claimed table e.0 (things_of tables e)

  has : (table : Holds) (e : Entry) (thing : Thing) → is_in thing (things_of tables e) ≡ true → get (after table e) thing ≡ Some e.0
  has table e thing among = given table e.0 (things_of tables e) thing ∙ ap (λ b. cond b (Some e.0) (get table thing)) among

  keeps : (table : Holds) (e : Entry) (thing : Thing) → is_in thing (things_of tables e) ≡ false → get (after table e) thing ≡ get table thing
  keeps table e thing not_among = given table e.0 (things_of tables e) thing ∙ ap (λ b. cond b (Some e.0) (get table thing)) not_among

  open_before : (table : Holds) (e : Entry) → IsOpen table e → (f : Entry) → IsOpen (after table e) f → IsOpen table f
  open_before table e own f later thing by among at = elim (cases_Bool (is_in thing (things_of tables e))) [
    | inl here ↦ own thing by here at ∙ later thing e.0 among (has table e thing here)
    | inr not_here ↦ later thing by among (keeps table e thing not_here ∙ at)
  ]

  open_after : (table : Holds) (e f : Entry) → IsOpen table f → Meet e f → IsOpen (after table e) f
  open_after table e f own meet thing by among at = elim (cases_Bool (is_in thing (things_of tables e))) [
    | inl here ↦ same_Some by e.0 (sym at ∙ has table e thing here) ∙ meet thing here among
    | inr not_here ↦ own thing by among (sym (keeps table e thing not_here) ∙ at)
  ]

  separate : (es : List Entry) (table : Holds) → can_claim tables table es ≡ true → AllByRecursion (IsOpen table) es × Separate es
  separate [] table e = (tt, tt)
  separate (e ∷ es) table claims =
      let parts = and_parts _ _ claims in
      let own = free table e.0 (things_of tables e) (nothing _ parts.0) in
      let rest = separate es (after table e) parts.1 in (
        (own, map_all (open_before table e own) es rest.0),
        (map_all (λ f later thing here there. later thing e.0 there (has table e thing here)) es rest.0, rest.1),
      )

  claims_all : (es : List Entry) (table : Holds) → AllByRecursion (IsOpen table) es → Separate es → can_claim tables table es ≡ true
  claims_all [] table opens apart = refl
  claims_all (e ∷ es) table opens apart =
      and_from _ _
      (is_nothing _ (free_again table e.0 (things_of tables e) opens.0))
      (claims_all es (after table e) (map_both (λ f. open_after table e f) es opens.1 apart.0) apart.1)

  -- ---- the vehicles of the world
  holds : (e : Entry) → get tables.vehicles e.0 ≡ Some e.1 → (thing : Thing) → is_in thing (things_of tables e) ≡ true → IsHolder (world_of tables) e.0 thing
  holds e at thing among = (vehicle_in tables e.0 e.1, told_vehicle tables e.0 e.1 at, Contains-from_any (is_same thing_cmp-IsAntisymmetric) thing _ among)

  held_by : (key : VehicleKey) (thing : Thing) → IsHolder (world_of tables) key thing → (row : VehicleRow) × (get tables.vehicles key ≡ Some row) × (is_in thing (things_of tables (key, row)) ≡ true)
  held_by key thing is =
      let row = vehicle_told tables key is.0 is.1 in
      (row.0, row.1, list_any-from_Contains thing_eq-equivalence thing _ (subst (λ (vehicle : Vehicle). Contains (footprint_of (standing_of vehicle)) thing) (sym row.2) is.2))

  abbrev IsThere : Entry → Type 0
  IsThere e = get tables.vehicles e.0 ≡ Some e.1

  separate_all : SharesNothing (world_of tables) → (es : List Entry) → AllByRecursion IsThere es → Separate es
  separate_all shares [] found = tt
  separate_all shares (e ∷ es) found =
      (map_all (λ f at thing here there. shares e.0 f.0 thing (holds e found.0 thing here) (holds f at thing there)) es found.1, separate_all shares es found.1)

  -- the head and another
  with_head : (e : Entry) (es : List Entry) → AllByRecursion (Meet e) es → (k : VehicleKey) (row : VehicleRow) → find key_cmp k es ≡ Some row → (thing : Thing) → is_in thing (things_of tables e) ≡ true → is_in thing (things_of tables (k, row)) ≡ true → e.0 ≡ k
  with_head e [] meets k row found thing here there = absurd (no_more row found)
  with_head e (f ∷ es) meets k row found thing here there =
      elim (eq_by_cmp key_cmp k f.0) as (λ b. eq_by_cmp key_cmp k f.0 ≡ b → cond b (Some f.1) (find key_cmp k es) ≡ Some row → e.0 ≡ k) [
        | true ↦ λ tied is.
            let key : k ≡ f.0 = is_same key_cmp-IsAntisymmetric k f.0 tied in
            meets.0 thing here (subst (λ (r : VehicleRow). is_in thing (things_of tables (f.0, r)) ≡ true) (sym (same_Some f.1 row is)) (subst (λ (q : VehicleKey). is_in thing (things_of tables (q, row)) ≡ true) key there)) ∙ sym key
        | false ↦ λ tied is. with_head e es meets.1 k row is thing here there
      ] refl found

  one_holder : (es : List Entry) → Separate es → (k l : VehicleKey) (row more : VehicleRow) → find key_cmp k es ≡ Some row → find key_cmp l es ≡ Some more → (thing : Thing) → is_in thing (things_of tables (k, row)) ≡ true → is_in thing (things_of tables (l, more)) ≡ true → k ≡ l
  one_holder [] apart k l row more found further thing here there = absurd (no_more row found)
  one_holder (e ∷ es) apart k l row more found further thing here there =
      elim (eq_by_cmp key_cmp k e.0) as (λ b. eq_by_cmp key_cmp k e.0 ≡ b → cond b (Some e.1) (find key_cmp k es) ≡ Some row → k ≡ l) [
        | true ↦ λ tied is.
            let key : k ≡ e.0 = is_same key_cmp-IsAntisymmetric k e.0 tied in
            let mine : is_in thing (things_of tables e) ≡ true = subst (λ (r : VehicleRow). is_in thing (things_of tables (e.0, r)) ≡ true) (sym (same_Some e.1 row is)) (subst (λ (q : VehicleKey). is_in thing (things_of tables (q, row)) ≡ true) key here) in
            elim (eq_by_cmp key_cmp l e.0) as (λ b. eq_by_cmp key_cmp l e.0 ≡ b → cond b (Some e.1) (find key_cmp l es) ≡ Some more → k ≡ l) [
              | true ↦ λ both _. key ∙ sym (is_same key_cmp-IsAntisymmetric l e.0 both)
              | false ↦ λ _ other. key ∙ with_head e es apart.0 l more other thing mine there
            ] refl further
        | false ↦ λ tied is.
            elim (eq_by_cmp key_cmp l e.0) as (λ b. eq_by_cmp key_cmp l e.0 ≡ b → cond b (Some e.1) (find key_cmp l es) ≡ Some more → k ≡ l) [
              | true ↦ λ both other.
                  let key : l ≡ e.0 = is_same key_cmp-IsAntisymmetric l e.0 both in
                  let theirs : is_in thing (things_of tables e) ≡ true = subst (λ (r : VehicleRow). is_in thing (things_of tables (e.0, r)) ≡ true) (sym (same_Some e.1 more other)) (subst (λ (q : VehicleKey). is_in thing (things_of tables (q, more)) ≡ true) key there) in
                  sym (key ∙ with_head e es apart.0 k row is thing theirs here)
              | false ↦ λ _ other. one_holder es apart.1 k l row more is other thing here there
            ] refl further
      ] refl found

  -- ---- both
  pub apart : are_apart tables ≡ true → SharesNothing (world_of tables)
  apart claims one other thing is more =
      let a = held_by one thing is in
      let b = held_by other thing more in
      one_holder (entries tables.vehicles) (separate (entries tables.vehicles) empty claims).1 one other a.0 b.0 (sym (get-entries tables.vehicles one) ∙ a.1) (sym (get-entries tables.vehicles other) ∙ b.1) thing a.2 b.2

  all_open : (es : List Entry) → AllByRecursion (IsOpen empty) es
  all_open [] = tt
  all_open (e ∷ es) = (λ thing by among at. absurd (no_more by (sym (get-empty thing_cmp thing) ∙ at)), all_open es)

  pub apart_again : SharesNothing (world_of tables) → are_apart tables ≡ true
  apart_again shares = claims_all (entries tables.vehicles) empty (all_open (entries tables.vehicles)) (separate_all shares (entries tables.vehicles) (entries_found key_cmp-total tables.vehicles))
