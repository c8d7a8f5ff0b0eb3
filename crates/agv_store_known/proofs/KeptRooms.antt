-- Rooms at stations that are kept beside the tables: what they say of the world, and what is left of them once rows were written.
use Rattle.std.proofs.Common.{◌≡◌, ◌+◌, ◌-◌, ◌≤◌, ◌<◌, ◌==◌, ◌&&◌, ℕ, Bool, true, false, not, cond, if◌then◌else◌, nat_eq, List, [], ◌∷◌, length, count_by, Option, None, Some, Result, Ok, Err, OnOk, OnErr, Less, Equal, Greater, arith, refl, sym, ap, subst, ◌∙◌}
use Rattle.std.specs.BTreeMap as tree
use Rattle.std.specs.Cmp.Lexicographic.{pointwise, texts_ties}
use Rattle.std.specs.FinMap as finite
use Rattle.std.specs.FinMap.Entries.{by_order}
use Rattle.std.specs.Map.{lookup}
use Rattle.std.specs.Option.{option_map}
use Rattle.std.proofs.lemmas.Bool.Decides.{nat_tests}
use Rattle.std.proofs.lemmas.List.{length-map}
use Rattle.std.proofs.lemmas.List.Sums.{length-filter, sum_by-cons}
use Rattle.std.proofs.lemmas.Option.{same_Some}
use Rattle.agv_header.specs.Name.{name_cmp}
use Rattle.agv_layout.specs.declared.station.StationSite.{StationSite}
use Rattle.agv_stock.specs.Phase.{is_live}
use Rattle.agv_stock.specs.Rooms.{is_at, room_left, station_of_place}
use Rattle.agv_stock.specs.declared.place.Place.{Place}
use Rattle.agv_stock.specs.declared.place.Place.TheVariants as place
use Rattle.agv_world_core.specs.Changes.{change}
use Rattle.agv_world_core.specs.Questions.{has_room_at, is_live_to, loads_at, reserved, room_at, reserved_by}
use Rattle.agv_world_core.specs.Maps.{Maps, maps_of}
use Rattle.agv_world_core.specs.StockInvariant.{stored}
use Rattle.agv_world_core.specs.Worlds.{World}
use Rattle.agv_world_core.specs.declared.change.Change.{Change}
use Rattle.agv_world_core.specs.declared.change.Change.TheVariants as row
use Rattle.agv_world_core.proofs.lists.Orders.{names_total}
use Rattle.agv_world_core.proofs.lists.SameNames.{same_name}
use Rattle.agv_store_known.specs.KeptLayouts.{is_of_layout}
use Rattle.agv_store_known.specs.KeptRooms.{AreLeft, IsLowered, IsRoomLeft, RoomsLeft, takes_room_at}

-- ---- what they say

some_left : (capacity loads jobs : ℕ) → loads + jobs + 1 ≤ capacity → not (room_left capacity loads jobs == 0) ≡ true
some_left capacity loads jobs fits =
    let some : 0 < capacity - loads - jobs = omega (arith, fits) in
    grind (arith, nat_tests, some)

all_fit : (capacity loads jobs room : ℕ) → room_left capacity loads jobs ≡ room → 1 ≤ room → loads + jobs + room ≤ capacity
all_fit capacity loads jobs room is some = omega (arith, is, some)

mapped : {A B : Type 0} (f : A → B) (there : Option A) (b : B) → option_map f there ≡ Some b → (a : A) × (there ≡ Some a)
mapped f None b is = absurd (cc is)
mapped f (Some a) b is = (a, refl)

module _ (world : World) (station : List ℕ) where
  abbrev left_in : StationSite → ℕ
  left_in site = room_left site.capacity (length (loads_at world station)) (reserved world station)

  stored_is : length (loads_at world station) ≡ stored world.places station
  unfolding loads_at
  stored_is = length-map _ _ ∙ length-filter (λ (load : List ℕ × Place). is_at station load.1) (finite.entries world.places)

  reserved_is : reserved world station ≡ reserved_by world.jobs station
  unfolding reserved
  reserved_is = refl

  room_is : room_at world station ≡ option_map left_in (finite.get world.layout.stations station)
  unfolding room_at
  room_is = refl

  -- one load fits where room is left
  pub one_fits : IsRoomLeft (maps_of world) station 1 → has_room_at world station ≡ Some true
  one_fits (site, there, within) =
      let enough : length (loads_at world station) + reserved world station + 1 ≤ site.capacity =
      subst (λ jobs. length (loads_at world station) + jobs + 1 ≤ site.capacity) (sym reserved_is) (subst (λ loads. loads + reserved_by world.jobs station + 1 ≤ site.capacity) (sym stored_is) within) in
      ap (option_map (λ (room : ℕ). not (room == 0))) (room_is ∙ ap (option_map left_in) there) ∙ ap Some (some_left _ _ _ enough)

  -- what was counted is left
  pub counted_left : (room : ℕ) → 1 ≤ room → Some room ≡ room_at world station → IsRoomLeft (maps_of world) station room
  counted_left room some is =
      let (site, there) = mapped left_in (finite.get world.layout.stations station) room (sym (is ∙ room_is)) in
      let told : left_in site ≡ room = same_Some _ _ (sym (ap (option_map left_in) there) ∙ sym (is ∙ room_is)) in
      let enough : length (loads_at world station) + reserved world station + room ≤ site.capacity = all_fit _ _ _ room told some in
      (site, there, subst (λ loads. loads + reserved_by world.jobs station + room ≤ site.capacity) stored_is (subst (λ jobs. length (loads_at world station) + jobs + room ≤ site.capacity) reserved_is enough))

-- ---- the rooms that are kept

module _ (old new : RoomsLeft) (station : List ℕ) where
  -- one that is forgotten
  pub forgotten : ((other : List ℕ) → tree.get name_cmp new other ≡ cond (tree.is_at (name_cmp station) other) None (tree.get name_cmp old other)) → IsLowered old new station
  forgotten takes other room there =
      elim (tree.is_at (name_cmp station) other) as (λ b. tree.is_at (name_cmp station) other ≡ b → cond b None (tree.get name_cmp old other) ≡ Some room → (before : ℕ) × (tree.get name_cmp old other ≡ Some before) × (room + cond (pointwise nat_eq station other) 1 0 ≤ before)) [
        | true ↦ λ tied is. absurd (cc is)
        | false ↦ λ untied is. (room, is, subst (λ b. room + cond b 1 0 ≤ room) (sym (texts_ties station other ∙ untied)) (omega arith))
      ] refl (sym (takes other) ∙ there)

  -- one that is put back, less by one
  pub put_back : (mid : RoomsLeft) (before less : ℕ) → less + 1 ≤ before → tree.get name_cmp old station ≡ Some before
      → ((other : List ℕ) → tree.get name_cmp mid other ≡ cond (tree.is_at (name_cmp station) other) None (tree.get name_cmp old other))
      → ((other : List ℕ) → tree.get name_cmp new other ≡ cond (tree.is_at (name_cmp station) other) (Some less) (tree.get name_cmp mid other)) → IsLowered old new station
  put_back mid before less lower was takes puts other room there =
      elim (tree.is_at (name_cmp station) other) as (λ b. tree.is_at (name_cmp station) other ≡ b → cond b (Some less) (cond b None (tree.get name_cmp old other)) ≡ Some room → (before : ℕ) × (tree.get name_cmp old other ≡ Some before) × (room + cond (pointwise nat_eq station other) 1 0 ≤ before)) [
        | true ↦ λ tied is.
            let same : station ≡ other = same_name station other (texts_ties station other ∙ tied) in (
              before,
              subst (λ name. tree.get name_cmp old name ≡ Some before) same was,
              subst (λ b. room + cond b 1 0 ≤ before) (sym (texts_ties station other ∙ tied)) (subst (λ n. n + 1 ≤ before) (same_Some less room is) lower),
            )
        | false ↦ λ untied is. (room, is, subst (λ b. room + cond b 1 0 ≤ room) (sym (texts_ties station other ∙ untied)) (omega arith))
      ] refl (sym (puts other ∙ ap (cond (tree.is_at (name_cmp station) other) (Some less)) (takes other)) ∙ there)

  -- one that is put back where there is memory for it
  pub put_or_forgotten : {E : Type 0} (mid : RoomsLeft) (before less : ℕ) → less + 1 ≤ before → tree.get name_cmp old station ≡ Some before
      → ((other : List ℕ) → tree.get name_cmp mid other ≡ cond (tree.is_at (name_cmp station) other) None (tree.get name_cmp old other))
      → (r : Result (Option ℕ) E) → OnOk r (tree.Updates name_cmp mid new station (Some less)) → OnErr r (tree.IsUnchanged mid new) → IsLowered old new station
  put_or_forgotten mid before less lower was takes (Ok there) puts same = put_back mid before less lower was takes puts.0
  put_or_forgotten mid before less lower was takes (Err back) puts same = forgotten (λ other. ap (λ es. lookup (tree.is_at (name_cmp other)) es) same ∙ takes other)

-- ---- rows that are written

-- what counts as one, and what does not
abbrev one_if : Bool → ℕ
one_if counts = cond counts 1 0

-- how many entries pass a test of their values
abbrev tally_in : {X : Type 0} → (X → Bool) → List (List ℕ × X) → ℕ
tally_in {X} test es = count_by (λ (entry : List ℕ × X). test entry.1) es

tally-cons : {X : Type 0} (test : X → Bool) (e : List ℕ × X) (es : List (List ℕ × X)) → tally_in test (e ∷ es) ≡ one_if (test e.1) + tally_in test es
tally-cons {X} test e es = sum_by-cons (λ (entry : List ℕ × X). one_if (test entry.1)) e es

tally-put : {X : Type 0} (test : X → Bool) (k : List ℕ) (x : X) (es : List (List ℕ × X)) → tally_in test (finite.put name_cmp k x es) ≤ tally_in test es + one_if (test x)
tally-put test k x [] = omega (arith, tally-cons test (k, x) [])
tally-put {X} test k x (e ∷ es) =
    elim (name_cmp k e.0) as (λ r. tally_in test (by_order r ((k, x) ∷ e ∷ es) ((e.0, x) ∷ es) (e ∷ finite.put name_cmp k x es)) ≤ tally_in test (e ∷ es) + one_if (test x)) [
      | Less ↦ omega (arith, tally-cons test (k, x) (e ∷ es))
      | Equal ↦ omega (arith, tally-cons test (e.0, x) es, tally-cons test e es)
      | Greater ↦
          let rest : tally_in test (finite.put name_cmp k x es) ≤ tally_in test es + one_if (test x) = tally-put test k x es in
          omega (arith, rest, tally-cons test e (finite.put name_cmp k x es), tally-cons test e es)
    ]

abbrev tally : {X : Type 0} → (X → Bool) → finite.FinMap name_cmp X → ℕ
tally test m = tally_in test (finite.entries m)

-- a row that is written counts as one, where it counts at all
one_more : {X : Type 0} (test : X → Bool) (m : finite.FinMap name_cmp X) (k : List ℕ) (x : X) → tally test (finite.insert m k x) ≤ tally test m + one_if (test x)
one_more test m k x =
    subst (λ es. tally_in test es ≤ tally test m + one_if (test x)) (sym (finite.entries-insert names_total m k x)) (tally-put test k x (finite.entries m))

both_pass : (a b : Bool) → one_if (a && b) ≤ one_if b
both_pass true b = omega arith
both_pass false b = omega arith

live_target : (live : Bool) (target station : List ℕ) → (if live then Some target else None) ≡ Some station → target ≡ station
live_target true target station is = same_Some target station is
live_target false target station is = absurd (cc is)

not_live : (live : Bool) (target : List ℕ) → (if live then Some target else None) ≡ None → live ≡ false
not_live true target is = absurd (cc is)
not_live false target is = refl

-- where one load less is known to fit at the station that a row takes a place at, what is known is left with the row
pub lowered_left : (old new : RoomsLeft) (one : Change) (station : List ℕ) → takes_room_at one ≡ Some station → IsLowered old new station → (maps : Maps) → AreLeft old maps → AreLeft new (change maps one)
lowered_left old new (row.Node id) station is lowered maps left other room there = absurd (cc is)
lowered_left old new (row.Edge id ends) station is lowered maps left other room there = absurd (cc is)
lowered_left old new (row.Station id site) station is lowered maps left other room there = absurd (cc is)
lowered_left old new (row.Vehicle key vehicle) station is lowered maps left other room there = absurd (cc is)
lowered_left old new (row.Trip order trip) station is lowered maps left other room there = absurd (cc is)
lowered_left old new (row.Leg key edge) station is lowered maps left other room there = absurd (cc is)
lowered_left old new (row.Load id (place.Station at)) station is lowered maps left other room there =
    let (before, was, lower) = lowered other room there in
    let (site, known, within) = left other before was in
    let more : stored (finite.insert maps.loads id (place.Station at)) other ≤ stored maps.loads other + one_if (pointwise nat_eq at other) = one_more (is_at other) maps.loads id (place.Station at) in
    let same : one_if (pointwise nat_eq at other) ≡ one_if (pointwise nat_eq station other) = ap (λ name. one_if (pointwise nat_eq name other)) (same_Some at station is) in
    (site, known, omega (arith, more, same, lower, within))
lowered_left old new (row.Load id (place.Vehicle key)) station is lowered maps left other room there = absurd (cc is)
lowered_left old new (row.Load id place.Checking) station is lowered maps left other room there = absurd (cc is)
lowered_left old new (row.Load id place.Left) station is lowered maps left other room there = absurd (cc is)
lowered_left old new (row.Job id job) station is lowered maps left other room there =
    let (before, was, lower) = lowered other room there in
    let (site, known, within) = left other before was in
    let more : reserved_by (finite.insert maps.jobs id job) other ≤ reserved_by maps.jobs other + one_if (is_live_to other job) = one_more (is_live_to other) maps.jobs id job in
    let few : one_if (is_live_to other job) ≤ one_if (pointwise nat_eq job.target other) = both_pass (is_live job.phase) (pointwise nat_eq job.target other) in
    let same : one_if (pointwise nat_eq job.target other) ≡ one_if (pointwise nat_eq station other) = ap (λ name. one_if (pointwise nat_eq name other)) (live_target (is_live job.phase) job.target station is) in
    (site, known, omega (arith, more, few, same, lower, within))
lowered_left old new (row.Hold thing key) station is lowered maps left other room there = absurd (cc is)
lowered_left old new (row.Used key) station is lowered maps left other room there = absurd (cc is)

-- a row that takes no place, and isn't of the layout, leaves what is known
pub still_left : (rooms : RoomsLeft) (one : Change) → is_of_layout one ≡ false → takes_room_at one ≡ None → (maps : Maps) → AreLeft rooms maps → AreLeft rooms (change maps one)
still_left rooms (row.Node id) laid none maps left other room there = absurd (cc laid)
still_left rooms (row.Edge id ends) laid none maps left other room there = absurd (cc laid)
still_left rooms (row.Station id site) laid none maps left other room there = absurd (cc laid)
still_left rooms (row.Vehicle key vehicle) laid none maps left other room there = left other room there
still_left rooms (row.Trip order trip) laid none maps left other room there = left other room there
still_left rooms (row.Leg key edge) laid none maps left other room there = left other room there
still_left rooms (row.Load id to) laid none maps left other room there =
    let (site, known, within) = left other room there in
    let more : stored (finite.insert maps.loads id to) other ≤ stored maps.loads other + one_if (is_at other to) = one_more (is_at other) maps.loads id to in
    let same : one_if (is_at other to) ≡ 0 = ap one_if (not_there to other none) in
    (site, known, omega (arith, more, same, within))
  where
    not_there : (to : Place) (other : List ℕ) → station_of_place (Some to) ≡ None → is_at other to ≡ false
    not_there (place.Station at) other is = absurd (cc is)
    not_there (place.Vehicle key) other is = refl
    not_there place.Checking other is = refl
    not_there place.Left other is = refl
still_left rooms (row.Job id job) laid none maps left other room there =
    let (site, known, within) = left other room there in
    let more : reserved_by (finite.insert maps.jobs id job) other ≤ reserved_by maps.jobs other + one_if (is_live_to other job) = one_more (is_live_to other) maps.jobs id job in
    let same : one_if (is_live_to other job) ≡ 0 = ap (λ live. one_if (live && pointwise nat_eq job.target other)) (not_live (is_live job.phase) job.target none) in
    (site, known, omega (arith, more, same, within))
still_left rooms (row.Hold thing key) laid none maps left other room there = left other room there
still_left rooms (row.Used key) laid none maps left other room there = left other room there
