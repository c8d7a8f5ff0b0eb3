-- Where the loads are after a stocktake.
use Rattle.std.proofs.Common.{◌≡◌, ℕ, Bool, true, false, cond, ◌&&◌, T, nat_eq, Option, Some, None, is_some, List, [], ◌∷◌, map, refl, sym, ap, subst, ◌∙◌}
use Rattle.std.specs.Cmp.Lexicographic.{pointwise}
use Rattle.std.specs.FinMap as finite
use Rattle.std.specs.FinMap.Entries.{find, is_sorted}
use Rattle.std.specs.List.{list_any}
use Rattle.std.specs.Option.{option_and_then}
use Rattle.std.specs.Ordering.{eq_by_cmp}
use Rattle.std.proofs.lemmas.Bool.{false≢true, or_parts, not-true}
use Rattle.agv_header.specs.Name.{name_cmp}
use Rattle.agv_header.specs.declared.refusal.Refusal.{Refusal}
use Rattle.agv_stock.specs.declared.place.Place.{Place}
use Rattle.agv_stock.specs.declared.place.Place.TheVariants as place
use Rattle.agv_world_core.specs.Worlds.{World}
use Rattle.agv_world_core.proofs.lists.Orders.{names_total}
use Rattle.agv_desk.specs.Outcomes.{Effect, Outcome, Made, Refused, moved, refuse_unless, with_effect}
use Rattle.agv_desk.specs.StockTaken.{IsStockTaken}
use Rattle.agv_desk.specs.StocktakeSteps.{Row, count_move, count_moves, finds_on_vehicle, found_at, has_load, is_on_vehicle, is_counted, is_here, new_place, new_places, recounted, take_stock}
use Rattle.agv_desk.proofs.stocktakes.PlacedLoads.{Loads, Places, find_below, find_moved, sorted_moved}
use Rattle.agv_desk.proofs.lists.SameNames.{same_name, tie_turned}

-- ---- a call that is not refused
refused_made : (why : Refusal) (effect : Effect) → Refused why ≡ Made effect → ⊥
refused_made why effect e = cc

pub same_made : (one other : Effect) → Made one ≡ Made other → one ≡ other
same_made one other e = cc

pub refuse_unless_made : (test : Bool) (why : Refusal) (rest : Outcome) (effect : Effect) → refuse_unless test why rest ≡ Made effect → (test ≡ true) × (rest ≡ Made effect)
unfolding refuse_unless
refuse_unless_made true why rest effect e = (refl, e)
refuse_unless_made false why rest effect e = absurd (refused_made why effect e)

-- ---- the places after moves in the order of names
abbrev pub or_else : Option Place → Option Place → Option Place
or_else None other = other
or_else (Some one) other = Some one

first : (a b : Bool) → T (a && b) → T a
first true b p = tt
first false b p = p

second : (a b : Bool) → T (a && b) → T b
second true b p = p
second false b p = absurd p

last_wins : (b : Bool) (later : Option Place) (now old : Option Place) → (b ≡ true → later ≡ None) → or_else later (cond b now old) ≡ or_else (cond b now later) (cond b now old)
last_wins true None now old none = elim now as (λ o. o ≡ or_else o o) [ None ↦ refl | Some x ↦ refl ]
last_wins true (Some x) now old none = absurd (false≢true (ap is_some (sym (none refl))))
last_wins false later now old none = refl

hidden : (b : Bool) (now : Place) (later old : Option Place) → or_else (cond b (Some now) later) (cond b (Some now) old) ≡ or_else (cond b (Some now) later) old
hidden true now later old = refl
hidden false now later old = refl

get-moved : (moves : Loads) → T (is_sorted name_cmp moves) → (places : Places) (q : List ℕ) → finite.get (moved places (map count_move moves)) q ≡ or_else (find name_cmp q moves) (finite.get places q)
get-moved [] h places q = refl
get-moved (load ∷ moves) h places q =
    get-moved moves (second _ _ h) (finite.insert places load.0 load.1) q
    ∙ ap (or_else (find name_cmp q moves)) (finite.get-insert names_total places load.0 load.1 q)
    ∙ last_wins (eq_by_cmp name_cmp q load.0) (find name_cmp q moves) (Some load.1) (finite.get places q)
    (λ same. ap (λ k. find name_cmp k moves) (sym (same_name load.0 q (sym (tie_turned q load.0) ∙ same))) ∙ find_below (λ _ at. Some at) load.0 moves (first _ _ h))
    ∙ hidden (eq_by_cmp name_cmp q load.0) load.1 (find name_cmp q moves) (finite.get places q)

-- where a load is afterwards, by which stations were counted, where it was found, and where it was
abbrev pub after : (List ℕ → Bool) → Option (List ℕ) → Option Place → Option Place
after counted found at = or_else (option_and_then (new_place counted found) at) at

pub get-after : (world : World) (rows : List Row) (q : List ℕ) → finite.get (moved world.places (count_moves world rows)) q ≡ after (is_counted rows) (found_at rows q) (finite.get world.places q)
get-after world rows q =
    get-moved (new_places world rows) (sorted_moved (recounted rows) (finite.entries world.places) (finite.entries_sorted world.places)) world.places q
    ∙ ap (λ o. or_else o (finite.get world.places q)) (find_moved (recounted rows) (finite.entries world.places) (finite.entries_sorted world.places) q ∙ ap (option_and_then (recounted rows q)) (sym (finite.get-entries world.places q)))

-- ---- one load
same_station : (one other : List ℕ) → Some (place.Station one) ≡ Some (place.Station other) → one ≡ other
same_station one other e = cc

checking_station : (id : List ℕ) → Some place.Checking ≡ Some (place.Station id) → ⊥
checking_station id e = cc

module _ (counted : List ℕ → Bool) (station : List ℕ) (is_one : counted station ≡ true) where
  left_alone : (b : Bool) (id : List ℕ) → counted id ≡ b → or_else (cond b (Some place.Checking) None) (Some (place.Station id)) ≡ Some (place.Station station) → ⊥
  left_alone true id is e = checking_station station e
  left_alone false id is e = false≢true (sym is ∙ ap counted (same_station id station e) ∙ is_one)

  moved_there : (b : Bool) (id found : List ℕ) → pointwise nat_eq found id ≡ b → or_else (cond b None (Some (place.Station found))) (Some (place.Station id)) ≡ Some (place.Station station) → found ≡ station
  moved_there true id found same e = same_name found id same ∙ same_station id station e
  moved_there false id found same e = same_station found station e

  from_after : (found : Option (List ℕ)) (at : Option Place) → after counted found at ≡ Some (place.Station station) → (found ≡ Some station) × (is_here at ≡ true)
  from_after found None e = absurd (false≢true (ap is_some e))
  from_after None (Some (place.Station id)) e = absurd (left_alone (counted id) id refl e)
  from_after (Some there) (Some (place.Station id)) e = (ap (λ (s : List ℕ). Some s) (moved_there (pointwise nat_eq there id) id there refl e), refl)
  from_after found (Some (place.Vehicle key)) e = cc
  from_after None (Some place.Checking) e = absurd (checking_station station e)
  from_after (Some there) (Some place.Checking) e = (ap (λ (s : List ℕ). Some s) (same_station there station e), refl)
  from_after found (Some place.Left) e = cc

  come_there : (b : Bool) (id : List ℕ) → pointwise nat_eq station id ≡ b → or_else (cond b None (Some (place.Station station))) (Some (place.Station id)) ≡ Some (place.Station station)
  come_there true id same = ap (λ k. Some (place.Station k)) (sym (same_name station id same))
  come_there false id same = refl

  to_after : (at : Option Place) → is_here at ≡ true → is_on_vehicle at ≡ false → after counted (Some station) at ≡ Some (place.Station station)
  to_after None here aboard = absurd (false≢true here)
  to_after (Some (place.Station id)) here aboard = come_there (pointwise nat_eq station id) id refl
  to_after (Some (place.Vehicle key)) here aboard = absurd (false≢true (sym aboard))
  to_after (Some place.Checking) here aboard = refl
  to_after (Some place.Left) here aboard = absurd (false≢true here)

  missed_after : after counted None (Some (place.Station station)) ≡ Some place.Checking
  missed_after = ap (λ b. or_else (cond b (Some place.Checking) None) (Some (place.Station station))) is_one

stays_after : (counted : List ℕ → Bool) (at : Option Place) → ((id : List ℕ) → at ≡ Some (place.Station id) → counted id ≡ false) → after counted None at ≡ at
stays_after counted None none = refl
stays_after counted (Some (place.Station id)) none = ap (λ b. or_else (cond b (Some place.Checking) None) (Some (place.Station id))) (none id refl)
stays_after counted (Some (place.Vehicle key)) none = refl
stays_after counted (Some place.Checking) none = refl
stays_after counted (Some place.Left) none = refl

gone_after : (counted : List ℕ → Bool) (found : Option (List ℕ)) (at : Option Place) → is_here at ≡ false → after counted found at ≡ at
gone_after counted found None gone = refl
gone_after counted found (Some (place.Station id)) gone = absurd (false≢true (sym gone))
gone_after counted found (Some (place.Vehicle key)) gone = refl
gone_after counted found (Some place.Checking) gone = absurd (false≢true (sym gone))
gone_after counted found (Some place.Left) gone = refl

not_on_vehicle : (world : World) (rows : List Row) (load station : List ℕ) → list_any (λ (row : Row). finds_on_vehicle world row.1) rows ≡ false → found_at rows load ≡ Some station → is_on_vehicle (finite.get world.places load) ≡ false
not_on_vehicle world [] load station none found = absurd (false≢true (ap is_some found))
not_on_vehicle world (row ∷ rows) load station none found =
    let parts = or_parts (finds_on_vehicle world row.1) _ none in
    elim row.1 as (λ on. finds_on_vehicle world on ≡ false → cond (has_load load on) (Some row.0) (found_at rows load) ≡ Some station → is_on_vehicle (finite.get world.places load) ≡ false) [
      | None ↦ λ _ later. not_on_vehicle world rows load station parts.1 later
      | Some name ↦ λ ashore. elim (pointwise nat_eq name load) as (λ b. pointwise nat_eq name load ≡ b → cond b (Some row.0) (found_at rows load) ≡ Some station → is_on_vehicle (finite.get world.places load) ≡ false) [
        | true ↦ λ same _. ap (λ k. is_on_vehicle (finite.get world.places k)) (sym (same_name name load same)) ∙ ashore
        | false ↦ λ _ later. not_on_vehicle world rows load station parts.1 later
      ] refl
    ] parts.0 found

-- ---- the whole
pub taken : (world : World) (rows : List Row) → list_any (λ (row : Row). finds_on_vehicle world row.1) rows ≡ false → IsStockTaken world rows (moved world.places (count_moves world rows))
taken world rows ashore = record {
  found = λ station load counted.
      let is = get-after world rows load in (
        λ there. from_after (is_counted rows) station counted (found_at rows load) (finite.get world.places load) (sym is ∙ there),
        λ both. is ∙ ap (λ f. after (is_counted rows) f (finite.get world.places load)) both.0 ∙ to_after (is_counted rows) station counted (finite.get world.places load) both.1 (not_on_vehicle world rows load station ashore both.0),
      );
  missed = λ station load counted there none.
      get-after world rows load ∙ (λ i. after (is_counted rows) (none i) (there i)) ∙ missed_after (is_counted rows) station counted;
  others = λ load none elsewhere.
      get-after world rows load ∙ ap (λ f. after (is_counted rows) f (finite.get world.places load)) none ∙ stays_after (is_counted rows) (finite.get world.places load) elsewhere;
  gone = λ load gone. get-after world rows load ∙ gone_after (is_counted rows) (found_at rows load) (finite.get world.places load) gone;
}

pub stock_taken : (world : World) (reference : List ℕ) (rows : List Row) (effect : Effect) → take_stock world reference rows ≡ Made effect → IsStockTaken world rows (with_effect world effect).places
stock_taken world reference rows effect made =
    let fresh = refuse_unless_made _ _ _ effect made in
    let known = refuse_unless_made _ _ _ effect fresh.1 in
    let once = refuse_unless_made _ _ _ effect known.1 in
    let ashore = refuse_unless_made _ _ _ effect once.1 in
    let free = refuse_unless_made _ _ _ effect ashore.1 in
    let room = refuse_unless_made _ _ _ effect free.1 in
    let few = refuse_unless_made _ _ _ effect room.1 in
    subst (λ (e : Effect). IsStockTaken world rows (with_effect world e).places) (same_made _ effect few.1) (taken world rows (not-true _ ashore.0))
