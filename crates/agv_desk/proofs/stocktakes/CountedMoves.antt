-- The loads that a stocktake moves, from its parts.
use Rattle.std.proofs.Common.{◌≡◌, ℕ, Bool, true, false, cond, ◌||◌, nat_eq, Option, Some, None, is_some, List, [], ◌∷◌, ◌++◌, map, filter, refl, sym, ap, ◌∙◌}
use Rattle.std.specs.Cmp.Lexicographic.{pointwise}
use Rattle.std.specs.FinMap as finite
use Rattle.std.specs.FinMap.Entries.{find}
use Rattle.std.specs.List.{list_all, list_any, cons_option}
use Rattle.std.specs.Map.{keys_of}
use Rattle.std.specs.Option.{option_and_then, unwrap_or}
use Rattle.std.specs.Ordering.{eq_by_cmp}
use Rattle.std.proofs.lemmas.Bool.{false≢true, and_parts, or_left, or_right}
use Rattle.std.proofs.lemmas.List.Folds.{list_any-append}
use Rattle.agv_header.specs.Name.{name_cmp}
use Rattle.agv_layout.specs.declared.station.StationSite.{StationSite}
use Rattle.agv_stock.specs.Rooms.{is_at}
use Rattle.agv_stock.specs.declared.place.Place.{Place}
use Rattle.agv_stock.specs.declared.place.Place.TheVariants as place
use Rattle.agv_world_core.specs.Questions.{loads_at}
use Rattle.agv_world_core.specs.Worlds.{World}
use Rattle.agv_world_core.proofs.lists.Entries.{entries_found}
use Rattle.agv_world_core.proofs.lists.Orders.{names_total, names_apart}
use Rattle.agv_desk.specs.CountParts.{AreThere, moves_in, moves_list, found_in, recorded, recorded_at, counted_loads, standing, standing_at, stations_in}
use Rattle.agv_desk.specs.StocktakeSteps.{Row, are_known, found_at, from_station, has_load, is_counted, new_place, new_places, recounted}
use Rattle.agv_desk.proofs.stocktakes.FoundLoads.{get-found_in}
use Rattle.agv_desk.proofs.stocktakes.PlacedLoads.{Loads, goes_from, is_in, moves_listed, settled_both}
use Rattle.agv_desk.proofs.lists.SameNames.{same_name, name_itself, tie_turned}

not_some : {A : Type 0} (x : A) → None ≡ Some x → ⊥
not_some x e = false≢true (ap is_some e)

same_some : {A : Type 0} (x y : A) → Some x ≡ Some y → x ≡ y
same_some x y e = ap (λ o. unwrap_or o x) e

-- ---- the stations that were counted
counted_known : (sites : finite.FinMap name_cmp StationSite) (rows : List Row) (id : List ℕ) → list_all (λ (row : Row). is_some (finite.get sites row.0)) rows ≡ true → is_counted rows id ≡ true → is_some (finite.get sites id) ≡ true
counted_known sites [] id known counted = absurd (false≢true counted)
counted_known sites (row ∷ rows) id known counted =
    let parts = and_parts (is_some (finite.get sites row.0)) _ known in
    elim (pointwise nat_eq row.0 id) as (λ b. pointwise nat_eq row.0 id ≡ b → (b || is_counted rows id) ≡ true → is_some (finite.get sites id) ≡ true) [
      | true ↦ λ same _. ap (λ k. is_some (finite.get sites k)) (sym (same_name row.0 id same)) ∙ parts.0
      | false ↦ λ _ rest. counted_known sites rows id parts.1 rest
    ] refl counted

is_there : (b : Bool) (o : Option StationSite) → (b ≡ true → is_some o ≡ true) → is_some (cond b o None) ≡ b
is_there true o known = known refl
is_there false o known = refl

pub get-stations_in : (world : World) (rows : List Row) (id : List ℕ) → finite.get (stations_in world rows) id ≡ cond (is_counted rows id) (finite.get world.layout.stations id) None
unfolding stations_in
get-stations_in world rows id = finite.get-retain_keys world.layout.stations (is_counted rows) id (λ x tie. ap (is_counted rows) (sym (names_apart id x tie)))

pub has-stations_in : (world : World) (rows : List Row) → are_known world rows ≡ true → (id : List ℕ) → finite.contains_key (stations_in world rows) id ≡ is_counted rows id
has-stations_in world rows known id = ap is_some (get-stations_in world rows id) ∙ is_there (is_counted rows id) (finite.get world.layout.stations id) (counted_known world.layout.stations rows id known)

module _ (world : World) where
  -- ---- the found loads are where it is recorded
  found_there : (rows : List Row) → AreThere world (recorded (counted_loads world rows))
  unfolding counted_loads
  found_there [] = tt
  found_there (row ∷ rows) =
      elim row.1 as (λ load. AreThere world (recorded (counted_loads world ((row.0, load) ∷ rows)))) [
        | None ↦ found_there rows
        | Some load ↦ elim (finite.get world.places load) as (λ o. finite.get world.places load ≡ o → AreThere world (cons_option (recorded_at load o) (recorded (counted_loads world rows)))) [
          | None ↦ λ none. found_there rows
          | Some at ↦ λ is. (is, found_there rows)
        ] refl
      ]

  -- a load that was found, and of which it is known where it is, is among them
  found_among : (rows : List Row) (q : List ℕ) (at : Place) → finite.get world.places q ≡ Some at → is_in q (recorded (counted_loads world rows)) ≡ is_some (found_at rows q)
  unfolding counted_loads
  found_among [] q at is = refl
  found_among (row ∷ rows) q at is =
      let rest = found_among rows q at is in
      elim row.1 as (λ load. is_in q (recorded (counted_loads world ((row.0, load) ∷ rows))) ≡ is_some (cond (has_load q load) (Some row.0) (found_at rows q))) [
        | None ↦ rest
        | Some load ↦ elim (pointwise nat_eq load q) as (λ b. pointwise nat_eq load q ≡ b → is_in q (cons_option (recorded_at load (finite.get world.places load)) (recorded (counted_loads world rows))) ≡ is_some (cond b (Some row.0) (found_at rows q))) [
          | true ↦ λ same.
              ap (λ o. is_in q (cons_option (recorded_at load o) (recorded (counted_loads world rows)))) (ap (finite.get world.places) (same_name load q same) ∙ is)
              ∙ ap (λ b. b || is_in q (recorded (counted_loads world rows))) same
          | false ↦ λ other. elim (finite.get world.places load) as (λ o. is_in q (cons_option (recorded_at load o) (recorded (counted_loads world rows))) ≡ is_some (found_at rows q)) [
            | None ↦ rest
            | Some there ↦ ap (λ b. b || is_in q (recorded (counted_loads world rows))) other ∙ rest
          ]
        ] refl
      ]

  -- ---- the loads at a station are there
  at_station : (id : List ℕ) (at : Place) → is_at id at ≡ true → at ≡ place.Station id
  at_station id (place.Station other) same = ap place.Station (same_name other id same)
  at_station id (place.Vehicle key) e = absurd (false≢true e)
  at_station id place.Checking e = absurd (false≢true e)
  at_station id place.Left e = absurd (false≢true e)

  abbrev kept_at : List ℕ → Loads → Loads
  kept_at id loads = filter (λ (load : List ℕ × Place). is_at id load.1) loads

  standing_of : (id : List ℕ) (loads : Loads) → AreThere world loads → AreThere world (standing_at id (keys_of (kept_at id loads)))
  standing_of id [] there = tt
  standing_of id (load ∷ loads) there =
      let rest = standing_of id loads there.1 in
      elim (is_at id load.1) as (λ b. is_at id load.1 ≡ b → AreThere world (standing_at id (keys_of (cond b (load ∷ kept_at id loads) (kept_at id loads))))) [
        | true ↦ λ here. (there.0 ∙ ap (λ (at : Place). Some at) (at_station id load.1 here), rest)
        | false ↦ λ _. rest
      ] refl

  there-append : (one other : Loads) → AreThere world one → AreThere world other → AreThere world (one ++ other)
  there-append [] other a b = b
  there-append (x ∷ one) other a b = (a.0, there-append one other a.1 b)

  pub standing_there : (stations : List (List ℕ × StationSite)) → AreThere world (standing world stations)
  unfolding loads_at
  standing_there [] = tt
  standing_there (station ∷ stations) =
      there-append (standing_at station.0 (loads_at world station.0)) (standing world stations)
      (standing_of station.0 (finite.entries world.places) (entries_found names_total world.places))
      (standing_there stations)

  -- a load at a station that is one of these is among them
  among_kept : (id q : List ℕ) (loads : Loads) → find name_cmp q loads ≡ Some (place.Station id) → is_in q (standing_at id (keys_of (kept_at id loads))) ≡ true
  among_kept id q [] is = absurd (not_some _ is)
  among_kept id q (load ∷ loads) is =
      let after : Bool → Loads = λ b. standing_at id (keys_of (cond b (load ∷ kept_at id loads) (kept_at id loads))) in
      elim (eq_by_cmp name_cmp q load.0) as (λ b. eq_by_cmp name_cmp q load.0 ≡ b → cond b (Some load.1) (find name_cmp q loads) ≡ Some (place.Station id) → is_in q (after (is_at id load.1)) ≡ true) [
        | true ↦ λ same found.
            ap (λ b. is_in q (after b)) (ap (is_at id) (same_some _ _ found) ∙ name_itself id)
            ∙ ap (λ b. b || is_in q (after false)) (sym (tie_turned q load.0) ∙ same)
        | false ↦ λ _ found.
            let rest = among_kept id q loads found in
            elim (is_at id load.1) as (λ b. is_in q (after b) ≡ true) [ true ↦ or_right (pointwise nat_eq load.0 q) (is_in q (after false)) rest | false ↦ rest ]
      ] refl is

  among_standing : (id q : List ℕ) (stations : List (List ℕ × StationSite)) → finite.get world.places q ≡ Some (place.Station id) → list_any (eq_by_cmp name_cmp id) (map (λ (s : List ℕ × StationSite). s.0) stations) ≡ true
      → is_in q (standing world stations) ≡ true
  unfolding loads_at
  among_standing id q [] is one = absurd (false≢true one)
  among_standing id q (station ∷ stations) is one =
      let loads = standing_at station.0 (loads_at world station.0) in
      let joined = list_any-append (λ (load : List ℕ × Place). pointwise nat_eq load.0 q) loads (standing world stations) in
      elim (eq_by_cmp name_cmp id station.0) as (λ b. eq_by_cmp name_cmp id station.0 ≡ b → (b || list_any (eq_by_cmp name_cmp id) (map (λ (s : List ℕ × StationSite). s.0) stations)) ≡ true → is_in q (loads ++ standing world stations) ≡ true) [
        | true ↦ λ same _.
            let here = among_kept station.0 q (finite.entries world.places) (sym (finite.get-entries world.places q) ∙ is ∙ ap (λ k. Some (place.Station k)) (sym (same_name station.0 id (sym (tie_turned id station.0) ∙ same)))) in
            joined ∙ or_left (is_in q loads) (is_in q (standing world stations)) here
        | false ↦ λ _ rest. joined ∙ or_right (is_in q loads) (is_in q (standing world stations)) (among_standing id q stations is rest)
      ] refl one

  -- ---- each load that moves was found, or stands at a station that was counted
  counted_at : (counted : Bool) (id : List ℕ) (to : Place) → from_station counted id None ≡ Some to → counted ≡ true
  counted_at true id to e = refl
  counted_at false id to e = absurd (not_some to e)

  module _ (rows : List Row) where
    stations : finite.FinMap name_cmp StationSite
    stations = stations_in world rows

    not_found : (q : List ℕ) (at to : Place) → finite.get world.places q ≡ Some at → new_place (finite.contains_key stations) None at ≡ Some to → is_in q (standing world (finite.entries stations)) ≡ true
    not_found q (place.Station id) to is goes =
        among_standing id q (finite.entries stations) is (sym (finite.contains_key-keys stations id) ∙ counted_at (finite.contains_key stations id) id to goes)
    not_found q (place.Vehicle key) to is goes = absurd (not_some to goes)
    not_found q place.Checking to is goes = absurd (not_some to goes)
    not_found q place.Left to is goes = absurd (not_some to goes)

    moving : (q : List ℕ) (to : Place) → goes_from world.places (finite.contains_key stations) (found_in rows) q ≡ Some to
        → (is_in q (recorded (counted_loads world rows)) || is_in q (standing world (finite.entries stations))) ≡ true
    moving q to =
        elim (finite.get world.places q) as (λ o. finite.get world.places q ≡ o → option_and_then (λ at. new_place (finite.contains_key stations) (finite.get (found_in rows) q) at) o ≡ Some to → (is_in q (recorded (counted_loads world rows)) || is_in q (standing world (finite.entries stations))) ≡ true) [
          | None ↦ λ _ goes. absurd (not_some to goes)
          | Some at ↦ λ is goes.
              let among = found_among rows q at is in
              let goes_by : new_place (finite.contains_key stations) (found_at rows q) at ≡ Some to = ap (λ f. new_place (finite.contains_key stations) f at) (sym (get-found_in rows q)) ∙ goes in
              ap (λ b. b || is_in q (standing world (finite.entries stations))) among
              ∙ elim (found_at rows q) as (λ f. new_place (finite.contains_key stations) f at ≡ Some to → (is_some f || is_in q (standing world (finite.entries stations))) ≡ true) [
                | None ↦ λ none_goes. not_found q at to is none_goes
                | Some id ↦ λ _. refl
              ] goes_by
        ] refl

    -- the loads that move are those of the whole of the rows
    pub moves_are : are_known world rows ≡ true → moves_list (stations_in world rows) (found_in rows) (counted_loads world rows) (standing world (finite.entries (stations_in world rows))) ≡ new_places world rows
    unfolding moves_in stations
    moves_are known =
        let has = has-stations_in world rows known in
        moves_listed (recounted rows) world.places _
        (λ q.
        settled_both world.places (finite.contains_key (stations_in world rows)) (found_in rows) (recorded (counted_loads world rows)) (standing world (finite.entries (stations_in world rows)))
        (found_there rows) (standing_there (finite.entries (stations_in world rows))) moving q
        ∙ (λ i. option_and_then (λ at. new_place (λ id. has id i) (get-found_in rows q i) at) (finite.get world.places q)))
