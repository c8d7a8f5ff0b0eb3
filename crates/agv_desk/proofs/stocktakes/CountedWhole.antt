-- What a stocktake finds out by its parts is what is said of the whole of its rows.
use Rattle.std.proofs.Common.{◌≡◌, ℕ, ◌+◌, Bool, true, false, cond, not, ◌&&◌, ◌||◌, nat_eq, nat_lt, Option, Some, None, is_some, List, [], ◌∷◌, length, map, filter_map, arith, refl, sym, ap, ◌∙◌}
use Rattle.std.specs.Cmp.{both_ways}
use Rattle.std.specs.Cmp.Lexicographic.{pointwise}
use Rattle.std.specs.FinMap as finite
use Rattle.std.specs.List.{AllByRecursion, list_all, list_any, cons_option}
use Rattle.std.specs.Ordering.{eq_by_cmp}
use Rattle.std.proofs.lemmas.Bool.{false≢true, and_parts, or_left, or_right}
use Rattle.std.proofs.lemmas.List.{length-map}
use Rattle.std.proofs.lemmas.List.Sums.{sum_by-cons}
use Rattle.agv_header.specs.Limits.{most_records}
use Rattle.agv_header.specs.Name.{name_cmp}
use Rattle.agv_header.specs.declared.refusal.Refusal.TheVariants as refusal
use Rattle.agv_layout.specs.declared.station.StationSite.{StationSite}
use Rattle.agv_stock.specs.declared.place.Place.{Place}
use Rattle.agv_world_core.specs.Questions.{reserved, count_of}
use Rattle.agv_world_core.specs.Worlds.{World}
use Rattle.agv_world_core.specs.declared.floor.Counted.TheVariants as counted
use Rattle.agv_world_core.proofs.lists.Entries.{entries_found}
use Rattle.agv_world_core.proofs.lists.Orders.{names_total}
use Rattle.agv_desk.specs.CountParts.{all_have_room, count_by_parts, found_in, has_room_for, is_found_at, moves_list, count_at, counted_loads, standing, stations_in, unknown_one}
use Rattle.agv_desk.specs.Outcomes.{Outcome, Made, Move, Refused, refuse_unless, answer_only}
use Rattle.agv_desk.specs.Shared.{is_in_job, reference_key}
use Rattle.agv_desk.specs.StocktakeSteps.{Row, are_known, count_loads, count_move, finds_on_vehicle, finds_known, fits, found_here, is_on_vehicle, is_counted, is_here, new_places, unknown_in, unknown_on}
use Rattle.agv_desk.specs.declared.answer.Answer.TheVariants as answer
use Rattle.agv_desk.specs.declared.stocktake.counted_load.CountedLoad.{CountedLoad}
use Rattle.agv_desk.proofs.stocktakes.CountedMoves.{get-stations_in, has-stations_in, moves_are}
use Rattle.agv_desk.proofs.lists.SameNames.{same_name, name_itself, tie_turned}

-- ---- tests of names that two lists share
module _ {A : Type 0} (name : A → List ℕ) (test : List ℕ → Bool) where
  abbrev pub names : List A → List ℕ → Bool
  names xs q = list_any (λ x. pointwise nat_eq (name x) q) xs

  pub passes : (xs : List A) (q : List ℕ) → list_all (λ x. test (name x)) xs ≡ true → names xs q ≡ true → test q ≡ true
  passes [] q all one = absurd (false≢true one)
  passes (x ∷ xs) q all one =
      let parts = and_parts (test (name x)) _ all in
      elim (pointwise nat_eq (name x) q) as (λ b. pointwise nat_eq (name x) q ≡ b → (b || names xs q) ≡ true → test q ≡ true) [
        | true ↦ λ same _. ap test (sym (same_name (name x) q same)) ∙ parts.0
        | false ↦ λ _ rest. passes xs q parts.1 rest
      ] refl one

  all_pass : (xs : List A) → ((q : List ℕ) → names xs q ≡ true → test q ≡ true) → list_all (λ x. test (name x)) xs ≡ true
  all_pass [] each = refl
  all_pass (x ∷ xs) each =
      ap (λ b. b && list_all (λ x. test (name x)) xs) (each (name x) (or_left (pointwise nat_eq (name x) (name x)) (names xs (name x)) (name_itself (name x))))
      ∙ all_pass xs (λ q one. each q (or_right (pointwise nat_eq (name x) q) (names xs q) one))

same_all : {A B : Type 0} (name : A → List ℕ) (other : B → List ℕ) (test : List ℕ → Bool) (xs : List A) (ys : List B)
    → ((q : List ℕ) → list_any (λ x. pointwise nat_eq (name x) q) xs ≡ list_any (λ y. pointwise nat_eq (other y) q) ys)
    → list_all (λ x. test (name x)) xs ≡ list_all (λ y. test (other y)) ys
same_all name other test xs ys same =
    both_ways _ _
    (λ all. all_pass other test ys (λ q one. passes name test xs q all (same q ∙ one)))
    (λ all. all_pass name test xs (λ q one. passes other test ys q all (sym (same q) ∙ one)))

-- ---- the stations
keys_named : (q : List ℕ) (stations : List (List ℕ × StationSite)) → list_any (eq_by_cmp name_cmp q) (map (λ (s : List ℕ × StationSite). s.0) stations) ≡ list_any (λ (s : List ℕ × StationSite). pointwise nat_eq s.0 q) stations
keys_named q [] = refl
keys_named q (station ∷ stations) = λ i. tie_turned q station.0 i || keys_named q stations i

kept_site : (counted : Bool) (found : Option StationSite) (site : StationSite) → cond counted found None ≡ Some site → found ≡ Some site
kept_site true found site e = e
kept_site false found site e = absurd (false≢true (ap is_some e))

no_more : (b : Bool) (n : ℕ) → n ≡ cond (b && false) 1 0 + n
no_more true n = omega arith
no_more false n = omega arith

module _ (world : World) where
  -- ---- what was found
  on_vehicle_are : (rows : List Row) → list_any (λ (one : CountedLoad). is_on_vehicle one.place) (counted_loads world rows) ≡ list_any (λ (row : Row). finds_on_vehicle world row.1) rows
  unfolding counted_loads
  on_vehicle_are [] = refl
  on_vehicle_are (row ∷ rows) =
      elim row.1 as (λ load. list_any (λ (one : CountedLoad). is_on_vehicle one.place) (counted_loads world ((row.0, load) ∷ rows)) ≡ (finds_on_vehicle world load || list_any (λ (row : Row). finds_on_vehicle world row.1) rows)) [
        | None ↦ on_vehicle_are rows
        | Some load ↦ ap (λ b. is_on_vehicle (finite.get world.places load) || b) (on_vehicle_are rows)
      ]

  unknown_are : (rows : List Row) → filter_map unknown_one (counted_loads world rows) ≡ unknown_in world rows
  unfolding counted_loads
  unknown_are [] = refl
  unknown_are (row ∷ rows) =
      elim row.1 as (λ load. filter_map unknown_one (counted_loads world ((row.0, load) ∷ rows)) ≡ cons_option (unknown_on world load) (unknown_in world rows)) [
        | None ↦ unknown_are rows
        | Some load ↦ ap (cons_option (cond (is_here (finite.get world.places load)) None (Some load))) (unknown_are rows)
      ]

  counts_are : (station : List ℕ) (rows : List Row) → count_at (counted_loads world rows) station ≡ found_here world rows station
  unfolding counted_loads
  counts_are station [] = refl
  counts_are station (row ∷ rows) =
      let found : Row → Bool = λ row. pointwise nat_eq row.0 station && finds_known world row.1 in
      elim row.1 as (λ load. count_at (counted_loads world ((row.0, load) ∷ rows)) station ≡ cond (pointwise nat_eq row.0 station && finds_known world load) 1 0 + found_here world rows station) [
        | None ↦ counts_are station rows ∙ no_more (pointwise nat_eq row.0 station) (found_here world rows station)
        | Some load ↦
            sum_by-cons (λ (one : CountedLoad). cond (is_found_at station one) 1 0) (record { station = row.0; load = load; place = finite.get world.places load }) (counted_loads world rows)
            ∙ ap (λ n. cond (pointwise nat_eq row.0 station && is_here (finite.get world.places load)) 1 0 + n) (counts_are station rows)
      ]
      ∙ sym (sum_by-cons (λ (row : Row). cond (found row) 1 0) row rows)

  -- ---- whether they fit
  module _ (rows : List Row) where
    abbrev fits_at : List ℕ → Bool
    fits_at station = fits world rows station (finite.get world.layout.stations station)

    room_of_each : (stations : List (List ℕ × StationSite)) → AllByRecursion (λ (s : List ℕ × StationSite). finite.get (stations_in world rows) s.0 ≡ Some s.1) stations
        → all_have_room world (counted_loads world rows) stations ≡ list_all (λ (s : List ℕ × StationSite). fits_at s.0) stations
    room_of_each [] there = refl
    room_of_each (station ∷ stations) there =
        let known = kept_site (is_counted rows station.0) (finite.get world.layout.stations station.0) station.1 (sym (get-stations_in world rows station.0) ∙ there.0) in
        let here : has_room_for (count_at (counted_loads world rows) station.0) (reserved world station.0) station.1 ≡ fits_at station.0 =
        ap (λ n. has_room_for n (reserved world station.0) station.1) (counts_are station.0 rows) ∙ ap (fits world rows station.0) (sym known) in
        λ i. here i && room_of_each stations there.1 i

    room_is : are_known world rows ≡ true → all_have_room world (counted_loads world rows) (finite.entries (stations_in world rows)) ≡ list_all (λ (row : Row). fits_at row.0) rows
    room_is known =
        let stations = finite.entries (stations_in world rows) in
        room_of_each stations (entries_found names_total (stations_in world rows))
        ∙ same_all (λ (s : List ℕ × StationSite). s.0) (λ (row : Row). row.0) fits_at stations rows
        (λ q. sym (keys_named q stations) ∙ sym (finite.contains_key-keys (stations_in world rows) q) ∙ has-stations_in world rows known q)

  jobs_of : (moves : List (List ℕ × Place)) → list_any (λ (load : List ℕ × Place). is_in_job world load.0) moves ≡ list_any (λ (move : Move). is_in_job world move.load) (map count_move moves)
  jobs_of [] = refl
  jobs_of (load ∷ moves) = ap (λ b. is_in_job world load.0 || b) (jobs_of moves)

  -- ---- the whole
  pub by_parts : (reference : List ℕ) (rows : List Row) → are_known world rows ≡ true → count_by_parts world reference (stations_in world rows) (found_in rows) (counted_loads world rows) (standing world (finite.entries (stations_in world rows))) ≡ count_loads world reference rows
  by_parts reference rows known =
      let moves : moves_list (stations_in world rows) (found_in rows) (counted_loads world rows) (standing world (finite.entries (stations_in world rows))) ≡ new_places world rows = moves_are world rows known in
      let in_job = ap (λ (moves : List (List ℕ × Place)). list_any (λ (load : List ℕ × Place). is_in_job world load.0) moves) moves ∙ jobs_of (new_places world rows) in
      let count = ap (λ (moves : List (List ℕ × Place)). length moves) moves ∙ sym (length-map (new_places world rows) count_move) in
      λ i.
      refuse_unless (not (on_vehicle_are rows i)) refusal.OnVehicle
      (refuse_unless (not (in_job i)) refusal.InJob
      (refuse_unless (room_is rows known i) refusal.Full
      (refuse_unless (nat_lt (count_of world counted.References) most_records) refusal.Limit
      (Made (record (answer_only (answer.Counted (count i) (unknown_are rows i))) { moves = map count_move (moves i); uses = reference_key reference ∷ [] })))))

-- a list of moves, as rows that change
pub move_rows : {C : Type 0} (row : List ℕ → Place → C) (moves : List (List ℕ × Place)) → map (λ (load : List ℕ × Place). row load.0 load.1) moves ≡ map (λ (move : Move). row move.load move.place) (map count_move moves)
move_rows row [] = refl
move_rows row (load ∷ moves) = ap (λ rest. row load.0 load.1 ∷ rest) (move_rows row moves)

-- all checks pass
pub passed : (aboard in_job room few : Bool) (rest : Outcome) → aboard ≡ false → in_job ≡ false → room ≡ true → few ≡ true
    → rest ≡ refuse_unless (not aboard) refusal.OnVehicle (refuse_unless (not in_job) refusal.InJob (refuse_unless room refusal.Full (refuse_unless few refusal.Limit rest)))
unfolding refuse_unless
passed aboard in_job room few rest a b c d =
    λ i. refuse_unless (not (sym a i)) refusal.OnVehicle (refuse_unless (not (sym b i)) refusal.InJob (refuse_unless (sym c i) refusal.Full (refuse_unless (sym d i) refusal.Limit rest)))

-- all but the last
pub limited : (aboard in_job room few : Bool) (rest : Outcome) → aboard ≡ false → in_job ≡ false → room ≡ true → few ≡ false
    → Refused refusal.Limit ≡ refuse_unless (not aboard) refusal.OnVehicle (refuse_unless (not in_job) refusal.InJob (refuse_unless room refusal.Full (refuse_unless few refusal.Limit rest)))
unfolding refuse_unless
limited aboard in_job room few rest a b c d =
    λ i. refuse_unless (not (sym a i)) refusal.OnVehicle (refuse_unless (not (sym b i)) refusal.InJob (refuse_unless (sym c i) refusal.Full (refuse_unless (sym d i) refusal.Limit rest)))

pub opened : (new known twice : Bool) (rest : Outcome) → new ≡ true → known ≡ true → twice ≡ false → rest ≡ refuse_unless new refusal.RefUsed (refuse_unless known refusal.NoStation (refuse_unless (not twice) refusal.CountTwice rest))
unfolding refuse_unless
opened new known twice rest a b c = λ i. refuse_unless (sym a i) refusal.RefUsed (refuse_unless (sym b i) refusal.NoStation (refuse_unless (not (sym c i)) refusal.CountTwice rest))
