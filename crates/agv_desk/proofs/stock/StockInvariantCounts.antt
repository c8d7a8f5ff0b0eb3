-- The stock invariant holds after a stocktake, which moves several free loads at once.
use Rattle.std.proofs.Common.{◌≡◌, ◌⊎◌, ◌||◌, ◌+◌, ◌≤◌, ℕ, Bool, true, false, cond, is_some, nat_eq, nat_le, List, [], ◌∷◌, map, filter_map, Option, None, Some, arith, inl, inr, refl, sym, ap, subst, ◌∙◌}
use Rattle.std.specs.Cmp.Lexicographic.{pointwise}
use Rattle.std.specs.FinMap as finite
use Rattle.std.specs.List.{AllByRecursion, cons_option, list_all, list_any}
use Rattle.std.specs.Option.{option_map}
use Rattle.std.proofs.lemmas.Bool.{false≢true, and_parts, not-true, or_left, or_parts, or_right}
use Rattle.std.proofs.lemmas.Bool.Decides.{nat_tests}
use Rattle.agv_header.specs.Name.{IsName}
use Rattle.agv_header.specs.declared.key.VehicleKey.{VehicleKey}
use Rattle.agv_layout.specs.Layout.{Layout, IsStation}
use Rattle.agv_layout.specs.declared.station.StationSite.{StationSite}
use Rattle.agv_stock.specs.Phase.{is_live}
use Rattle.agv_stock.specs.Rooms.{is_at, is_on}
use Rattle.agv_stock.specs.declared.place.Place.{Place}
use Rattle.agv_stock.specs.declared.place.Place.TheVariants as place
use Rattle.agv_world_core.specs.StockInvariant.{StockInvariant, ActionView, HasStockInvariant, IsKnownPlace, Jobs, Places, capacity_of, action_views_of, stored}
use Rattle.agv_world_core.specs.Questions.{reserved, loads_on_vehicle, reserved_by}
use Rattle.agv_world_core.specs.Worlds.{World}
use Rattle.agv_world_core.specs.declared.row.JobRow.{JobRow}
use Rattle.agv_world_core.proofs.lists.Entries.{entries_found, same_Some}
use Rattle.agv_world_core.proofs.lists.Orders.{names_total, names_apart}
use Rattle.agv_desk.specs.Outcomes.{Effect, Move, moved}
use Rattle.agv_desk.specs.Shared.{is_in_job}
use Rattle.agv_desk.specs.StocktakeSteps.{Row, count_move, count_moves, finds_on_vehicle, fits, found_at, found_here, has_load, is_counted, new_entry, new_place, recounted, take_stock}
use Rattle.agv_desk.proofs.stock.StockInvariantChanges.{IsFree}
use Rattle.agv_desk.proofs.stocktakes.CountedRoom.{counted_few}
use Rattle.agv_desk.proofs.stocktakes.CountedWhole.{passes}
use Rattle.agv_desk.proofs.outcomes.Keeping.{KeepsStock}
use Rattle.agv_desk.proofs.outcomes.Known.{none_some}
use Rattle.agv_desk.proofs.outcomes.Ladders.{IfMade, made_refuse_unless}
use Rattle.agv_desk.proofs.lists.SameNames.{same_name, name_itself}
use Rattle.agv_desk.proofs.stock.Shifts.{live_if_riding, live_if_waiting, stands_still}
use Rattle.agv_desk.proofs.stock.StockChecks.{free_if}
use Rattle.agv_desk.proofs.stocktakes.StockLaws.{taken}
use Rattle.agv_desk.proofs.lists.Writes.{is_written, len-written, one_if, same_or_other, tally, tally-written, written_cases, written_has}

-- the load is known
abbrev IsKnown : Places → List ℕ → Type 0
IsKnown places load = (at : Place) × (finite.get places load ≡ Some at)

-- several free loads get places that are no vehicles
pub record PlacesChange (layout : Layout) (places : Places) (jobs : Jobs) : Type 0 where
  pub after : Places
  pub few : finite.len after ≤ 1000000
  pub came : (load : List ℕ) (at : Place) → finite.get after load ≡ Some at → (finite.get places load ≡ Some at) ⊎ (IsName load × IsKnownPlace layout at)
  pub stays : (load : List ℕ) (at : Place) → finite.get places load ≡ Some at → (finite.get after load ≡ Some at) ⊎ (IsFree jobs load × IsKnown after load)
  pub room : (station : List ℕ) (site : StationSite) → IsStation layout station site → stored after station + reserved_by jobs station ≤ site.capacity
  pub ashore : (key : VehicleKey) → loads_on_vehicle after key ≤ loads_on_vehicle places key

module _ (layout : Layout) (carries : VehicleKey → List ActionView) (capacity : VehicleKey → ℕ) (places : Places) (jobs : Jobs) (stock : StockInvariant layout carries capacity places jobs) (c : PlacesChange layout places jobs) where
  still_known : (load : List ℕ) → IsKnown places load → IsKnown c.after load
  still_known load known = elim (c.stays load known.0 known.1) [
    | inl same ↦ (known.0, same)
    | inr freed ↦ freed.1
  ]

  -- the load of a live job stays
  live_stays : (job : List ℕ) (row : JobRow) (at : Place) → finite.get jobs job ≡ Some row → is_live row.phase ≡ true → finite.get places row.load ≡ Some at → finite.get c.after row.load ≡ Some at
  live_stays job row at there live here = elim (c.stays row.load at here) [
    | inl same ↦ same
    | inr freed ↦ absurd (freed.0 job row there live refl)
  ]

  live_same : (job : List ℕ) (row : JobRow) → finite.get jobs job ≡ Some row → is_live row.phase ≡ true → finite.get c.after row.load ≡ finite.get places row.load
  live_same job row there live = let known = (stock.known job row there).load in live_stays job row known.0 there live known.1 ∙ sym known.1

  fewer : (a b d c : ℕ) → a ≤ b → b + d ≤ c → a + d ≤ c
  fewer a b d c h g = omega arith

  pub places_kept : StockInvariant layout carries capacity c.after jobs
  places_kept = record {
    few_loads = c.few;
    few_jobs = stock.few_jobs;
    loads_named = λ load at there. elim (c.came load at there) [ inl old ↦ stock.loads_named load at old | inr new ↦ new.0 ];
    jobs_named = stock.jobs_named;
    known_places = λ load at there. elim (c.came load at there) [ inl old ↦ stock.known_places load at old | inr new ↦ new.1 ];
    known = λ job row there. let known = stock.known job row there in record { load = still_known row.load known.load; origin = known.origin; target = known.target };
    room = c.room;
    within_capacity = λ key. fewer _ _ _ _ (c.ashore key) (stock.within_capacity key);
    one_job = stock.one_job;
    waiting = λ job row there waits. live_same job row there (live_if_waiting _ waits) ∙ stock.waiting job row there waits;
    riding = stock.riding;
    carried = λ key k action_view there.
        let was = stock.carried key k action_view there in
        record {
          row = was.row;
          here = was.here;
          load = was.load;
          station = was.station;
          stands = stands_still places c.after key action_view.load action_view.station action_view.kind action_view.finished was.row.phase
              (λ riding. subst (λ load. finite.get c.after load ≡ finite.get places load) was.load (live_same action_view.job was.row was.here (live_if_riding _ riding))) was.stands;
        };
    once = stock.once;
  }

-- ---- what a list of moves leaves
abbrev Each : (Move → Type 0) → List Move → Type 0
Each P moves = AllByRecursion P moves

each_of : (P Q : Move → Type 0) → ((move : Move) → P move → Q move) → (moves : List Move) → Each P moves → Each Q moves
each_of P Q f [] all = tt
each_of P Q f (move ∷ moves) all = (f move all.0, each_of P Q f moves all.1)

-- a place is the old one, or that of a move
came_by : (P : Move → Type 0) (moves : List Move) (places : Places) → Each P moves → (load : List ℕ) (at : Place) → finite.get (moved places moves) load ≡ Some at
    → (finite.get places load ≡ Some at) ⊎ ((move : Move) × (move.load ≡ load) × P move × (move.place ≡ at))
came_by P [] places all load at there = inl there
came_by P (move ∷ moves) places all load at there = elim (came_by P moves (finite.insert places move.load move.place) all.1 load at there) [
  | inl here ↦ elim (written_cases names_total names_apart places move.load move.place _ (is_written names_total names_apart places move.load move.place) load at here) [
    | inl this ↦ inr (move, sym this.0, all.0, sym this.1)
    | inr old ↦ inl old.1
  ]
  | inr later ↦ inr later
]

-- a load is where it was, or has moved
stays_by : (P : List ℕ → Type 0) (moves : List Move) (places : Places) → Each (λ move. P move.load) moves → (load : List ℕ) (at : Place) → finite.get places load ≡ Some at
    → (finite.get (moved places moves) load ≡ Some at) ⊎ (P load × IsKnown (moved places moves) load)
stays_by P [] places all load at there = inl there
stays_by P (move ∷ moves) places all load at there = elim (same_or_other names_total names_apart load move.load) [
  | inl same ↦ elim (stays_by P moves (finite.insert places move.load move.place) all.1 load move.place (ap (finite.get (finite.insert places move.load move.place)) same ∙ (is_written names_total names_apart places move.load move.place).here)) [
    | inl here ↦ inr (subst P (sym same) all.0, (move.place, here))
    | inr later ↦ inr later
  ]
  | inr other ↦ stays_by P moves (finite.insert places move.load move.place) all.1 load at ((is_written names_total names_apart places move.load move.place).there load other ∙ there)
]

-- known loads alone move, so there are as many
pub len_by : (moves : List Move) (places : Places) → Each (λ move. IsKnown places move.load) moves → finite.len (moved places moves) ≡ finite.len places
len_by [] places all = refl
len_by (move ∷ moves) places all =
    len_by moves (finite.insert places move.load move.place) (each_of (λ one. IsKnown places one.load) (λ one. IsKnown (finite.insert places move.load move.place) one.load) (λ one known. still one.load known) moves all.1)
    ∙ len-written names_total names_apart places move.load move.place all.0.0 _ (is_written names_total names_apart places move.load move.place) all.0.1
  where
    still : (load : List ℕ) → IsKnown places load → IsKnown (finite.insert places move.load move.place) load
    still load known = written_has names_total names_apart places move.load move.place _ (is_written names_total names_apart places move.load move.place) load known

-- where no new place passes a test, no more pass it
tally_by : (test : Place → Bool) (moves : List Move) (places : Places) → Each (λ move. test move.place ≡ false) moves → tally test (moved places moves) ≤ tally test places
tally_by test [] places all = omega arith
tally_by test (move ∷ moves) places all =
    fewer _ _ _ _ _ (tally_by test moves (finite.insert places move.load move.place) all.1)
    (tally-written names_total names_apart test places move.load move.place _ (is_written names_total names_apart places move.load move.place)) (ap one_if all.0)
  where
    fewer : (a b c d x : ℕ) → a ≤ b → b + c ≡ d + x → x ≡ 0 → a ≤ d
    fewer a b c d x f e z = omega arith

-- ---- the moves of a stocktake
module _ (world : World) (rows : List Row) where
  -- a load comes to the checking place, or to a station that is known and was counted
  abbrev Comes : Place → Type 0
  Comes to = (to ≡ place.Checking) ⊎ ((station : List ℕ) × (to ≡ place.Station station) × (is_some (finite.get world.layout.stations station) ≡ true) × (is_counted rows station ≡ true))

  record IsCountMove (move : Move) : Type 0 where
    known : IsKnown world.places move.load
    comes : Comes move.place

  abbrev AreKnown : List Row → Type 0
  AreKnown some = list_all (λ (row : Row). is_some (finite.get world.layout.stations row.0)) some ≡ true

  station_of : (b : Bool) (found : List ℕ) (to : Place) → cond b None (Some (place.Station found)) ≡ Some to → place.Station found ≡ to
  station_of true found to e = none_some e
  station_of false found to e = same_Some _ _ e

  checking_of : (b : Bool) (to : Place) → cond b (Some place.Checking) None ≡ Some to → place.Checking ≡ to
  checking_of true to e = same_Some _ _ e
  checking_of false to e = none_some e

-- the station where a load was found is known and was counted
found_known : (world : World) (rows : List Row) → AreKnown world rows rows → (load station : List ℕ) → found_at rows load ≡ Some station → (is_some (finite.get world.layout.stations station) ≡ true) × (is_counted rows station ≡ true)
found_known world [] known load station found = none_some found
found_known world (row ∷ rows) known load station found =
    let parts = and_parts (is_some (finite.get world.layout.stations row.0)) _ known in
    elim (has_load load row.1) as (λ b. cond b (Some row.0) (found_at rows load) ≡ Some station → (is_some (finite.get world.layout.stations station) ≡ true) × ((pointwise nat_eq row.0 station || is_counted rows station) ≡ true)) [
      | true ↦ λ here.
          let is : row.0 ≡ station = same_Some _ _ here in
          (ap (λ q. is_some (finite.get world.layout.stations q)) (sym is) ∙ parts.0, or_left _ _ (ap (pointwise nat_eq row.0) (sym is) ∙ name_itself row.0))
      | false ↦ λ later.
          let rest = found_known world rows parts.1 load station later in
          (rest.0, or_right _ _ rest.1)
    ] found

module _ (world : World) (rows : List Row) (known : AreKnown world rows rows) where
  comes_from : (load : List ℕ) (found : Option (List ℕ)) → found_at rows load ≡ found → (at to : Place) → new_place (is_counted rows) found at ≡ Some to → Comes world rows to
  comes_from load None is (place.Station id) to goes = inl (sym (checking_of world rows (is_counted rows id) to goes))
  comes_from load (Some found) is (place.Station id) to goes =
      let there = found_known world rows known load found is in
      inr (found, sym (station_of world rows (pointwise nat_eq found id) found to goes), there.0, there.1)
  comes_from load None is (place.Vehicle key) to goes = none_some goes
  comes_from load (Some found) is (place.Vehicle key) to goes = none_some goes
  comes_from load None is place.Checking to goes = none_some goes
  comes_from load (Some found) is place.Checking to goes =
      let there = found_known world rows known load found is in
      inr (found, sym (same_Some _ _ goes), there.0, there.1)
  comes_from load None is place.Left to goes = none_some goes
  comes_from load (Some found) is place.Left to goes = none_some goes

  -- each move is of a known load, and comes to the checking place or to a counted station
  count_moves_by : (loads : List (List ℕ × Place)) → AllByRecursion (λ (load : List ℕ × Place). finite.get world.places load.0 ≡ Some load.1) loads
      → Each (IsCountMove world rows) (map count_move (filter_map (new_entry rows) loads))
  count_moves_by [] all = tt
  count_moves_by (load ∷ loads) all =
      let rest = count_moves_by loads all.1 in
      elim (recounted rows load.0 load.1) as (λ goes. recounted rows load.0 load.1 ≡ goes
      → Each (IsCountMove world rows) (map count_move (cons_option (option_map (λ (to : Place). (load.0, to)) goes) (filter_map (new_entry rows) loads)))) [
        | None ↦ λ stays. rest
        | Some to ↦ λ goes. (record { known = (load.1, all.0); comes = comes_from load.0 (found_at rows load.0) refl load.1 to goes }, rest)
      ] refl

  all_moves : Each (IsCountMove world rows) (count_moves world rows)
  all_moves = count_moves_by (finite.entries world.places) (entries_found names_total world.places)

  -- so there are as many loads
  pub as_many_loads : finite.len (moved world.places (count_moves world rows)) ≡ finite.len world.places
  as_many_loads =
      len_by (count_moves world rows) world.places
      (each_of (IsCountMove world rows) (λ move. IsKnown world.places move.load) (λ move is. is.known) (count_moves world rows) all_moves)

  free_moves : (moves : List Move) → list_any (λ (move : Move). is_in_job world move.load) moves ≡ false → Each (λ move. IsFree world.jobs move.load) moves
  free_moves [] none = tt
  free_moves (move ∷ moves) none = let parts = or_parts (is_in_job world move.load) _ none in (free_if world move.load parts.0, free_moves moves parts.1)

  known_place_of : (to : Place) → Comes world rows to → IsKnownPlace world.layout to
  known_place_of to (inl checking) = subst (IsKnownPlace world.layout) (sym checking) tt
  known_place_of to (inr station) = subst (IsKnownPlace world.layout) (sym station.1) (there (finite.get world.layout.stations station.0) station.2)
    where
      there : (found : Option StationSite) → is_some found ≡ true → (site : StationSite) × (found ≡ Some site)
      there None e = absurd (false≢true e)
      there (Some site) e = (site, refl)

  not_on_vehicle : (key : VehicleKey) (to : Place) → Comes world rows to → is_on key to ≡ false
  not_on_vehicle key to (inl checking) = ap (is_on key) checking
  not_on_vehicle key to (inr station) = ap (is_on key) station.1

  -- no load comes to a station that was not counted
  not_there : (station : List ℕ) → is_counted rows station ≡ false → (to : Place) → Comes world rows to → is_at station to ≡ false
  not_there station uncounted to (inl checking) = ap (is_at station) checking
  not_there station uncounted to (inr other) =
      elim (pointwise nat_eq other.0 station) as (λ b. pointwise nat_eq other.0 station ≡ b → is_at station to ≡ false) [
        | true ↦ λ same. absurd (false≢true (sym uncounted ∙ ap (is_counted rows) (sym (same_name other.0 station same)) ∙ other.3))
        | false ↦ λ differs. ap (is_at station) other.1 ∙ differs
      ] refl

fits_is : (world : World) (rows : List Row) (station : List ℕ) (found : Option StationSite) (site : StationSite) → found ≡ Some site → fits world rows station found ≡ true → found_here world rows station + reserved_by world.jobs station ≤ site.capacity
unfolding reserved
fits_is world rows station None site is fit = none_some is
fits_is world rows station (Some other) site is fit =
    subst (λ (one : StationSite). found_here world rows station + reserved_by world.jobs station ≤ one.capacity) (same_Some _ _ is) (le_of _ _ fit)
  where
    le_of : (n m : ℕ) → nat_le n m ≡ true → n ≤ m
    le_of n m e = grind (arith, nat_tests)

module _ (world : World) (stock : HasStockInvariant world) where
  room_after : (rows : List Row) (known : AreKnown world rows rows) (ashore : list_any (λ (row : Row). finds_on_vehicle world row.1) rows ≡ false) → list_all (λ (row : Row). fits world rows row.0 (finite.get world.layout.stations row.0)) rows ≡ true
      → (station : List ℕ) (site : StationSite) → IsStation world.layout station site → stored (moved world.places (count_moves world rows)) station + reserved_by world.jobs station ≤ site.capacity
  room_after rows known ashore room station site there =
      elim (is_counted rows station) as (λ b. is_counted rows station ≡ b → stored (moved world.places (count_moves world rows)) station + reserved_by world.jobs station ≤ site.capacity) [
        | true ↦ λ counted.
            fewer _ _ _ _ (counted_few world station rows (moved world.places (count_moves world rows)) (taken world rows ashore) counted)
            (fits_is world rows station (finite.get world.layout.stations station) site there
            (passes (λ (row : Row). row.0) (λ q. fits world rows q (finite.get world.layout.stations q)) rows station room counted))
        | false ↦ λ uncounted.
            fewer _ _ _ _ (tally_by (is_at station) (count_moves world rows) world.places
            (each_of (IsCountMove world rows) (λ move. is_at station move.place ≡ false) (λ move is. not_there world rows known station uncounted move.place is.comes) (count_moves world rows) (all_moves world rows known)))
            (stock.room station site there)
      ] refl
    where
      fewer : (a b d c : ℕ) → a ≤ b → b + d ≤ c → a + d ≤ c
      fewer a b d c h g = omega arith

  pub stocktake_keeps : (reference : List ℕ) (rows : List Row) → IfMade (KeepsStock world) (take_stock world reference rows)
  stocktake_keeps reference rows =
      let P : Effect → Type 0 = KeepsStock world in
      made_refuse_unless P _ _ _ (λ new. made_refuse_unless P _ _ _ (λ known. made_refuse_unless P _ _ _ (λ one_each.
      made_refuse_unless P _ _ _ (λ ashore. made_refuse_unless P _ _ _ (λ free. made_refuse_unless P _ _ _ (λ room. made_refuse_unless P _ _ _ (λ few.
      let moves = count_moves world rows in
      let all = all_moves world rows known in
      record {
        stock = places_kept world.layout (action_views_of world) (capacity_of world) world.places world.jobs stock (record {
          after = moved world.places moves;
          few = subst (λ n. n ≤ 1000000) (sym (as_many_loads world rows known)) stock.few_loads;
          came = λ load at there. elim (came_by (IsCountMove world rows) moves world.places all load at there) [
            | inl old ↦ inl old
            | inr new ↦ inr (subst IsName new.1 (stock.loads_named new.0.load new.2.known.0 new.2.known.1), subst (IsKnownPlace world.layout) new.3 (known_place_of world rows known new.0.place new.2.comes))
          ];
          stays = stays_by (IsFree world.jobs) moves world.places (free_moves world rows known moves (not-true _ free));
          room = room_after rows known (not-true _ ashore) room;
          ashore = λ key. tally_by (is_on key) moves world.places
              (each_of (IsCountMove world rows) (λ move. is_on key move.place ≡ false) (λ move is. not_on_vehicle world rows known key move.place is.comes) moves all);
        });
      })))))))
