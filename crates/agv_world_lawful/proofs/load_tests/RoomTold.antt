-- What the test of the room at stations says.
use Rattle.std.proofs.Common.{◌≡◌, ◌↔◌, ◌⊎◌, ◌&&◌, nat_eq, ℕ, ◌+◌, ◌<◌, ◌≤◌, Bool, true, false, cond, List, [], ◌∷◌, count_by, leb, length, ltb, Some, refl, sym, ap, subst, ◌∙◌, inl, inr, arith}
use Rattle.std.specs.Cmp.{tied_itself}
use Rattle.std.specs.Cmp.Lexicographic.{pointwise, nat_list_eq_equiv, same_text}
use Rattle.std.specs.FinMap as finite
use Rattle.std.specs.FinMap.{get}
use Rattle.std.specs.Option.{unwrap_or}
use Rattle.std.specs.Ordering.{eq_by_cmp, is_eq}
use Rattle.std.proofs.lemmas.Bool.{false_from_ne_true, true≢false, le-leb, leb-true, ltb-false, ltb-true}
use Rattle.agv_header.specs.Name.{name_cmp}
use Rattle.agv_layout.specs.Layout.{IsStation, KeepsRules}
use Rattle.agv_layout.specs.declared.station.StationSite.{StationSite}
use Rattle.agv_stock.specs.Phase.{is_live}
use Rattle.agv_stock.specs.Rooms.{is_at}
use Rattle.agv_stock.specs.declared.place.Place.{Place}
use Rattle.agv_stock.specs.declared.place.Place.TheVariants as place
use Rattle.agv_world_core.specs.StockInvariant.{stored}
use Rattle.agv_world_core.specs.LawfulParts.{HasLawfulVehicles}
use Rattle.agv_world_lawful.specs.LoadTests.{Tally, have_room, one_on, tallied, tally_of, with_job, with_jobs, with_loads, with_one, with_place}
use Rattle.agv_world_core.specs.Questions.{is_live_to, loads_at, reserved, reserved_by}
use Rattle.agv_world_core.specs.Told.{world_of}
use Rattle.agv_world_core.specs.Worlds.{empty_layout}
use Rattle.agv_world_core.specs.declared.row.JobRow.{JobRow}
use Rattle.agv_world_core.specs.declared.world.World.{World as Tables}
use Rattle.agv_world_core.proofs.lists.EachEntry.{all-entries, each-entry}
use Rattle.agv_world_core.proofs.lists.Entries.{is_same, no_more}
use Rattle.agv_world_core.proofs.lists.Orders.{names_apart, names_total}
use Rattle.agv_world_core.proofs.lawful_worlds.PairCounts.{counted-cons}
use Rattle.agv_world_core.proofs.lawful_worlds.WorldActionViews.{reserved_is, stored_is}

-- ---- counting up to 1000

-- n were counted as k: all of them, or 1000 of them
abbrev IsCount : ℕ → ℕ → Type 0
IsCount n k = (k ≤ n) × (k ≤ 1000) × ((k ≡ n) ⊎ (k ≡ 1000))

one_more : (n k : ℕ) → IsCount n k → IsCount (1 + n) (one_on k)
one_more n k (most, limit, exact) =
    elim (ltb k 1000) as (λ b. ltb k 1000 ≡ b → IsCount (1 + n) (cond b (k + 1) k)) [
      | true ↦ λ is. under (ltb-true k 1000 is) exact
      | false ↦ λ is. let full = ltb-false k 1000 is in (omega (arith, most), limit, inr (omega (arith, full, limit)))
    ] refl
  where
    under : k < 1000 → (k ≡ n) ⊎ (k ≡ 1000) → IsCount (1 + n) (k + 1)
    under below (inl all) = (omega (arith, all), omega (arith, below), inl (omega (arith, all)))
    under below (inr full) = absurd (omega (arith, below, full))

-- the name was counted so often
abbrev Counts : Tally → List ℕ → ℕ → Type 0
Counts tally name n = IsCount n (tallied tally name)

-- it was counted no more often
no_further : (tally : Tally) (name : List ℕ) (n : ℕ) → Counts tally name n → Counts tally name (0 + n)
no_further tally name n counts = subst (Counts tally name) (same n) counts
  where
    same : (n : ℕ) → n ≡ 0 + n
    same n = omega arith

other_count : (tally : Tally) (name other : List ℕ) → pointwise nat_eq other name ≡ false → tallied (with_one tally other) name ≡ tallied tally name
other_count tally name other apart =
    ap (λ o. unwrap_or o 0) (
    finite.get-insert names_total tally other (one_on (tallied tally other)) name
    ∙ ap (λ b. cond b (Some (one_on (tallied tally other))) (get tally name)) (false_from_ne_true (eq_by_cmp name_cmp name other) (λ tied. differ (is_same names_apart name other tied))))
  where
    differ : name ≡ other → ⊥
    differ same = true≢false (sym (ap (λ n. pointwise nat_eq other n) same ∙ nat_list_eq_equiv.refl other) ∙ apart)

own_count : (tally : Tally) (name : List ℕ) → tallied (with_one tally name) name ≡ one_on (tallied tally name)
own_count tally name =
    ap (λ o. unwrap_or o 0) (
    finite.get-insert names_total tally name (one_on (tallied tally name)) name
    ∙ ap (λ o. cond (is_eq o) (Some (one_on (tallied tally name))) (get tally name)) (tied_itself names_total name))

counted_one : (tally : Tally) (name other : List ℕ) (n : ℕ) → Counts tally name n → Counts (with_one tally other) name (cond (pointwise nat_eq other name) 1 0 + n)
counted_one tally name other n counts =
    elim (pointwise nat_eq other name) as (λ b. pointwise nat_eq other name ≡ b → Counts (with_one tally other) name (cond b 1 0 + n)) [
      | true ↦ λ same.
          let is : other ≡ name = same_text other name (sym same) in
          subst (λ o. Counts (with_one tally o) name (1 + n)) (sym is) (subst (IsCount (1 + n)) (sym (own_count tally name)) (one_more n (tallied tally name) counts))
      | false ↦ λ apart. subst (IsCount (0 + n)) (sym (other_count tally name other apart)) (no_further tally name n counts)
    ] refl

-- ---- loads and jobs, counted

counted_place : (tally : Tally) (name : List ℕ) (where_is : Place) (n : ℕ) → Counts tally name n → Counts (with_place tally where_is) name (cond (is_at name where_is) 1 0 + n)
counted_place tally name (place.Station id) n counts = counted_one tally name id n counts
counted_place tally name (place.Vehicle key) n counts = no_further tally name n counts
counted_place tally name place.Checking n counts = no_further tally name n counts
counted_place tally name place.Left n counts = no_further tally name n counts

further : (total m n x : ℕ) → total ≡ x + m → m + (x + n) ≡ total + n
further total m n x e = omega (arith, e)

counted_loads : (tally : Tally) (name : List ℕ) (loads : List (List ℕ × Place)) (n : ℕ) → Counts tally name n → Counts (with_loads tally loads) name (count_by (λ (load : List ℕ × Place). is_at name load.1) loads + n)
counted_loads tally name [] n counts = no_further tally name n counts
counted_loads tally name (load ∷ loads) n counts =
    subst (Counts (with_loads (with_place tally load.1) loads) name) (further _ _ n _ (counted-cons (λ (load : List ℕ × Place). is_at name load.1) load loads))
    (counted_loads (with_place tally load.1) name loads (cond (is_at name load.1) 1 0 + n) (counted_place tally name load.1 n counts))

counted_job : (tally : Tally) (name : List ℕ) (row : JobRow) (n : ℕ) → Counts tally name n → Counts (with_job tally row) name (cond (is_live_to name row) 1 0 + n)
counted_job tally name row n counts =
    elim (is_live row.phase) as (λ b. Counts (cond b (with_one tally row.target) tally) name (cond (b && pointwise nat_eq row.target name) 1 0 + n)) [
      | true ↦ counted_one tally name row.target n counts
      | false ↦ no_further tally name n counts
    ]

counted_jobs : (tally : Tally) (name : List ℕ) (jobs : List (List ℕ × JobRow)) (n : ℕ) → Counts tally name n → Counts (with_jobs tally jobs) name (count_by (λ (job : List ℕ × JobRow). is_live_to name job.1) jobs + n)
counted_jobs tally name [] n counts = no_further tally name n counts
counted_jobs tally name (job ∷ jobs) n counts =
    subst (Counts (with_jobs (with_job tally job.1) jobs) name) (further _ _ n _ (counted-cons (λ (job : List ℕ × JobRow). is_live_to name job.1) job jobs))
    (counted_jobs (with_job tally job.1) name jobs (cond (is_live_to name job.1) 1 0 + n) (counted_job tally name job.1 n counts))

none_counted : (name : List ℕ) → Counts finite.empty name 0
none_counted name = subst (IsCount 0) (sym (ap (λ o. unwrap_or o 0) (finite.get-empty name_cmp name))) (omega arith, omega arith, inl refl)

module _ (tables : Tables) where
  all_counted : (name : List ℕ) → Counts (tally_of tables) name (stored tables.loads name + reserved_by tables.jobs name)
  all_counted name =
      subst (Counts (tally_of tables) name) (turn (stored tables.loads name) (reserved_by tables.jobs name))
      (counted_jobs (with_loads finite.empty (finite.entries tables.loads)) name (finite.entries tables.jobs) (stored tables.loads name + 0)
      (counted_loads finite.empty name (finite.entries tables.loads) 0 (none_counted name)))
    where
      turn : (loads jobs : ℕ) → jobs + (loads + 0) ≡ loads + jobs
      turn loads jobs = omega arith

-- ---- room at stations

within : (n k capacity : ℕ) → IsCount n k → capacity ≤ 999 → k ≤ capacity → n ≤ capacity
within n k capacity (most, limit, inl all) few fits = omega (arith, all, fits)
within n k capacity (most, limit, inr full) few fits = absurd (omega (arith, full, few, fits))

few_counted : (n k capacity : ℕ) → IsCount n k → n ≤ capacity → k ≤ capacity
few_counted n k capacity (most, limit, exact) fits = omega (arith, most, fits)

module _ {seats : ℕ} (tables : Tables) (vehicles : HasLawfulVehicles seats (world_of tables)) where
  small : (station : List ℕ) (site : StationSite) → get tables.stations station ≡ Some site → site.capacity ≤ 999
  small station site at = by vehicles.laid
    where
      by : ((world_of tables).layout ≡ empty_layout) ⊎ KeepsRules (world_of tables).layout → site.capacity ≤ 999
      by (inl unset) = absurd (no_more site (sym (finite.get-empty name_cmp station) ∙ ap (λ layout. get layout.stations station) (sym unset) ∙ at))
      by (inr rules) = (rules.stands station site at).2

  -- each station has room for the loads there and for those to come
  abbrev pub HasRoom : Type 0
  HasRoom = (station : List ℕ) (site : StationSite) → IsStation (world_of tables).layout station site → length (loads_at (world_of tables) station) + reserved (world_of tables) station ≤ site.capacity

  counts_are : (station : List ℕ) → length (loads_at (world_of tables) station) + reserved (world_of tables) station ≡ stored tables.loads station + reserved_by tables.jobs station
  counts_are station = λ i. stored_is (world_of tables) station i + reserved_is (world_of tables) station i

  pub room_told : (have_room tables ≡ true) ↔ HasRoom
  room_told =
      let test : List ℕ × StationSite → Bool = λ station. leb (tallied (tally_of tables) station.0) station.1.capacity in (
        λ all station site at.
            let fits = leb-true (tallied (tally_of tables) station) site.capacity (each-entry names_total names_apart test tables.stations all station site at) in
            subst (λ n. n ≤ site.capacity) (sym (counts_are station)) (within _ _ site.capacity (all_counted tables station) (small station site at) fits),
        λ room. all-entries names_total names_apart test tables.stations (λ station site at.
            le-leb (tallied (tally_of tables) station) site.capacity (few_counted _ _ site.capacity (all_counted tables station) (subst (λ n. n ≤ site.capacity) (counts_are station) (room station site at)))),
      )
