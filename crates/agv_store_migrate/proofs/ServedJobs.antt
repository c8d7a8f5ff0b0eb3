-- The open trips that rows of the first schema tell serve jobs: each has the two acts of one.
use Rattle.std.proofs.Common.{◌≡◌, ◌≢◌, ℕ, inl, inr, List, [], ◌∷◌, Option, None, Some, Ordering, refl, sym, ap, subst, ◌∙◌}
use Rattle.std.proofs.lemmas.Option.{same_Some}
use Rattle.std.specs.Cmp.{IsTotalOrder}
use Rattle.std.specs.FinMap as finite
use Rattle.sqlite_value.specs.Order.{Row}
use Rattle.agv_header.specs.KeyOrder.{key_cmp-IsAntisymmetric, key_cmp-total}
use Rattle.agv_header.specs.Name.{name_cmp}
use Rattle.agv_order.specs.declared.trip.Trip.{Trip}
use Rattle.agv_world_core.specs.Kept.{Keeps}
use Rattle.agv_world_core.specs.Lawful.{IsLawful}
use Rattle.agv_world_core.specs.Maps.{maps_of, rows_of_trip, trip_row, trip_rows}
use Rattle.agv_world_core.specs.Worlds.{World}
use Rattle.agv_world_core.specs.declared.row.JobRow.{JobRow}
use Rattle.agv_world_core.specs.declared.row.TripRow.{TripRow}
use Rattle.agv_world_core.specs.declared.world.World.{World as Tables}
use Rattle.agv_world_core.proofs.lists.Orders.{names_apart, names_total}
use Rattle.agv_world_core.proofs.lists.Puts.{put_cases}
use Rattle.agv_world_core.proofs.world_rows.Apart.{trips_apart}
use Rattle.agv_world_core.proofs.world_rows.RowKeys.{own_key}
use Rattle.agv_world_core.proofs.world_rows.Spreads.{spread_is}
use Rattle.agv_store_rows.specs.ValueEncodings.{if_some}
use Rattle.agv_store_read.specs.ReadTables.{if_free, read_rows}
use Rattle.agv_store_schema.specs.DeskRows.{place_of, table_at}
use Rattle.agv_store_schema.specs.declared.table_name.TableName.TheVariants as the
use Rattle.agv_store_migrate.specs.FirstColumns.{trip_in, trip_with}
use Rattle.agv_store_migrate.specs.FirstRows.{ServesJobs}
use Rattle.agv_store_migrate.specs.FirstTold.{TellTables}
use Rattle.agv_store_migrate.specs.TripLines.{acts_of, trip_told}
use Rattle.agv_store_migrate.specs.declared.trip_line.TripLine.{TripLine}

-- ---- what each row gives, each entry has

module _ {K X : Type 0} {R : K → K → Ordering} (total : IsTotalOrder R) (apart : finite.IsAntisymmetric R) (told : Row → Option (K × X)) (P : X → Type 0) (gives : (row : Row) (e : K × X) → told row ≡ Some e → P e.1) where
  abbrev EachHas : finite.FinMap R X → Type 0
  EachHas m = (q : K) (x : X) → finite.get m q ≡ Some x → P x

  put_has : (m : finite.FinMap R X) (e : K × X) → EachHas m → P e.1 → EachHas (finite.insert m e.0 e.1)
  put_has m e each new q x at = elim (put_cases total apart m e.0 e.1 q x at) [
    | inl here ↦ subst P (sym here.1) new
    | inr there ↦ each q x there.1
  ]

  entries_have : (table m : finite.FinMap R X) (rows : List Row) → EachHas table → read_rows told table rows ≡ Some m → EachHas m
  entries_have table m [] each is = subst EachHas (same_Some table m is) each
  entries_have table m (row ∷ rows) each is =
      elim (told row) as (λ o. told row ≡ o → if_some o (λ e. if_free (finite.get table e.0) (read_rows told (finite.insert table e.0 e.1) rows)) ≡ Some m → EachHas m) [
        | None ↦ λ _ found. absurd (cc found)
        | Some e ↦ λ from. elim (finite.get table e.0) as (λ (t : Option X). if_free t (read_rows told (finite.insert table e.0 e.1) rows) ≡ Some m → EachHas m) [
          | Some y ↦ λ found. absurd (cc found)
          | None ↦ λ found. entries_have (finite.insert table e.0 e.1) m rows (put_has table e each (gives row e from)) found
        ]
      ] refl is

  pub read_have : (m : finite.FinMap R X) (rows : List Row) → read_rows told (finite.empty {X = X} {R = R}) rows ≡ Some m → EachHas m
  read_have m rows is = entries_have finite.empty m rows (λ q x at. let none = sym (finite.get-empty {X = X} R q) ∙ at in absurd (cc none)) is

-- ---- the trips

-- a trip that a row encodes has acts
has_acts : (jobs : finite.FinMap name_cmp JobRow) (row : Row) (e : List ℕ × TripRow) → trip_with jobs row ≡ Some e → e.1.acts ≢ []
has_acts jobs row e is none =
    elim (trip_in row) as (λ (o : Option TripLine). if_some o (λ l. if_some (finite.get jobs l.job) (λ job. Some (l.order, trip_told l job))) ≡ Some e → ⊥) [
      | None ↦ λ found. absurd (cc found)
      | Some line ↦ elim (finite.get jobs line.job) as (λ (o : Option JobRow). if_some o (λ job. Some (line.order, trip_told line job)) ≡ Some e → ⊥) [
        | None ↦ λ found. absurd (cc found)
        | Some job ↦ λ found.
            let same : (line.order, trip_told line job) ≡ e = same_Some (line.order, trip_told line job) e found in
            let acts : acts_of line job ≡ [] = ap (λ (x : List ℕ × TripRow). x.1.acts) same ∙ none in
            absurd (cc acts)
      ]
    ] is

-- the trips of a world whose tables the lists encode
pub trips_serve_jobs : (lists : List (List Row)) (tables : Tables) → TellTables lists tables → (world : World) → IsLawful 1 world → Keeps tables world → ServesJobs world
trips_serve_jobs lists tables tell world lawful keeps key trip has =
    let spreads = spread_is key_cmp-total key_cmp-IsAntisymmetric name_cmp names_total trip_rows world.vehicles (trips_apart world lawful.trips.one_trip) in
    let at : finite.get (maps_of world).trips trip.order ≡ Some (trip_row key trip) =
    spreads.into key has.0 trip.order (trip_row key trip) has.1 (ap (λ o. finite.find name_cmp trip.order (rows_of_trip key o)) has.2 ∙ own_key names_total trip.order (trip_row key trip)) in
    read_have names_total names_apart (trip_with tables.jobs) (λ (row : TripRow). row.acts ≢ []) (has_acts tables.jobs) tables.trips (table_at (place_of the.Trip) lists) tell.trips trip.order (trip_row key trip)
    (ap (λ (m : finite.FinMap name_cmp TripRow). finite.get m trip.order) keeps.trips ∙ at)
