-- The lists of the rows of a lawful world, with one place on each vehicle, tell its tables; and lists that tell tables have their rows.
use Rattle.std.proofs.Common.{◌≡◌, ◌≤◌, ℕ, zero, suc, true, List, [], ◌∷◌, length, None, Some, Ok, IsPermutation, refl, sym, ap, subst, ◌∙◌, arith}
use Rattle.std.proofs.lemmas.Bool.{and_parts}
use Rattle.std.proofs.lemmas.List.Sorted.{IsPermutation-refl}
use Rattle.std.proofs.lemmas.Option.{same_Some}
use Rattle.std.specs.Cmp.{unsigned_Decides}
use Rattle.std.specs.Cmp.Lexicographic.{nat_list_cmp_total}
use Rattle.std.specs.FinMap as finite
use Rattle.sqlite.proofs.Callers.{one_permutation}
use Rattle.sqlite_value.specs.Order.{Row}
use Rattle.agv_header.specs.KeyOrder.{key_cmp-IsAntisymmetric, key_cmp-total}
use Rattle.agv_header.specs.Name.{name_cmp}
use Rattle.agv_header.specs.ThingOrder.{thing_cmp-IsAntisymmetric, thing_cmp-total}
use Rattle.agv_track_holds.specs.Holds.{Holds as Holders}
use Rattle.agv_world_core.specs.ConsistentTrips.{HasConsistentTrips}
use Rattle.agv_world_core.specs.Kept.{Keeps}
use Rattle.agv_world_core.specs.KeyOrders.{leg_cmp-IsAntisymmetric, leg_cmp-total, use_cmp-IsAntisymmetric, use_cmp-total}
use Rattle.agv_world_core.specs.Lawful.{IsLawful}
use Rattle.agv_world_core.specs.Maps.{maps_of}
use Rattle.agv_world_core.specs.Worlds.{World}
use Rattle.agv_world_core.specs.declared.row.JobRow.{JobRow}
use Rattle.agv_world_core.specs.declared.world.World.{World as Tables}
use Rattle.agv_store_rows.specs.Columns.{edge_columns, edge_in, hold_columns, hold_in, job_columns, job_in, leg_columns, leg_in, load_columns, load_in, meta_columns, meta_in, node_columns, node_in, station_columns, station_in, used_columns, used_in, vehicle_columns, vehicle_in}
use Rattle.agv_store_rows.specs.DecodedTrips.{tables_of}
use Rattle.agv_store_schema.specs.DeskRows.{place_of, table_at}
use Rattle.agv_store_rows.specs.Rows.{AreAlike, row_if, rows_for, rows_in}
use Rattle.agv_store_read.specs.ReadTables.{read_rows}
use Rattle.agv_store_schema.specs.SchemaNumbers.{desk_seats}
use Rattle.agv_store_schema.specs.declared.table_name.TableName.{TableName}
use Rattle.agv_store_schema.specs.declared.table_name.TableName.TheVariants as the
use Rattle.agv_store_migrate.specs.FirstColumns.{trip_columns, trip_with}
use Rattle.agv_store_migrate.specs.FirstRows.{first_lists, trip_rows}
use Rattle.agv_store_migrate.specs.FirstTold.{TellFirst, TellTables, has_first_row, is_first_row}
use Rattle.agv_store_migrate.specs.TripLines.{line_of}
use Rattle.agv_store_migrate.proofs.CarriedSingly.{CarriesOneEach}
use Rattle.agv_store_migrate.proofs.TripRows.{HaveValues, reads_trips, trip_row_written}
use Rattle.agv_store_read.proofs.TableReading.{reads_all}
use Rattle.agv_store_read.proofs.TablesBack.{reads_members, shows_members, shows_rows, shows_table}
use Rattle.agv_store_rows.proofs.CellLemmas.{name_kept}
use Rattle.agv_store_rows.proofs.ColumnsKept.{edge_kept, hold_kept, job_kept, leg_kept, load_kept, meta_kept, station_kept, used_kept, vehicle_kept}
use Rattle.agv_store_rows.proofs.ColumnsWritten.{edge_written, hold_written, job_written, leg_written, load_written, meta_written, node_written, station_written, used_written, vehicle_written}
use Rattle.agv_store_rows.proofs.LawfulHolds.{held_value}
use Rattle.agv_store_rows.proofs.LawfulTrips.{leg_value}
use Rattle.agv_store_rows.proofs.LawfulValues.{edge_named, ends_value, holder_value, job_value, node_named, place_value, row_at, site_value, station_named, used_is, used_named, vehicle_value}
use Rattle.agv_store_rows.proofs.KeyTests.{names_apart}

-- ---- more places on a vehicle

more_places : (n : ℕ) → n ≤ 1 → n ≤ desk_seats
more_places n few = omega arith

-- a world that is lawful with one place on each vehicle is one of a desk, whose vehicles have up to four
pub more_seats : (world : World) → IsLawful 1 world → IsLawful desk_seats world
more_seats world lawful = record {
  limits = lawful.limits;
  names = lawful.names;
  track = lawful.track;
  room = lawful.room;
  capacity = record {
    carries = lawful.capacity.carries;
    seated = λ key vehicle at. more_places vehicle.row.capacity (lawful.capacity.seated key vehicle at);
    idle = lawful.capacity.idle;
    within_capacity = lawful.capacity.within_capacity;
    picks_fit = lawful.capacity.picks_fit;
  };
  jobs = lawful.jobs;
  trips = lawful.trips;
  rests = lawful.rests;
}

-- ---- lists

-- lists that are alike are alike at each place
same_at : (at : ℕ) (lists others : List (List Row)) → AreAlike lists others → IsPermutation (table_at at lists) (table_at at others)
same_at at [] [] h = IsPermutation-refl []
same_at at [] (ys ∷ others) h = absurd h
same_at at (xs ∷ lists) [] h = absurd h
same_at zero (xs ∷ lists) (ys ∷ others) h = h.0
same_at (suc at) (xs ∷ lists) (ys ∷ others) h = same_at at lists others h.1

-- from a place on, the lists have the same rows as these, in some order
abbrev AlikeFrom : ℕ → List (List Row) → List (List Row) → Type 0
AlikeFrom at lists [] = Unit {0}
AlikeFrom at lists (rows ∷ others) = IsPermutation (table_at at lists) rows × AlikeFrom (suc at) lists others

without_first : (at : ℕ) (first : List Row) (lists others : List (List Row)) → AlikeFrom (suc at) (first ∷ lists) others → AlikeFrom at lists others
without_first at first lists [] h = tt
without_first at first lists (rows ∷ others) h = (h.0, without_first (suc at) first lists others h.1)

all_alike : (lists others : List (List Row)) → length lists ≡ length others → AlikeFrom 0 lists others → AreAlike lists others
all_alike [] [] as_many h = tt
all_alike [] (rows ∷ others) as_many h = absurd (cc as_many)
all_alike (first ∷ lists) [] as_many h = absurd (cc as_many)
all_alike (first ∷ lists) (rows ∷ others) as_many h = (h.0, all_alike lists others (cc as_many) (without_first 0 first lists others h.1))

-- ---- meta

is_one : is_first_row (meta_in (meta_columns 1 1)) ≡ true
is_one = ap is_first_row (meta_kept 1 1 (omega arith) (omega arith))

has_one : (rows : List Row) → IsPermutation (meta_columns 1 1 ∷ []) rows → has_first_row rows ≡ true
has_one rows shown = ap has_first_row (one_permutation (meta_columns 1 1) rows shown) ∙ is_one

one_is : (row : Row) → is_first_row (meta_in row) ≡ true → row ≡ meta_columns 1 1
one_is row is =
    elim (meta_in row) as (λ o. meta_in row ≡ o → is_first_row o ≡ true → row ≡ meta_columns 1 1) [
      | None ↦ λ _ wrong. absurd (cc wrong)
      | Some told ↦ λ from so.
          let both = and_parts _ _ so in
          let id : told.0 ≡ 1 = (unsigned_Decides told.0 1).0 both.0 in
          let schema : told.1 ≡ 1 = (unsigned_Decides told.1 1).0 both.1 in
          meta_written row told.0 told.1 from ∙ (λ i. meta_columns (id i) (schema i))
    ] refl is

one_row : (rows : List Row) → has_first_row rows ≡ true → IsPermutation rows (meta_columns 1 1 ∷ [])
one_row [] is = absurd (cc is)
one_row (row ∷ []) is = subst (λ (r : Row). IsPermutation (row ∷ []) (r ∷ [])) (one_is row is) (IsPermutation-refl (row ∷ []))
one_row (row ∷ (other ∷ rows)) is = absurd (cc is)

-- ---- the lists of a lawful world tell its tables

module _ (world : World) (first : IsLawful 1 world) (good : HasConsistentTrips world) (single : CarriesOneEach (maps_of world)) (values : HaveValues (maps_of world).trips)
    (lists : List (List Row)) (alike : AreAlike (first_lists (maps_of world)) lists) where
  lawful : IsLawful desk_seats world
  lawful = more_seats world first

  shown : (name : TableName) → IsPermutation (table_at (place_of name) (first_lists (maps_of world))) (table_at (place_of name) lists)
  shown name = same_at (place_of name) (first_lists (maps_of world)) lists alike

  told_tables : TellTables lists (tables_of (maps_of world))
  unfolding first_lists
  told_tables = record {
    nodes = reads_members nat_list_cmp_total names_apart node_columns node_in world.layout.nodes (λ id there. name_kept id (node_named world lawful id there)) _ (shown the.Node);
    edges = reads_all nat_list_cmp_total names_apart world.layout.edges edge_columns edge_in (λ id x at. edge_kept id x (edge_named world lawful id x at) (ends_value world lawful id x at)) _ (shown the.Edge);
    stations = reads_all nat_list_cmp_total names_apart world.layout.stations station_columns station_in (λ id x at. station_kept id x (station_named world lawful id x at) (site_value world lawful id x at)) _ (shown the.Station);
    vehicles = reads_all key_cmp-total key_cmp-IsAntisymmetric (maps_of world).vehicles vehicle_columns vehicle_in
        (λ key row at.
        let its = vehicle_value world lawful key row (sym (row_at world key) ∙ at) in
        vehicle_kept key row its.0 its.1 ∙ ap (λ n. Some (key, record row { capacity = n })) (sym (single.vehicles key row at))) _ (shown the.Vehicle);
    jobs = reads_all nat_list_cmp_total names_apart world.jobs job_columns job_in (λ id x at. job_kept id x (first.names.jobs_named id x at) (job_value world lawful id x at)) _ (shown the.Job);
    trips = reads_trips (maps_of world) single values _ (shown the.Trip);
    legs = reads_all leg_cmp-total leg_cmp-IsAntisymmetric (maps_of world).legs leg_columns leg_in (λ key id at. let its = leg_value world lawful good key id at in leg_kept key id its.0 its.1) _ (shown the.Leg);
    loads = reads_all nat_list_cmp_total names_apart world.places load_columns load_in (λ id x at. load_kept id x (first.names.loads_named id x at) (place_value world lawful id x at)) _ (shown the.Load);
    used = reads_members use_cmp-total use_cmp-IsAntisymmetric used_columns used_in (maps_of world).used (λ key there. used_kept key (used_named world lawful key.kind key.name (sym (used_is world key.kind key.name) ∙ there))) _ (shown the.Used);
  }

  pub world_told : TellFirst lists (tables_of (maps_of world)) (maps_of world).holds
  unfolding first_lists
  world_told = record {
    meta = has_one _ (shown the.Meta);
    tables_are = told_tables;
    holds = reads_all thing_cmp-total thing_cmp-IsAntisymmetric (maps_of world).holds hold_columns hold_in (λ thing key at. hold_kept thing key (held_value world lawful good thing key at) (holder_value world lawful thing key at)) _ (shown the.Hold);
  }

-- ---- lists tell one world's tables alone

pub one_told : (lists : List (List Row)) (tables : Tables) (held : Holders) (world : World) → TellFirst lists tables held → TellFirst lists (tables_of (maps_of world)) (maps_of world).holds → Keeps tables world × (held ≡ (maps_of world).holds)
one_told lists tables held world tell again =
    let these = tell.tables_are in
    let those = again.tables_are in
    let jobs = same_Some _ _ (sym these.jobs ∙ those.jobs) in (
      record {
        nodes = same_Some _ _ (sym these.nodes ∙ those.nodes);
        edges = same_Some _ _ (sym these.edges ∙ those.edges);
        stations = same_Some _ _ (sym these.stations ∙ those.stations);
        vehicles = same_Some _ _ (sym these.vehicles ∙ those.vehicles);
        trips = same_Some _ _ (sym these.trips ∙ ap (λ (jobs : finite.FinMap name_cmp JobRow). read_rows (trip_with jobs) finite.empty (table_at (place_of the.Trip) lists)) jobs ∙ those.trips);
        legs = same_Some _ _ (sym these.legs ∙ those.legs);
        loads = same_Some _ _ (sym these.loads ∙ those.loads);
        jobs = jobs;
        used = same_Some _ _ (sym these.used ∙ those.used);
      },
      same_Some _ _ (sym tell.holds ∙ again.holds),
    )

-- ---- lists that tell tables have their rows

pub rows_told : (lists : List (List Row)) (tables : Tables) (held : Holders) (world : World) → length lists ≡ 11 → TellFirst lists tables held → Keeps tables world → held ≡ (maps_of world).holds
    → AreAlike lists (first_lists (maps_of world))
unfolding first_lists
rows_told lists tables held world as_many tell keeps are =
    let these = tell.tables_are in
    let at : TableName → List Row = λ name. table_at (place_of name) lists in
    let same : (rows : List Row) → IsPermutation rows rows = λ rows. IsPermutation-refl rows in
    all_alike lists (first_lists (maps_of world)) as_many (
      one_row (at the.Meta) tell.meta,
      (
        subst (λ t. IsPermutation (at the.Node) (rows_for node_columns t)) keeps.nodes (shows_members nat_list_cmp_total names_apart node_columns node_in node_written _ (at the.Node) (Ok tables.nodes) these.nodes (same _)),
        (
          subst (λ t. IsPermutation (at the.Edge) (rows_in edge_columns t)) keeps.edges (shows_table nat_list_cmp_total names_apart edge_columns edge_in edge_written _ (at the.Edge) (Ok tables.edges) these.edges (same _)),
          (
            subst (λ t. IsPermutation (at the.Station) (rows_in station_columns t)) keeps.stations (shows_table nat_list_cmp_total names_apart station_columns station_in station_written _ (at the.Station) (Ok tables.stations) these.stations (same _)),
            (
              subst (λ t. IsPermutation (at the.Vehicle) (rows_in vehicle_columns t)) keeps.vehicles (shows_table key_cmp-total key_cmp-IsAntisymmetric vehicle_columns vehicle_in vehicle_written _ (at the.Vehicle) (Ok tables.vehicles) these.vehicles (same _)),
              (
                subst (λ t. IsPermutation (at the.Trip) (trip_rows t)) keeps.trips
                    (shows_rows nat_list_cmp_total names_apart (λ order trip. row_if trip_columns (line_of order trip)) (trip_with tables.jobs) (trip_row_written tables.jobs) _ (at the.Trip) (Ok tables.trips) these.trips (same _)),
                (
                  subst (λ t. IsPermutation (at the.Leg) (rows_in leg_columns t)) keeps.legs (shows_table leg_cmp-total leg_cmp-IsAntisymmetric leg_columns leg_in leg_written _ (at the.Leg) (Ok tables.legs) these.legs (same _)),
                  (
                    subst (λ t. IsPermutation (at the.Load) (rows_in load_columns t)) keeps.loads (shows_table nat_list_cmp_total names_apart load_columns load_in load_written _ (at the.Load) (Ok tables.loads) these.loads (same _)),
                    (
                      subst (λ t. IsPermutation (at the.Job) (rows_in job_columns t)) keeps.jobs (shows_table nat_list_cmp_total names_apart job_columns job_in job_written _ (at the.Job) (Ok tables.jobs) these.jobs (same _)),
                      (
                        subst (λ t. IsPermutation (at the.Hold) (rows_in hold_columns t)) are (shows_table thing_cmp-total thing_cmp-IsAntisymmetric hold_columns hold_in hold_written _ (at the.Hold) (Ok held) tell.holds (same _)),
                        (
                          subst (λ t. IsPermutation (at the.Used) (rows_for used_columns t)) keeps.used (shows_members use_cmp-total use_cmp-IsAntisymmetric used_columns used_in used_written _ (at the.Used) (Ok tables.used) these.used (same _)),
                          tt,
                        ),
                      ),
                    ),
                  ),
                ),
              ),
            ),
          ),
        ),
      ),
    )
