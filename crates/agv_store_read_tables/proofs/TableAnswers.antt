-- What all rows of a table answer, in a lawful world.
use Rattle.std.proofs.Common.{◌≡◌, ℕ, List, Some, Result, IsPermutation, sym, ap, subst, ◌∙◌}
use Rattle.std.specs.Cmp.Lexicographic.{nat_list_cmp_total}
use Rattle.std.specs.FinMap as finite
use Rattle.std.specs.FinSet as set
use Rattle.sqlite_value.specs.Order.{Row}
use Rattle.agv_header.specs.Key.{key_cmp, thing_cmp}
use Rattle.agv_header.specs.KeyOrder.{key_cmp-IsAntisymmetric, key_cmp-total}
use Rattle.agv_header.specs.Name.{name_cmp}
use Rattle.agv_header.specs.ThingOrder.{thing_cmp-IsAntisymmetric, thing_cmp-total}
use Rattle.agv_header.specs.declared.key.VehicleKey.{VehicleKey}
use Rattle.agv_layout.specs.declared.edge.EdgeEnds.{EdgeEnds}
use Rattle.agv_layout.specs.declared.station.StationSite.{StationSite}
use Rattle.agv_stock.specs.declared.place.Place.{Place}
use Rattle.agv_world_core.specs.ConsistentTrips.{HasConsistentTrips}
use Rattle.agv_world_core.specs.KeyOrders.{leg_cmp-IsAntisymmetric, leg_cmp-total, use_cmp-IsAntisymmetric, use_cmp-total}
use Rattle.agv_world_core.specs.Keys.{leg_cmp, use_cmp}
use Rattle.agv_world_core.specs.Lawful.{IsLawful}
use Rattle.agv_world_core.specs.Maps.{maps_of}
use Rattle.agv_world_core.specs.Worlds.{World}
use Rattle.agv_world_core.specs.declared.row.JobRow.{JobRow}
use Rattle.agv_store_rows.specs.Columns.{capacity_columns, capacity_in, edge_columns, edge_in, hold_columns, hold_in, job_columns, job_in, leg_columns, leg_in, load_columns, load_in, node_columns, node_in, station_columns, station_in, used_columns, used_in, vehicle_columns}
use Rattle.agv_store_rows.specs.DecodedTrips.{capacities_of, vehicle_with}
use Rattle.agv_store_rows.specs.TypedRows.{IsNumber}
use Rattle.agv_store_read.specs.ReadTables.{Reads, read_members, read_rows}
use Rattle.agv_store_rows.specs.Rows.{row_lists, rows_of}
use Rattle.agv_store_sql.specs.RowQueries.{all_rows_of}
use Rattle.agv_store_schema.specs.SchemaNumbers.{desk_seats}
use Rattle.agv_store_read.specs.declared.open_fault.OpenFault.{OpenFault}
use Rattle.agv_store_rows.specs.declared.capacity_row.CapacityRow.{CapacityRow}
use Rattle.agv_store_schema.specs.declared.table_name.TableName.TheVariants as the
use Rattle.agv_store_read.proofs.Asking.{Follows}
use Rattle.agv_store_rows.proofs.CellLemmas.{name_kept}
use Rattle.agv_store_rows.proofs.ColumnsKept.{capacity_kept, edge_kept, hold_kept, job_kept, leg_kept, load_kept, station_kept, used_kept, vehicle_kept}
use Rattle.agv_store_rows.proofs.LawfulHolds.{held_value}
use Rattle.agv_store_rows.proofs.LawfulTrips.{leg_value}
use Rattle.agv_store_rows.proofs.LawfulValues.{edge_named, ends_value, holder_value, job_value, node_named, place_value, row_at, site_value, station_named, used_is, used_named, vehicle_value}
use Rattle.agv_store_rows.proofs.ListsFollow.{names_apart}
use Rattle.agv_store_read_tables.proofs.CapacityTables.{capacity_known, capacity_rows, told_with, vehicle_of}
use Rattle.agv_store_read.proofs.TableReading.{reads_all, reads_it}
use Rattle.agv_store_read.proofs.TablesBack.{reads_members}

module _ (world : World) (lawful : IsLawful desk_seats world) (rows : List Row) where
  pub tells_places : IsPermutation (all_rows_of the.Load (rows_of world)) rows → (r : Result (finite.FinMap name_cmp Place) OpenFault) → Reads r (read_rows load_in finite.empty rows) → Follows r (λ table. table ≡ world.places)
  unfolding row_lists
  tells_places shown r read = reads_it world.places r (read_rows load_in finite.empty rows) read (reads_all nat_list_cmp_total names_apart world.places load_columns load_in (λ id x at. load_kept id x (lawful.names.loads_named id x at) (place_value world lawful id x at)) rows shown)

  pub tells_jobs : IsPermutation (all_rows_of the.Job (rows_of world)) rows → (r : Result (finite.FinMap name_cmp JobRow) OpenFault) → Reads r (read_rows job_in finite.empty rows) → Follows r (λ table. table ≡ world.jobs)
  unfolding row_lists
  tells_jobs shown r read = reads_it world.jobs r (read_rows job_in finite.empty rows) read (reads_all nat_list_cmp_total names_apart world.jobs job_columns job_in (λ id x at. job_kept id x (lawful.names.jobs_named id x at) (job_value world lawful id x at)) rows shown)

  pub tells_stations : IsPermutation (all_rows_of the.Station (rows_of world)) rows → (r : Result (finite.FinMap name_cmp StationSite) OpenFault) → Reads r (read_rows station_in finite.empty rows) → Follows r (λ table. table ≡ world.layout.stations)
  unfolding row_lists
  tells_stations shown r read = reads_it world.layout.stations r (read_rows station_in finite.empty rows) read (reads_all nat_list_cmp_total names_apart world.layout.stations station_columns station_in (λ id x at. station_kept id x (station_named world lawful id x at) (site_value world lawful id x at)) rows shown)

  pub tells_edges : IsPermutation (all_rows_of the.Edge (rows_of world)) rows → (r : Result (finite.FinMap name_cmp EdgeEnds) OpenFault) → Reads r (read_rows edge_in finite.empty rows) → Follows r (λ table. table ≡ world.layout.edges)
  unfolding row_lists
  tells_edges shown r read = reads_it world.layout.edges r (read_rows edge_in finite.empty rows) read (reads_all nat_list_cmp_total names_apart world.layout.edges edge_columns edge_in (λ id x at. edge_kept id x (edge_named world lawful id x at) (ends_value world lawful id x at)) rows shown)

  pub tells_capacities : IsPermutation (all_rows_of the.Capacity (rows_of world)) rows → (r : Result (finite.FinMap key_cmp CapacityRow) OpenFault) → Reads r (read_rows capacity_in finite.empty rows) → Follows r (λ table. table ≡ capacities_of (maps_of world).vehicles)
  unfolding row_lists
  tells_capacities shown r read =
      let vehicles = (maps_of world).vehicles in
      reads_it (capacities_of vehicles) r (read_rows capacity_in finite.empty rows) read
      (reads_all key_cmp-total key_cmp-IsAntisymmetric (capacities_of vehicles) capacity_columns capacity_in (λ key own at.
      let its = vehicle_of vehicles key own at in
      let value = vehicle_value world lawful key its.0 (sym (row_at world key) ∙ its.1) in
      capacity_kept key own value.0 (subst (λ (x : CapacityRow). IsNumber x.capacity) its.2 value.1.capacity)) rows (subst (λ l. IsPermutation l rows) (capacity_rows vehicles) shown))

  -- the vehicles, where these are their capacities
  pub reads_vehicles : (capacities : finite.FinMap key_cmp CapacityRow) → capacities ≡ capacities_of (maps_of world).vehicles → IsPermutation (all_rows_of the.Vehicle (rows_of world)) rows
      → read_rows (vehicle_with capacities) finite.empty rows ≡ Some (maps_of world).vehicles
  unfolding row_lists
  reads_vehicles capacities are shown =
      let vehicles = (maps_of world).vehicles in
      ap (λ (r : finite.FinMap key_cmp CapacityRow). read_rows (vehicle_with r) finite.empty rows) are
      ∙ reads_all key_cmp-total key_cmp-IsAntisymmetric vehicles vehicle_columns (vehicle_with (capacities_of vehicles)) (λ key row at.
      let its = vehicle_value world lawful key row (sym (row_at world key) ∙ at) in
      told_with (capacities_of vehicles) (vehicle_columns key row) key (record row { capacity = 1 }) (record { capacity = row.capacity }) (vehicle_kept key row its.0 its.1) (capacity_known vehicles key row at)) rows shown

  pub tells_nodes : IsPermutation (all_rows_of the.Node (rows_of world)) rows → (r : Result (set.FinSet name_cmp) OpenFault) → Reads r (read_members node_in set.empty rows) → Follows r (λ nodes. nodes ≡ world.layout.nodes)
  unfolding row_lists
  tells_nodes shown r read =
      reads_it world.layout.nodes r (read_members node_in set.empty rows) read
      (reads_members nat_list_cmp_total names_apart node_columns node_in world.layout.nodes (λ id there. name_kept id (node_named world lawful id there)) rows shown)

  pub tells_used_names : IsPermutation (all_rows_of the.Used (rows_of world)) rows → (r : Result (set.FinSet use_cmp) OpenFault) → Reads r (read_members used_in set.empty rows) → Follows r (λ used. used ≡ (maps_of world).used)
  unfolding row_lists
  tells_used_names shown r read =
      reads_it (maps_of world).used r (read_members used_in set.empty rows) read
      (reads_members use_cmp-total use_cmp-IsAntisymmetric used_columns used_in (maps_of world).used (λ key there. used_kept key (used_named world lawful key.kind key.name (sym (used_is world key.kind key.name) ∙ there))) rows shown)

module _ (world : World) (lawful : IsLawful desk_seats world) (good : HasConsistentTrips world) (rows : List Row) where
  pub tells_legs : IsPermutation (all_rows_of the.Leg (rows_of world)) rows → (r : Result (finite.FinMap leg_cmp (List ℕ)) OpenFault) → Reads r (read_rows leg_in finite.empty rows) → Follows r (λ table. table ≡ (maps_of world).legs)
  unfolding row_lists
  tells_legs shown r read =
      let legs = (maps_of world).legs in
      reads_it legs r (read_rows leg_in finite.empty rows) read
      (reads_all leg_cmp-total leg_cmp-IsAntisymmetric legs leg_columns leg_in (λ key id at. let its = leg_value world lawful good key id at in leg_kept key id its.0 its.1) rows shown)

  pub tells_holds : IsPermutation (all_rows_of the.Hold (rows_of world)) rows → (r : Result (finite.FinMap thing_cmp VehicleKey) OpenFault) → Reads r (read_rows hold_in finite.empty rows) → Follows r (λ table. table ≡ (maps_of world).holds)
  unfolding row_lists
  tells_holds shown r read =
      let holds = (maps_of world).holds in
      reads_it holds r (read_rows hold_in finite.empty rows) read
      (reads_all thing_cmp-total thing_cmp-IsAntisymmetric holds hold_columns hold_in (λ thing key at. hold_kept thing key (held_value world lawful good thing key at) (holder_value world lawful thing key at)) rows shown)
