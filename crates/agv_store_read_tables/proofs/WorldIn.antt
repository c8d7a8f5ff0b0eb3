-- A database that has the rows of a lawful world tells that world.
use Rattle.std.proofs.Common.{◌≡◌, ℕ, Bool, List, [], ◌∷◌, map, Option, None, Some, Ok, Err, Result, IsPermutation, slice_get, option_and_then, option_map, unwrap_or, refl, sym, ap, subst, ◌∙◌}
use Rattle.std.specs.FinMap as finite
use Rattle.std.specs.List.{AllZip}
use Rattle.sqlite_value.specs.Order.{Row}
use Rattle.sqlite_schema.specs.declared.schema.Schema.{Schema}
use Rattle.sqlite_schema.specs.declared.schema.Table.{Table}
use Rattle.sqlite.specs.Effect.{Database}
use Rattle.agv_header.specs.Key.{key_cmp}
use Rattle.agv_store_rows.specs.TripRows.{acts_of, journeys_of}
use Rattle.agv_world_core.specs.ConsistentTrips.{HasConsistentTrips}
use Rattle.agv_world_core.specs.Kept.{Keeps}
use Rattle.agv_world_core.specs.Lawful.{IsLawful}
use Rattle.agv_world_core.specs.Maps.{maps_of}
use Rattle.agv_world_core.specs.Told.{world_of}
use Rattle.agv_world_core.specs.Worlds.{World}
use Rattle.agv_world_core.specs.declared.row.VehicleRow.{VehicleRow}
use Rattle.agv_world_core.specs.declared.world.World.{World as Tables}
use Rattle.agv_store_schema.specs.DeskRows.{Holds, IsDesk, Placing, RowidColumn, TableHas, has_any, is_first_required, key_by, place_of, row_shown, shown_in, table_at, table_in, table_names}
use Rattle.agv_store_read.specs.ReadTables.{Reads}
use Rattle.agv_store_rows.specs.Rows.{AreAlike, rows_of}
use Rattle.agv_store_schema.specs.SchemaNumbers.{desk_seats}
use Rattle.agv_store_rows.specs.DecodedTrips.{capacities_of, trips_with}
use Rattle.agv_store_read.specs.WorldAnswers.{HasWorld}
use Rattle.agv_store_read_tables.specs.WorldIn.{acts_in, capacities_in, jobs_in, journeys_in, found_as, keys_found, lists_in, placed_in, tables_in, tree_of, world_in}
use Rattle.agv_store_read.specs.declared.open_fault.OpenFault.{OpenFault}
use Rattle.agv_store_read.specs.declared.open_fault.OpenFault.TheVariants as fault
use Rattle.agv_store_schema.specs.declared.table_name.TableName.{TableName}
use Rattle.agv_store_schema.specs.declared.table_name.TableName.TheVariants as the
use Rattle.agv_store_read.proofs.Asking.{Follows}
use Rattle.agv_store_schema.proofs.DeskPlaces.{shown_by_key}
use Rattle.agv_store_rows.proofs.ListsTell.{alike_at}
use Rattle.agv_store_read_tables.proofs.TableAnswers.{reads_vehicles, tells_capacities, tells_edges, tells_jobs, tells_legs, tells_nodes, tells_places, tells_stations, tells_used_names}
use Rattle.agv_store_read_tables.proofs.TripTableAnswers.{AreActValues, AreJourneyValues, tells_acts, tells_journeys}

-- ---- where the tables stand

-- the tables of a desk are those that SQL finds by their names
found_there : (desk : Placing) → IsDesk desk → (name : TableName) → found_as desk.schema name ≡ Some (table_in desk name)
found_there desk is name = let its = is.stands name in ap (λ (at : Option ℕ). option_and_then (slice_get desk.schema.tables) at) its.named ∙ its.there

pub placed_there : (desk : Placing) → IsDesk desk → (name : TableName) → (placed_in desk.schema).tree name ≡ desk.tree name
placed_there desk is name = ap tree_of (found_there desk is name)

-- so their rows are shown alike
key_is : (r : Option RowidColumn) (found : RowidColumn) → key_by (option_map (λ _. found) (key_by r)) ≡ key_by r
key_is None found = refl
key_is (Some first) found = refl

shown_there : (desk : Placing) → IsDesk desk → (name : TableName) → shown_in (placed_in desk.schema) name ≡ shown_in desk name
shown_there desk is the.Meta =
    let r = (desk.keys the.Meta).rowid_column in
    let table = table_in desk the.Meta in
    let found : RowidColumn = record { not_null = is_first_required table.columns; is_unique = has_any table.uniques } in
    ap (λ (o : Option Table). row_shown (keys_found o).rowid_column 2) (found_there desk is the.Meta) ∙ shown_by_key (option_map (λ _. found) (key_by r)) r 2 (key_is r found)
shown_there desk is _ = refl

-- ---- their rows

-- the rows of all entries of the named tables, where they are shown so and lie in these trees
abbrev lists_by : Database → (TableName → (Row → Row) × ℕ) → List TableName → List (List Row)
lists_by db at = map (λ (name : TableName). map (at name).0 (db.trees (at name).1))

abbrev at_desk : Placing → TableName → (Row → Row) × ℕ
at_desk desk name = (shown_in desk name, desk.tree name)

alike_by : (db : Database) (desk : Placing) (names : List TableName) (lists : List (List Row)) → AllZip (TableHas desk db.trees) names lists → AreAlike lists (lists_by db (at_desk desk) names)
alike_by db desk [] [] have = tt
alike_by db desk [] (rows ∷ lists) have = absurd have
alike_by db desk (name ∷ names) [] have = absurd have
alike_by db desk (name ∷ names) (rows ∷ lists) have = (have.0.1, alike_by db desk names lists have.1)

pub lists_alike : (desk : Placing) (db : Database) (lists : List (List Row)) → IsDesk desk → Holds desk db lists → AreAlike lists (lists_in db)
unfolding lists_in
lists_alike desk db lists is held =
    let same : at_desk (placed_in db.schema) ≡ at_desk desk =
    ap (λ (s : Schema). at_desk (placed_in s)) held.schema_is ∙ (λ i name. (shown_there desk is name i, placed_there desk is name i)) in
    subst (λ (at : TableName → (Row → Row) × ℕ). AreAlike lists (lists_by db at table_names)) (sym same) (alike_by db desk table_names lists held.rows)

-- ---- the tables that they tell

-- where each reading of rows that doesn't fail gives this table, their table is this one
given_by : {A : Type 0} (table nothing : A) (given : Option A) → ((r : Result A OpenFault) → Reads r given → Follows r (λ t. t ≡ table)) → unwrap_or given nothing ≡ table
given_by table nothing None follows = absurd (follows (Err fault.Damaged) refl)
given_by table nothing (Some t) follows = follows (Ok t) refl

-- all its trips are told by their journeys, their acts and the rows of their jobs
abbrev TellsTrips : World → Type 0
TellsTrips world = trips_with (journeys_of (maps_of world).trips) (acts_of (maps_of world).trips) (maps_of world).jobs ≡ (maps_of world).trips

pub tables_kept : (world : World) → IsLawful desk_seats world → HasConsistentTrips world → AreJourneyValues world → AreActValues world → TellsTrips world
    → (lists : List (List Row)) → AreAlike (rows_of world) lists → Keeps (tables_in lists) world
tables_kept world lawful good journey_values act_values told lists alike =
    let rows : TableName → List Row = λ name. table_at (place_of name) lists in
    let shown : (name : TableName) → IsPermutation (table_at (place_of name) (rows_of world)) (rows name) = λ name. alike_at (place_of name) (rows_of world) lists alike in
    let jobs : jobs_in lists ≡ world.jobs = given_by world.jobs finite.empty _ (tells_jobs world lawful (rows the.Job) (shown the.Job)) in
    let capacities : capacities_in lists ≡ capacities_of (maps_of world).vehicles = given_by (capacities_of (maps_of world).vehicles) finite.empty _ (tells_capacities world lawful (rows the.Capacity) (shown the.Capacity)) in
    let journeys : journeys_in lists ≡ journeys_of (maps_of world).trips = given_by (journeys_of (maps_of world).trips) finite.empty _ (tells_journeys world (rows the.Journey) journey_values (shown the.Journey)) in
    let acts : acts_in lists ≡ acts_of (maps_of world).trips = given_by (acts_of (maps_of world).trips) finite.empty _ (tells_acts world (rows the.Act) act_values (shown the.Act)) in
    record {
      nodes = given_by _ _ _ (tells_nodes world lawful (rows the.Node) (shown the.Node));
      edges = given_by _ _ _ (tells_edges world lawful (rows the.Edge) (shown the.Edge));
      stations = given_by _ _ _ (tells_stations world lawful (rows the.Station) (shown the.Station));
      vehicles = ap (λ (o : Option (finite.FinMap key_cmp VehicleRow)). unwrap_or o finite.empty) (reads_vehicles world lawful (rows the.Vehicle) (capacities_in lists) capacities (shown the.Vehicle));
      trips = (λ i. trips_with (journeys i) (acts i) (jobs i)) ∙ told;
      legs = given_by _ _ _ (tells_legs world lawful good (rows the.Leg) (shown the.Leg));
      loads = given_by _ _ _ (tells_places world lawful (rows the.Load) (shown the.Load));
      jobs = jobs;
      used = given_by _ _ _ (tells_used_names world lawful (rows the.Used) (shown the.Used));
    }

-- ---- the world

pub world_told : ((world : World) → IsLawful desk_seats world → HasConsistentTrips world) → ((world : World) → IsLawful desk_seats world → AreJourneyValues world) → ((world : World) → IsLawful desk_seats world → AreActValues world)
    → ((world : World) → IsLawful desk_seats world → TellsTrips world) → ((tables : Tables) (world : World) → Keeps tables world → HasConsistentTrips world → world_of tables ≡ world) → (desk : Placing) (db : Database) (world : World) → HasWorld desk db world → world_in db ≡ world
unfolding world_in
world_told good journeys acts all told desk db world has =
    let lawful = has.lawful in
    told (tables_in (lists_in db)) world
    (tables_kept world lawful (good world lawful) (journeys world lawful) (acts world lawful) (all world lawful) (lists_in db) (lists_alike desk db (rows_of world) has.stands has.rows)) (good world lawful)
