-- The rows of tables that were read are those of the world whose tables they are.
use Rattle.std.proofs.Common.{◌≡◌, ℕ, suc, List, [], ◌∷◌, length, IsPermutation, subst, refl, sym}
use Rattle.std.proofs.lemmas.List.Sorted.{IsPermutation-refl}
use Rattle.std.specs.List.{AllZip}
use Rattle.sqlite_value.specs.Order.{Row}
use Rattle.sqlite.specs.Effect.{Database}
use Rattle.agv_track_holds.specs.Holds.{Holds as Holders}
use Rattle.agv_store_rows.specs.TripRows.{acts_of, journeys_of}
use Rattle.agv_world_core.specs.Kept.{Keeps}
use Rattle.agv_world_core.specs.Maps.{maps_of}
use Rattle.agv_world_core.specs.Worlds.{World}
use Rattle.agv_world_core.specs.declared.world.World.{World as Tables}
use Rattle.agv_store_rows.specs.Columns.{act_columns, edge_columns, hold_columns, job_columns, journey_columns, leg_columns, load_columns, node_columns, vehicle_capacity_columns, station_columns, used_columns, vehicle_columns}
use Rattle.agv_store_schema.specs.DeskRows.{Placing, Holds, TableHas, table_at, table_names}
use Rattle.agv_store_rows.specs.Rows.{AreAlike, HoldsWorld, TellRows, row_lists, rows_for, rows_in, rows_of}
use Rattle.agv_store_read.specs.TablesRead.{HaveAll}
use Rattle.agv_store_rows.proofs.ListsHeld.{held_alike}

-- from a place on, the lists have the same rows as these, in some order
abbrev AlikeFrom : ℕ → List (List Row) → List (List Row) → Type 0
AlikeFrom at lists [] = Unit {0}
AlikeFrom at lists (rows ∷ others) = IsPermutation (table_at at lists) rows × AlikeFrom (suc at) lists others

without_first : (at : ℕ) (first : List Row) (lists others : List (List Row)) → AlikeFrom (suc at) (first ∷ lists) others → AlikeFrom at lists others
without_first at first lists [] h = tt
without_first at first lists (rows ∷ others) h = (h.0, without_first (suc at) first lists others h.1)

all_alike : {A : Type 0} (R : A → List Row → Type 0) (names : List A) (lists others : List (List Row)) → AllZip R names lists → length others ≡ length names → AlikeFrom 0 lists others → AreAlike lists others
all_alike R [] [] [] zip as_many h = tt
all_alike R [] [] (rows ∷ others) zip as_many h = absurd (cc as_many)
all_alike R [] (first ∷ lists) others zip as_many h = absurd zip
all_alike R (name ∷ names) [] others zip as_many h = absurd zip
all_alike R (name ∷ names) (first ∷ lists) [] zip as_many h = absurd (cc as_many)
all_alike R (name ∷ names) (first ∷ lists) (rows ∷ others) zip as_many h = (h.0, all_alike R names lists others zip.1 (cc as_many) (without_first 0 first lists others h.1))

pub rows_told : (desk : Placing) (db : Database) (lists : List (List Row)) (tables : Tables) (holds : Holders) (world : World)
    → Holds desk db lists → HaveAll lists tables holds → Keeps tables world → holds ≡ (maps_of world).holds → TellRows lists (maps_of world)
unfolding row_lists
rows_told desk db lists tables holds world held have keeps are =
    let read = have.tables in
    let meta : IsPermutation (table_at 0 lists) (table_at 0 (rows_of world)) = have.meta in
    let nodes : IsPermutation (table_at 1 lists) (table_at 1 (rows_of world)) = subst (λ t. IsPermutation (table_at 1 lists) (rows_for node_columns t)) keeps.nodes read.nodes in
    let edges : IsPermutation (table_at 2 lists) (table_at 2 (rows_of world)) = subst (λ t. IsPermutation (table_at 2 lists) (rows_in edge_columns t)) keeps.edges read.edges in
    let stations : IsPermutation (table_at 3 lists) (table_at 3 (rows_of world)) = subst (λ t. IsPermutation (table_at 3 lists) (rows_in station_columns t)) keeps.stations read.stations in
    let vehicles : IsPermutation (table_at 4 lists) (table_at 4 (rows_of world)) = subst (λ t. IsPermutation (table_at 4 lists) (rows_in vehicle_columns t)) keeps.vehicles read.vehicles in
    let trips : IsPermutation (table_at 5 lists) (table_at 5 (rows_of world)) = subst (λ rows. IsPermutation rows []) (sym read.trips) (IsPermutation-refl []) in
    let legs : IsPermutation (table_at 6 lists) (table_at 6 (rows_of world)) = subst (λ t. IsPermutation (table_at 6 lists) (rows_in leg_columns t)) keeps.legs read.legs in
    let loads : IsPermutation (table_at 7 lists) (table_at 7 (rows_of world)) = subst (λ t. IsPermutation (table_at 7 lists) (rows_in load_columns t)) keeps.loads read.loads in
    let jobs : IsPermutation (table_at 8 lists) (table_at 8 (rows_of world)) = subst (λ t. IsPermutation (table_at 8 lists) (rows_in job_columns t)) keeps.jobs read.jobs in
    let holds : IsPermutation (table_at 9 lists) (table_at 9 (rows_of world)) = subst (λ t. IsPermutation (table_at 9 lists) (rows_in hold_columns t)) are have.holds in
    let used : IsPermutation (table_at 10 lists) (table_at 10 (rows_of world)) = subst (λ t. IsPermutation (table_at 10 lists) (rows_for used_columns t)) keeps.used read.used in
    let capacities : IsPermutation (table_at 11 lists) (table_at 11 (rows_of world)) = subst (λ t. IsPermutation (table_at 11 lists) (rows_in vehicle_capacity_columns t)) keeps.vehicles read.capacities in
    let journeys : IsPermutation (table_at 12 lists) (table_at 12 (rows_of world)) = subst (λ t. IsPermutation (table_at 12 lists) (rows_in journey_columns (journeys_of t))) keeps.trips read.journeys in
    let acts : IsPermutation (table_at 13 lists) (table_at 13 (rows_of world)) = subst (λ t. IsPermutation (table_at 13 lists) (rows_in act_columns (acts_of t))) keeps.trips read.acts in
    all_alike (TableHas desk db.trees) table_names lists (rows_of world) held.rows refl
    (meta, (nodes, (edges, (stations, (vehicles, (trips, (legs, (loads, (jobs, (holds, (used, (capacities, (journeys, (acts, tt))))))))))))))

pub world_held : (desk : Placing) (db : Database) (lists : List (List Row)) (tables : Tables) (holds : Holders) (world : World)
    → Holds desk db lists → HaveAll lists tables holds → Keeps tables world → holds ≡ (maps_of world).holds → HoldsWorld desk db world
world_held desk db lists tables holds world held have keeps are =
    held_alike desk db lists (rows_of world) (rows_told desk db lists tables holds world held have keeps are) held
