-- The schema of the desk's database: fourteen STRICT tables, and four plain indexes that only speed up look-ups.
use Rattle.std.specs.Prelude.{ℕ, Bool, true, false, List, [], ◌∷◌, map, None, codes}
use Rattle.sqlite_value.specs.declared.keys.Collation.TheVariants.{Binary}
use Rattle.sqlite_value.specs.declared.value.Value.TheVariants.{Null}
use Rattle.sqlite_value.specs.Keys.{plain}
use Rattle.sqlite_schema.specs.declared.schema.Kind.{Kind}
use Rattle.sqlite_schema.specs.declared.schema.Kind.TheVariants as kind
use Rattle.sqlite_schema.specs.declared.schema.Column.{Column}
use Rattle.sqlite_schema.specs.declared.schema.Table.{Table}

-- ---- columns

-- a column of a STRICT table, without a default
abbrev pub column_of : Kind → Bool → List ℕ → Column
column_of kind not_null name = record { name = name; kind = kind; is_strict = true; not_null = not_null; default = Null; collation = Binary }

-- a TEXT column that is NOT NULL
abbrev pub text : List ℕ → Column
text = column_of kind.Text true

-- an INTEGER column that is NOT NULL
abbrev pub number : List ℕ → Column
number = column_of kind.Integer true

-- a TEXT column that may be NULL
abbrev pub maybe_text : List ℕ → Column
maybe_text = column_of kind.Text false

-- an INTEGER column that may be NULL
abbrev pub maybe_number : List ℕ → Column
maybe_number = column_of kind.Integer false

-- ---- tables

-- a table with these columns, the columns of its primary key, and its other unique keys; columns are counted from 1
abbrev pub table_of : List ℕ → List Column → List ℕ → List (List ℕ) → Table
table_of name columns primary others = record {
  name = name;
  tree = 0;
  columns = columns;
  key = None;
  primary = primary;
  uniques = primary ∷ others;
  orders = map (λ _. plain) (primary ∷ others);
  checks = [];
  references = [];
  computed = [];
  stamps = record { places = []; terms = []; formats = [] };
  is_counted = false;
}

-- the number of the schema, in one row whose id is 1
abbrev pub meta_table : Table
meta_table = table_of (codes "meta") (number (codes "id") ∷ number (codes "schema") ∷ []) (1 ∷ []) []

-- the nodes of the layout
abbrev pub node_table : Table
node_table = table_of (codes "node") (text (codes "id") ∷ []) (1 ∷ []) []

-- the edges of the layout
abbrev pub edge_table : Table
edge_table = table_of (codes "edge") (text (codes "id") ∷ text (codes "start") ∷ text (codes "finish") ∷ []) (1 ∷ []) []

-- the stations of the layout
abbrev pub station_table : Table
station_table = table_of (codes "station") (text (codes "id") ∷ text (codes "node") ∷ number (codes "capacity") ∷ []) (1 ∷ []) []

-- the vehicles, without their open trips
abbrev pub vehicle_table : Table
vehicle_table = table_of (codes "vehicle")
    (text (codes "manufacturer") ∷ text (codes "serial") ∷ text (codes "node")
    ∷ maybe_text (codes "rest_edge") ∷ maybe_text (codes "rest_node") ∷ maybe_number (codes "last_header") ∷ maybe_text (codes "reported")
    ∷ number (codes "ready") ∷ number (codes "paused")
    ∷ number (codes "order_header") ∷ number (codes "order_at") ∷ number (codes "instant_header") ∷ number (codes "instant_at")
    ∷ maybe_text (codes "pending") ∷ [])
    (1 ∷ 2 ∷ []) []

-- the open trips as the first schema had them, one job each; in this schema the table is empty
abbrev pub trip_table : Table
trip_table = table_of (codes "trip")
    (text (codes "order_id") ∷ text (codes "manufacturer") ∷ text (codes "serial") ∷ text (codes "job") ∷ text (codes "start")
    ∷ number (codes "first") ∷ number (codes "base") ∷ number (codes "sent") ∷ maybe_number (codes "confirmed") ∷ number (codes "seen")
    ∷ number (codes "pick_at") ∷ number (codes "drop_at") ∷ text (codes "pick_status") ∷ text (codes "drop_status") ∷ [])
    (1 ∷ []) ((2 ∷ 3 ∷ []) ∷ (4 ∷ []) ∷ [])

-- the edges of the open trips
abbrev pub leg_table : Table
leg_table = table_of (codes "leg") (text (codes "order_id") ∷ number (codes "k") ∷ text (codes "edge") ∷ []) (1 ∷ 2 ∷ []) []

-- where each load is
abbrev pub place_table : Table
place_table = table_of (codes "load")
    (text (codes "id") ∷ text (codes "kind") ∷ maybe_text (codes "station") ∷ maybe_text (codes "manufacturer") ∷ maybe_text (codes "serial") ∷ []) (1 ∷ []) []

-- the jobs
abbrev pub job_table : Table
job_table = table_of (codes "job")
    (text (codes "id") ∷ text (codes "load") ∷ text (codes "origin") ∷ text (codes "target") ∷ text (codes "phase") ∷ []) (1 ∷ []) []

-- which vehicle holds a node or an edge
abbrev pub hold_table : Table
hold_table = table_of (codes "hold")
    (text (codes "kind") ∷ text (codes "id") ∷ text (codes "manufacturer") ∷ text (codes "serial") ∷ []) (1 ∷ 2 ∷ []) []

-- the order ids and references that have been used
abbrev pub used_table : Table
used_table = table_of (codes "used") (text (codes "kind") ∷ text (codes "id") ∷ []) (1 ∷ 2 ∷ []) []

-- how many loads a vehicle may carry at once
abbrev pub capacity_table : Table
capacity_table = table_of (codes "capacity") (text (codes "manufacturer") ∷ text (codes "serial") ∷ number (codes "capacity") ∷ []) (1 ∷ 2 ∷ []) []

-- the open trips, at most one for each vehicle, without their edges and acts
abbrev pub journey_table : Table
journey_table = table_of (codes "journey")
    (text (codes "order_id") ∷ text (codes "manufacturer") ∷ text (codes "serial") ∷ text (codes "start")
    ∷ number (codes "first") ∷ number (codes "base") ∷ number (codes "sent") ∷ maybe_number (codes "confirmed") ∷ number (codes "seen") ∷ [])
    (1 ∷ []) ((2 ∷ 3 ∷ []) ∷ [])

-- the acts of the open trips, at most one pick and one drop for each job
abbrev pub act_table : Table
act_table = table_of (codes "act")
    (text (codes "order_id") ∷ number (codes "n") ∷ text (codes "job") ∷ text (codes "kind") ∷ number (codes "place_at") ∷ text (codes "status") ∷ [])
    (1 ∷ 2 ∷ []) ((3 ∷ 4 ∷ []) ∷ [])

-- the fourteen tables, in the order in which they are created
abbrev pub desk_tables : List Table
desk_tables =
    meta_table ∷ node_table ∷ edge_table ∷ station_table ∷ vehicle_table ∷ trip_table ∷ leg_table ∷ place_table ∷ job_table ∷ hold_table ∷ used_table
    ∷ capacity_table ∷ journey_table ∷ act_table ∷ []

-- ---- indexes

-- a plain index: its name, its table, and the names of its columns
pub record PlainIndex : Type 0 where
  pub name : List ℕ
  pub table : List ℕ
  pub columns : List (List ℕ)

-- the indexes for the loads at a station, the loads on a vehicle, the live job of a load, and the live jobs to a station
abbrev pub desk_indexes : List PlainIndex
desk_indexes =
    (record { name = codes "load_station"; table = codes "load"; columns = codes "station" ∷ [] })
    ∷ (record { name = codes "load_vehicle"; table = codes "load"; columns = codes "manufacturer" ∷ codes "serial" ∷ [] })
    ∷ (record { name = codes "job_load"; table = codes "job"; columns = codes "load" ∷ codes "phase" ∷ [] })
    ∷ (record { name = codes "job_target"; table = codes "job"; columns = codes "target" ∷ codes "phase" ∷ [] }) ∷ []
