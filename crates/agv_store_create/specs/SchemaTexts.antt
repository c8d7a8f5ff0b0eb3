-- The SQL texts that create the desk's tables, and the steps of their creation.
use Rattle.std.specs.Prelude.{◌≡◌, ℕ, Bool, true, not, List, [], ◌∷◌, ◌++◌, map, Ok, codes}
use Rattle.std.specs.List.{AllZip}
use Rattle.sqlite_schema.specs.declared.schema.Schema.{Schema}
use Rattle.sqlite_schema.specs.declared.schema.Table.{Table}
use Rattle.sqlite_resolve.specs.Compile.{table_defined_by}
use Rattle.sqlite_catalog.specs.Change.{is_used}
use Rattle.agv_store_schema.specs.Schema.{desk_tables}

-- one text for each table, in the order in which they are created
abbrev pub table_texts : List (List ℕ)
table_texts =
    codes "CREATE TABLE meta (id INT PRIMARY KEY, schema INTEGER NOT NULL) STRICT"
    ∷ codes "CREATE TABLE node (id TEXT PRIMARY KEY) STRICT"
    ∷ codes "CREATE TABLE edge (id TEXT PRIMARY KEY, start TEXT NOT NULL, finish TEXT NOT NULL) STRICT"
    ∷ codes "CREATE TABLE station (id TEXT PRIMARY KEY, node TEXT NOT NULL, capacity INTEGER NOT NULL) STRICT"
    ∷ codes "CREATE TABLE vehicle (manufacturer TEXT, serial TEXT, node TEXT NOT NULL, rest_edge TEXT, rest_node TEXT, last_header INTEGER, reported TEXT, ready INTEGER NOT NULL, paused INTEGER NOT NULL, order_header INTEGER NOT NULL, order_at INTEGER NOT NULL, instant_header INTEGER NOT NULL, instant_at INTEGER NOT NULL, pending TEXT, PRIMARY KEY (manufacturer, serial)) STRICT"
    ∷ codes "CREATE TABLE trip (order_id TEXT PRIMARY KEY, manufacturer TEXT NOT NULL, serial TEXT NOT NULL, job TEXT NOT NULL, start TEXT NOT NULL, first INTEGER NOT NULL, base INTEGER NOT NULL, sent INTEGER NOT NULL, confirmed INTEGER, seen INTEGER NOT NULL, pick_at INTEGER NOT NULL, drop_at INTEGER NOT NULL, pick_status TEXT NOT NULL, drop_status TEXT NOT NULL, UNIQUE (manufacturer, serial), UNIQUE (job)) STRICT"
    ∷ codes "CREATE TABLE leg (order_id TEXT, k INTEGER, edge TEXT NOT NULL, PRIMARY KEY (order_id, k)) STRICT"
    ∷ codes "CREATE TABLE load (id TEXT PRIMARY KEY, kind TEXT NOT NULL, station TEXT, manufacturer TEXT, serial TEXT) STRICT"
    ∷ codes "CREATE TABLE job (id TEXT PRIMARY KEY, load TEXT NOT NULL, origin TEXT NOT NULL, target TEXT NOT NULL, phase TEXT NOT NULL) STRICT"
    ∷ codes "CREATE TABLE hold (kind TEXT, id TEXT, manufacturer TEXT NOT NULL, serial TEXT NOT NULL, PRIMARY KEY (kind, id)) STRICT"
    ∷ codes "CREATE TABLE used (kind TEXT, id TEXT, PRIMARY KEY (kind, id)) STRICT"
    ∷ codes "CREATE TABLE capacity (manufacturer TEXT, serial TEXT, capacity INTEGER NOT NULL, PRIMARY KEY (manufacturer, serial)) STRICT"
    ∷ codes "CREATE TABLE journey (order_id TEXT PRIMARY KEY, manufacturer TEXT NOT NULL, serial TEXT NOT NULL, start TEXT NOT NULL, first INTEGER NOT NULL, base INTEGER NOT NULL, sent INTEGER NOT NULL, confirmed INTEGER, seen INTEGER NOT NULL, UNIQUE (manufacturer, serial)) STRICT"
    ∷ codes "CREATE TABLE act (order_id TEXT, n INTEGER, job TEXT NOT NULL, kind TEXT NOT NULL, place_at INTEGER NOT NULL, status TEXT NOT NULL, PRIMARY KEY (order_id, n), UNIQUE (job, kind)) STRICT" ∷ []

-- the texts of the tables accepted as `meta`, one for each of `meta_forms`
abbrev pub meta_forms_texts : List (List ℕ)
meta_forms_texts =
    codes "CREATE TABLE meta (id INT PRIMARY KEY, schema INTEGER NOT NULL) STRICT"
    ∷ codes "CREATE TABLE meta (id INTEGER PRIMARY KEY, schema INTEGER NOT NULL) STRICT"
    ∷ codes "CREATE TABLE meta (id INTEGER PRIMARY KEY NOT NULL, schema INTEGER NOT NULL) STRICT"
    ∷ codes "CREATE TABLE meta (id INTEGER PRIMARY KEY UNIQUE, schema INTEGER NOT NULL) STRICT"
    ∷ codes "CREATE TABLE meta (id INTEGER PRIMARY KEY NOT NULL UNIQUE, schema INTEGER NOT NULL) STRICT" ∷ []

-- the text that inserts the row of `meta`
abbrev pub meta_text : List ℕ
meta_text = codes "INSERT INTO meta (id, schema) VALUES (1, 2)"

-- the name and the text of each index
abbrev pub index_texts : List (List ℕ × List ℕ)
index_texts =
    (codes "load_station", codes "CREATE INDEX load_station ON load (station)")
    ∷ (codes "load_vehicle", codes "CREATE INDEX load_vehicle ON load (manufacturer, serial)")
    ∷ (codes "job_load", codes "CREATE INDEX job_load ON job (load, phase)")
    ∷ (codes "job_target", codes "CREATE INDEX job_target ON job (target, phase)") ∷ []

-- the steps of the creation, each with whether it is executed: an index is left out if its name is taken
abbrev pub making_steps : Schema → List (Bool × List ℕ)
making_steps schema =
    map (λ text. (true, text)) table_texts ++ (map (λ (index : List ℕ × List ℕ). (not (is_used schema index.0), index.1)) index_texts ++ (true, meta_text) ∷ [])

-- each text defines its table
abbrev pub DefineTables : Type 0
DefineTables = AllZip (λ text (table : Table). table_defined_by text ≡ Ok table) table_texts desk_tables
