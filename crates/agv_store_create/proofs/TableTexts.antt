-- Each text of a table defines that table, and nothing else.
use Rattle.std.proofs.Common.{◌≡◌, ℕ, List, [], Ok, Err, get_or, refl}
use Rattle.std.specs.List.{AllZip}
use Rattle.sqlite_ast.specs.declared.CreateTable.{CreateTable}
use Rattle.sqlite_ast.specs.declared.Statement.{Statement}
use Rattle.sqlite_ast.specs.declared.Statement.TheVariants as written
use Rattle.sqlite_syntax.specs.declared.statement.Parsed.{Parsed}
use Rattle.sqlite_resolve.specs.Lowering.{Checked}
use Rattle.sqlite_resolve.specs.Compile.{first, table_defined_by}
use Rattle.sqlite_schema.specs.declared.schema.Table.{Table}
use Rattle.sqlite_tied.specs.Compute.{everything}
use Rattle.agv_store_schema.specs.Schema.{meta_table, node_table, edge_table, station_table, vehicle_table, trip_table, leg_table, place_table, job_table, hold_table, used_table, capacity_table, journey_table, act_table, desk_tables}
use Rattle.agv_store_create.specs.SchemaTexts.{meta_forms_texts, table_texts, DefineTables}
use Rattle.agv_store_create.specs.StandingTables.{meta_forms}
use Rattle.agv_store_create.proofs.Creations.{DefinesTable}

pub all_defined : DefineTables
unfolding everything
all_defined = (refl, (refl, (refl, (refl, (refl, (refl, (refl, (refl, (refl, (refl, (refl, (refl, (refl, (refl, tt))))))))))))))

pub meta_defined_so : AllZip (λ text (table : Table). table_defined_by text ≡ Ok table) meta_forms_texts meta_forms
unfolding everything
meta_defined_so = (refl, (refl, (refl, (refl, (refl, tt)))))

-- ---- the parts of a text

abbrev parsed_or : Parsed → Checked Parsed → Parsed
parsed_or p (Ok q) = q
parsed_or p (Err e) = p

abbrev pub parsed : List ℕ → Parsed
parsed sql = parsed_or (record { statement = written.Empty; names = []; formats = []; start = 0; end = 0; tail = 0 }) (first sql)

abbrev MakesTable : Statement → Type 0
MakesTable (written.CreateTable def) = Unit {0}
MakesTable _ = ⊥

abbrev def_in : (x : Statement) → MakesTable x → CreateTable
def_in (written.CreateTable def) h = def
def_in _ h = absurd h

-- the text at a place
abbrev text_at : ℕ → List ℕ
text_at i = get_or table_texts i []

-- ---- the texts

meta_defined : DefinesTable (text_at 0) meta_table
unfolding everything
meta_defined = let p = parsed (text_at 0) in record { parsed = p; def = def_in p.statement tt; read = refl; untimed = refl; is = refl; name = refl; own = refl; defined = refl; known = refl; whole = refl; made = refl }

node_defined : DefinesTable (text_at 1) node_table
unfolding everything
node_defined = let p = parsed (text_at 1) in record { parsed = p; def = def_in p.statement tt; read = refl; untimed = refl; is = refl; name = refl; own = refl; defined = refl; known = refl; whole = refl; made = refl }

edge_defined : DefinesTable (text_at 2) edge_table
unfolding everything
edge_defined = let p = parsed (text_at 2) in record { parsed = p; def = def_in p.statement tt; read = refl; untimed = refl; is = refl; name = refl; own = refl; defined = refl; known = refl; whole = refl; made = refl }

station_defined : DefinesTable (text_at 3) station_table
unfolding everything
station_defined = let p = parsed (text_at 3) in record { parsed = p; def = def_in p.statement tt; read = refl; untimed = refl; is = refl; name = refl; own = refl; defined = refl; known = refl; whole = refl; made = refl }

vehicle_defined : DefinesTable (text_at 4) vehicle_table
unfolding everything
vehicle_defined = let p = parsed (text_at 4) in record { parsed = p; def = def_in p.statement tt; read = refl; untimed = refl; is = refl; name = refl; own = refl; defined = refl; known = refl; whole = refl; made = refl }

trip_defined : DefinesTable (text_at 5) trip_table
unfolding everything
trip_defined = let p = parsed (text_at 5) in record { parsed = p; def = def_in p.statement tt; read = refl; untimed = refl; is = refl; name = refl; own = refl; defined = refl; known = refl; whole = refl; made = refl }

leg_defined : DefinesTable (text_at 6) leg_table
unfolding everything
leg_defined = let p = parsed (text_at 6) in record { parsed = p; def = def_in p.statement tt; read = refl; untimed = refl; is = refl; name = refl; own = refl; defined = refl; known = refl; whole = refl; made = refl }

place_defined : DefinesTable (text_at 7) place_table
unfolding everything
place_defined = let p = parsed (text_at 7) in record { parsed = p; def = def_in p.statement tt; read = refl; untimed = refl; is = refl; name = refl; own = refl; defined = refl; known = refl; whole = refl; made = refl }

job_defined : DefinesTable (text_at 8) job_table
unfolding everything
job_defined = let p = parsed (text_at 8) in record { parsed = p; def = def_in p.statement tt; read = refl; untimed = refl; is = refl; name = refl; own = refl; defined = refl; known = refl; whole = refl; made = refl }

hold_defined : DefinesTable (text_at 9) hold_table
unfolding everything
hold_defined = let p = parsed (text_at 9) in record { parsed = p; def = def_in p.statement tt; read = refl; untimed = refl; is = refl; name = refl; own = refl; defined = refl; known = refl; whole = refl; made = refl }

used_defined : DefinesTable (text_at 10) used_table
unfolding everything
used_defined = let p = parsed (text_at 10) in record { parsed = p; def = def_in p.statement tt; read = refl; untimed = refl; is = refl; name = refl; own = refl; defined = refl; known = refl; whole = refl; made = refl }

capacity_defined : DefinesTable (text_at 11) capacity_table
unfolding everything
capacity_defined = let p = parsed (text_at 11) in record { parsed = p; def = def_in p.statement tt; read = refl; untimed = refl; is = refl; name = refl; own = refl; defined = refl; known = refl; whole = refl; made = refl }

journey_defined : DefinesTable (text_at 12) journey_table
unfolding everything
journey_defined = let p = parsed (text_at 12) in record { parsed = p; def = def_in p.statement tt; read = refl; untimed = refl; is = refl; name = refl; own = refl; defined = refl; known = refl; whole = refl; made = refl }

act_defined : DefinesTable (text_at 13) act_table
unfolding everything
act_defined = let p = parsed (text_at 13) in record { parsed = p; def = def_in p.statement tt; read = refl; untimed = refl; is = refl; name = refl; own = refl; defined = refl; known = refl; whole = refl; made = refl }

pub each_defined : AllZip DefinesTable table_texts desk_tables
each_defined = (meta_defined, (node_defined, (edge_defined, (station_defined, (vehicle_defined, (trip_defined, (leg_defined, (place_defined, (job_defined, (hold_defined, (used_defined, (capacity_defined, (journey_defined, (act_defined, tt))))))))))))))
