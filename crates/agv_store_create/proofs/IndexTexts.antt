-- CREATE INDEX where the name is free: what the text means, and what it makes.
use Rattle.std.proofs.Common.{◌≡◌, ◌∙◌, ℕ, false, List, [], ◌∷◌, Option, Some, Ok, inl, inr, codes, slice_get, refl, sym, ap, subst, append-nil}
use Rattle.std.specs.List.{AllZip}
use Rattle.sqlite_value.specs.Order.{value_cmp}
use Rattle.sqlite_trees.specs.Sound.{begins, fits_kind, is_free_name, same_name as trees_name}
use Rattle.sqlite_ast.specs.declared.CreateIndex.{CreateIndex}
use Rattle.sqlite_ast.specs.declared.Statement.{Statement}
use Rattle.sqlite_ast.specs.declared.Statement.TheVariants as written
use Rattle.sqlite_schema.specs.declared.command.Command.TheVariants as make
use Rattle.sqlite_schema.specs.declared.schema.Index.{Index}
use Rattle.sqlite_schema.specs.declared.schema.Table.{Table}
use Rattle.sqlite_schema.specs.declared.schema.Schema.{Schema}
use Rattle.sqlite_schema.specs.Names.{same_name, table_named}
use Rattle.sqlite_rules.specs.Lists.{Has}
use Rattle.sqlite_resolve.specs.Compile.{first, compiled, timed, returning, command, create_index, creates, is_reserved, index_defined_by}
use Rattle.sqlite_resolve.specs.Define as define
use Rattle.sqlite_catalog.specs.Change.{is_used, indexed}
use Rattle.sqlite_catalog.specs.Calls.{CreatesIndex}
use Rattle.sqlite_tied.specs.Compute.{everything}
use Rattle.sqlite.specs.Does.{Tally, AtPlace, Defines, MakesIndex}
use Rattle.sqlite.specs.Effect.{Database}
use Rattle.sqlite.specs.State.{text_of}
use Rattle.sqlite.proofs.Callers.{statement_of}
use Rattle.sqlite.specs.Listing.{understood}
use Rattle.agv_store_schema.specs.Schema.{PlainIndex, desk_tables, desk_indexes, place_table, job_table}
use Rattle.agv_store_create.specs.SchemaTexts.{index_texts}
use Rattle.agv_store_create.specs.DeskSchema.{index_on, with_new_index}
use Rattle.agv_store_create.specs.DeskTables.{HasTable}
use Rattle.agv_store_create.specs.TextsRun.{RunsText, enforced}
use Rattle.agv_store_create.proofs.Creations.{Says, says, compiled_is, compiled_to, unused}
use Rattle.agv_store_create.proofs.NamesKept.{KeepsName, index_keeps}
use Rattle.agv_store_schema.proofs.Running.{went, same_value}
use Rattle.agv_store_create.proofs.TableTexts.{parsed}
use Rattle.agv_store_create.proofs.TablesKept.{Grows, grows_by}
use Rattle.agv_store_create.proofs.TextsFit.{StoresIndex}

-- the text defines this index of a table, wherever that lies
pub record DefinesIndex (sql : List ℕ) (index : PlainIndex) : Type 0 where
  pub table : Table
  pub def : CreateIndex
  pub read : first sql ≡ Ok (parsed sql)
  pub untimed : (parsed sql).formats ≡ []
  pub is : (parsed sql).statement ≡ written.CreateIndex def
  pub name : def.name ≡ index.name
  pub of : def.table ≡ index.table
  pub table_is : table.name ≡ index.table
  pub own : is_reserved def.name ≡ false
  pub own_table : is_reserved def.table ≡ false
  pub defined : (tree : ℕ) → define.index (record table { tree = tree }) def ≡ Ok (index_on (record table { tree = tree }) index)
  pub whole : (at : ℕ) → text_of sql (compiled_to (parsed sql) (make.CreateIndex at)) ≡ sql
  pub made : (tree : ℕ) → index_defined_by (record table { tree = tree }) sql ≡ Ok (index_on (record table { tree = tree }) index)
  pub stores : StoresIndex sql table index

-- a text defines one index
same_index : (sql : List ℕ) (t : Table) (i j : Index) → index_defined_by t sql ≡ Ok i → index_defined_by t sql ≡ Ok j → i ≡ j
same_index sql t i j p q = same_value (sym p ∙ q)

module _ (sql : List ℕ) (index : PlainIndex) (d : DefinesIndex sql index) where
  module _ (s : Schema) (at tree : ℕ) (there : slice_get s.tables at ≡ Some (record d.table { tree = tree })) where
    pub says_named : table_named s d.def.table ≡ Some at → is_used s d.def.name ≡ false → compiled s sql ≡ Ok (compiled_to (parsed sql) (make.CreateIndex at))
    unfolding command returning timed create_index creates
    says_named named used =
        let free = unused s d.def.name used in
        compiled_is s sql (parsed sql) (make.CreateIndex at) d.read (rw (d.is, d.untimed)) (rw d.is) (rw (d.is, d.own_table, named, there, d.own, free.0, free.1, free.2, d.defined tree))

    pub says_index : table_named s index.table ≡ Some at → is_used s index.name ≡ false → Says s sql (make.CreateIndex at)
    says_index named used =
        says s sql (parsed sql) (make.CreateIndex at) (says_named (subst (λ n. table_named s n ≡ Some at) (sym d.of) named) (subst (λ n. is_used s n ≡ false) (sym d.name) used)) (d.whole at)

    new_index_is : table_named s index.table ≡ Some at → is_used s index.name ≡ false → with_new_index s index ≡ indexed s (record d.table { tree = tree }) (index_on (record d.table { tree = tree }) index)
    new_index_is named used = rw (used, named, there)

  -- the index is made, and all tables stay as they were
  pub record MadeIndex (old new : Database) : Type 0 where
    pub schema_is : new.schema ≡ with_new_index old.schema index
    pub grows : Grows old new
    pub names : (name : List ℕ) → same_name index.name name ≡ false → KeepsName old.schema new.schema name

  pub makes_index : (old new : Database) → HasTable old d.table [] → is_used old.schema index.name ≡ false → RunsText sql old new → MadeIndex old new
  makes_index old new h used ran =
      let named : table_named old.schema index.table ≡ Some h.at = subst (λ n. table_named old.schema n ≡ Some h.at) d.table_is h.named in
      let table = record d.table { tree = h.tree } in
      let says = says_index old.schema h.at h.tree h.there named used in
      let did = ran (make.CreateIndex h.at) says.is says.plain tt in
      let text = statement_of sql (understood old.schema sql) in
      let placed : AtPlace (λ (t : Table). Defines enforced (MakesIndex text old t)) (Some table) (Ok (did.tally, new)) =
      subst (λ (o : Option Table). AtPlace (λ (t : Table). Defines enforced (MakesIndex text old t)) o (Ok (did.tally, new))) h.there did.does in
      let all = went placed in
      let last : new ≡ all.0 = ap (λ (p : Tally × Database). p.1) (same_value all.2) in
      let c : CreatesIndex old.schema table sql old.trees new.schema new.trees =
      subst (λ (d : Database). CreatesIndex old.schema table sql old.trees d.schema d.trees) (sym last) (subst (λ t. CreatesIndex old.schema table t old.trees all.0.schema all.0.trees) says.whole all.1) in
      let same = same_index sql table c.index (index_on table index) c.defined (d.made h.tree) in
      let is : new.schema ≡ indexed old.schema table (index_on table index) = c.is ∙ ap (indexed old.schema table) same in
      record {
        schema_is = is ∙ sym (new_index_is old.schema h.at h.tree h.there named used);
        grows = grows_by old new (record { more = []; tables = ap (λ (s : Schema). s.tables) is ∙ sym (append-nil old.schema.tables); above = λ t none. absurd none; rows = c.rows });
        names = λ name other. subst (λ s. KeepsName old.schema s name) (sym is) (index_keeps name old.schema table (index_on table index) other);
      }

-- ---- the texts

abbrev MakesIndexOf : Statement → Type 0
MakesIndexOf (written.CreateIndex def) = Unit {0}
MakesIndexOf _ = ⊥

abbrev def_in : (x : Statement) → MakesIndexOf x → CreateIndex
def_in (written.CreateIndex def) h = def
def_in _ h = absurd h

-- the text of an index, with its name
pub record IsTextOf (it : List ℕ × List ℕ) (index : PlainIndex) : Type 0 where
  pub name : it.0 ≡ index.name
  pub defines : DefinesIndex it.1 index
  pub among : Has desk_tables defines.table

station_is : IsTextOf (codes "load_station", codes "CREATE INDEX load_station ON load (station)") (record { name = codes "load_station"; table = codes "load"; columns = codes "station" ∷ [] })
unfolding everything begins fits_kind is_free_name trees_name value_cmp lib.Ieee.is_nan lib.Ieee.lt
station_is = record { name = refl; defines = record { table = place_table; def = def_in (parsed (codes "CREATE INDEX load_station ON load (station)")).statement tt; read = refl; untimed = refl; is = refl; name = refl; of = refl; table_is = refl; own = refl; own_table = refl; defined = λ tree. refl; whole = λ at. refl; made = λ tree. refl; stores = record { alone = refl; ascii = refl; named = refl; on_named = refl; own = refl; reals = refl; key = refl; fit = refl; short = refl } }; among = inr (inr (inr (inr (inr (inr (inr (inl refl))))))) }

vehicle_is : IsTextOf (codes "load_vehicle", codes "CREATE INDEX load_vehicle ON load (manufacturer, serial)") (record { name = codes "load_vehicle"; table = codes "load"; columns = codes "manufacturer" ∷ codes "serial" ∷ [] })
unfolding everything begins fits_kind is_free_name trees_name value_cmp lib.Ieee.is_nan lib.Ieee.lt
vehicle_is = record { name = refl; defines = record { table = place_table; def = def_in (parsed (codes "CREATE INDEX load_vehicle ON load (manufacturer, serial)")).statement tt; read = refl; untimed = refl; is = refl; name = refl; of = refl; table_is = refl; own = refl; own_table = refl; defined = λ tree. refl; whole = λ at. refl; made = λ tree. refl; stores = record { alone = refl; ascii = refl; named = refl; on_named = refl; own = refl; reals = refl; key = refl; fit = refl; short = refl } }; among = inr (inr (inr (inr (inr (inr (inr (inl refl))))))) }

job_load_is : IsTextOf (codes "job_load", codes "CREATE INDEX job_load ON job (load, phase)") (record { name = codes "job_load"; table = codes "job"; columns = codes "load" ∷ codes "phase" ∷ [] })
unfolding everything begins fits_kind is_free_name trees_name value_cmp lib.Ieee.is_nan lib.Ieee.lt
job_load_is = record { name = refl; defines = record { table = job_table; def = def_in (parsed (codes "CREATE INDEX job_load ON job (load, phase)")).statement tt; read = refl; untimed = refl; is = refl; name = refl; of = refl; table_is = refl; own = refl; own_table = refl; defined = λ tree. refl; whole = λ at. refl; made = λ tree. refl; stores = record { alone = refl; ascii = refl; named = refl; on_named = refl; own = refl; reals = refl; key = refl; fit = refl; short = refl } }; among = inr (inr (inr (inr (inr (inr (inr (inr (inl refl)))))))) }

job_target_is : IsTextOf (codes "job_target", codes "CREATE INDEX job_target ON job (target, phase)") (record { name = codes "job_target"; table = codes "job"; columns = codes "target" ∷ codes "phase" ∷ [] })
unfolding everything begins fits_kind is_free_name trees_name value_cmp lib.Ieee.is_nan lib.Ieee.lt
job_target_is = record { name = refl; defines = record { table = job_table; def = def_in (parsed (codes "CREATE INDEX job_target ON job (target, phase)")).statement tt; read = refl; untimed = refl; is = refl; name = refl; of = refl; table_is = refl; own = refl; own_table = refl; defined = λ tree. refl; whole = λ at. refl; made = λ tree. refl; stores = record { alone = refl; ascii = refl; named = refl; on_named = refl; own = refl; reals = refl; key = refl; fit = refl; short = refl } }; among = inr (inr (inr (inr (inr (inr (inr (inr (inl refl)))))))) }

pub index_texts_are : AllZip IsTextOf index_texts desk_indexes
index_texts_are = (station_is, (vehicle_is, (job_load_is, (job_target_is, tt))))
