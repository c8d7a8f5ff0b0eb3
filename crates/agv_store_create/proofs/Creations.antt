-- CREATE TABLE where the name is free: what the text means, and what it makes.
use Rattle.std.proofs.Common.{◌≡◌, ◌∙◌, ◌+◌, ◌&&◌, ◌==◌, not, ℕ, true, false, List, [], length, Option, Some, None, is_some, Ok, inl, inr, refl, sym, ap, subst}
use Rattle.std.proofs.lemmas.Bool.{cases_Bool, or_parts}
use Rattle.sqlite_ast.specs.declared.CreateTable.{CreateTable}
use Rattle.sqlite_ast.specs.declared.Statement.TheVariants as written
use Rattle.sqlite_syntax.specs.declared.statement.Parsed.{Parsed}
use Rattle.sqlite_schema.specs.declared.command.Command.{Command}
use Rattle.sqlite_schema.specs.declared.command.Command.TheVariants as make
use Rattle.sqlite_schema.specs.declared.schema.Table.{Table}
use Rattle.sqlite_schema.specs.declared.schema.Schema.{Schema}
use Rattle.sqlite_schema.specs.Names.{table_named, index_named, view_named}
use Rattle.sqlite_resolve.specs.declared.compiled.Compiled.{Compiled}
use Rattle.sqlite_resolve.specs.Compile.{first, compiled, planned, meaning, timed, returning, command, small, is_attached, creates, create_table, is_reserved, table_defined_by}
use Rattle.sqlite_resolve.specs.Define as define
use Rattle.sqlite_catalog.specs.Change.{is_used, created}
use Rattle.sqlite_catalog.specs.Calls.{CreatesTable}
use Rattle.sqlite_tied.specs.Compute.{everything}
use Rattle.sqlite.specs.Does.{Tally, MakesSequence, lacks_sequence, sequence_text}
use Rattle.sqlite.specs.Effect.{Database, IsDatabase}
use Rattle.sqlite.specs.Given.{IsPlain}
use Rattle.sqlite.specs.Listing.{understood}
use Rattle.sqlite.specs.State.{text_of}
use Rattle.sqlite.proofs.Callers.{command_of, statement_of}
use Rattle.agv_store_create.specs.DeskSchema.{sequence_table, with_sequence, with_new_table}
use Rattle.agv_store_create.specs.DeskTables.{HasTable}
use Rattle.agv_store_create.specs.TextsRun.{RunsText}
use Rattle.agv_store_schema.proofs.Running.{went, same_value}
use Rattle.agv_store_create.proofs.TablesKept.{Grows, grows_by, grows_again, creation_adds, creation_stands}

-- ---- what a text means under any schema

pub understood_is : (s : Schema) (sql : List ℕ) (c : Compiled) → compiled s sql ≡ Ok c → understood s sql ≡ Ok c
unfolding understood
understood_is s sql c e = rw e

abbrev pub compiled_to : Parsed → Command → Compiled
compiled_to p c = record { command = c; returning = None; names = p.names; formats = []; start = p.start; end = p.end; tail = p.tail }

pub compiled_is : (s : Schema) (sql : List ℕ) (p : Parsed) (c : Command) → first sql ≡ Ok p → timed s p.formats p.statement ≡ [] → returning s (small p.names + 0) p.statement ≡ Ok None
    → command s p.formats (small p.names + 0) p.statement ≡ Ok c → compiled s sql ≡ Ok (compiled_to p c)
unfolding compiled planned meaning
compiled_is s sql p c read untimed silent is = rw (read, untimed, silent, is)

-- the text is this command, and nothing besides
pub record Says (s : Schema) (sql : List ℕ) (c : Command) : Type 0 where
  pub is : command_of (understood s sql) ≡ c
  pub plain : IsPlain (understood s sql)
  pub whole : statement_of sql (understood s sql) ≡ sql

pub says : (s : Schema) (sql : List ℕ) (p : Parsed) (c : Command) → compiled s sql ≡ Ok (compiled_to p c) → text_of sql (compiled_to p c) ≡ sql → Says s sql c
says s sql p c e whole = let is = understood_is s sql _ e in record { is = ap command_of is; plain = subst IsPlain (sym is) (refl, refl); whole = ap (statement_of sql) is ∙ whole }

-- ---- the text of a table

-- the text defines this table, whatever the schema
pub record DefinesTable (sql : List ℕ) (t : Table) : Type 0 where
  pub parsed : Parsed
  pub def : CreateTable
  pub read : first sql ≡ Ok parsed
  pub untimed : parsed.formats ≡ []
  pub is : parsed.statement ≡ written.CreateTable def
  pub name : def.name ≡ t.name
  pub own : is_reserved def.name ≡ false
  pub defined : define.table [] def ≡ Ok t
  pub known : length t.computed == length t.stamps.places && not def.resolves ≡ true
  pub whole : text_of sql (compiled_to parsed make.CreateTable) ≡ sql
  pub made : table_defined_by sql ≡ Ok t

none_of : {X : Type 0} (o : Option X) → is_some o ≡ false → o ≡ None
none_of None h = refl
none_of (Some x) h = absurd (cc)

-- a name that is not used is no table's, no index's and no view's
pub unused : (s : Schema) (name : List ℕ) → is_used s name ≡ false → (table_named s name ≡ None) × (index_named s name ≡ None) × (view_named s name ≡ None)
unused s name free =
    let p = or_parts _ _ free in
    let q = or_parts _ _ p.0 in
    (none_of _ q.0, none_of _ q.1, none_of _ p.1)

pub says_named : (s : Schema) (sql : List ℕ) (t : Table) (d : DefinesTable sql t) → is_used s d.def.name ≡ false → compiled s sql ≡ Ok (compiled_to d.parsed make.CreateTable)
unfolding command returning timed create_table is_attached creates
says_named s sql t d used =
    let free = unused s d.def.name used in
    compiled_is s sql d.parsed make.CreateTable d.read (rw d.is) (rw d.is) (rw (d.is, d.untimed, free.2, free.0, free.1, d.own, d.defined, d.known))

pub says_table : (s : Schema) (sql : List ℕ) (t : Table) (d : DefinesTable sql t) → is_used s t.name ≡ false → Says s sql make.CreateTable
says_table s sql t d used = says s sql d.parsed make.CreateTable (says_named s sql t d (subst (λ n. is_used s n ≡ false) (sym d.name) used)) d.whole

-- ---- what it makes

-- SQLite's own table
pub sequence_is : table_defined_by sequence_text ≡ Ok sequence_table
unfolding everything
sequence_is = refl

-- the table came behind those that were there, with no row, and they stay
pub record Creates (old new : Database) (t : Table) : Type 0 where
  pub schema_is : new.schema ≡ with_new_table old.schema t
  pub grows : Grows old new
  pub stands : HasTable new t []
  pub listed : IsDatabase new

-- what CREATE TABLE says, of a text that defines this table
pub record IsOne (old new : Database) (t : Table) : Type 0 where
  pub is : new.schema ≡ created old.schema t
  pub grows : Grows old new
  pub stands : HasTable new t []

is_one : (old new : Database) (text : List ℕ) (t : Table) → table_defined_by text ≡ Ok t → CreatesTable old.schema text old.trees new.schema new.trees → IsOne old new t
is_one old new text t defined c =
    let both : Ok c.table ≡ Ok t = sym c.defined ∙ defined in
    let same : c.table ≡ t = same_value both in
    let is : new.schema ≡ created old.schema t = c.is ∙ ap (created old.schema) same in
    record {
      is = is;
      grows = grows_by old new (creation_adds old new t is c.others);
      stands = creation_stands old new t is c.empty (unused old.schema t.name (subst (λ (u : Table). is_used old.schema u.name ≡ false) same c.free)).0;
    }

-- SQLite's own table comes behind it, where it is needed
with_own : (old next new : Database) (t : Table) → IsOne old next t → MakesSequence next (Ok new) → IsDatabase new → Creates old new t
with_own old next new t one more listed = elim (cases_Bool (lacks_sequence next.schema)) [
  | inl lacks ↦
      let two = is_one next new sequence_text sequence_table sequence_is (rw lacks at more) in
      record {
        schema_is = two.is ∙ sym (rw lacks at (own_is old next t one.is));
        grows = grows_again old next new one.grows two.grows;
        stands = two.grows.stands t [] one.stands;
        listed = listed;
      }
  | inr has ↦
      let same : new ≡ next = same_value (rw has at more) in
      record {
        schema_is = ap (λ (d : Database). d.schema) same ∙ sym (rw has at (own_is old next t one.is));
        grows = subst (Grows old) (sym same) one.grows;
        stands = subst (λ d. HasTable d t []) (sym same) one.stands;
        listed = listed;
      }
]
  where
    own_is : (old next : Database) (t : Table) → next.schema ≡ created old.schema t → with_new_table old.schema t ≡ with_sequence next.schema
    own_is old next t is = ap with_sequence (sym is)

pub makes_table : (sql : List ℕ) (t : Table) (d : DefinesTable sql t) (old new : Database) → is_used old.schema t.name ≡ false → RunsText sql old new → Creates old new t
makes_table sql t d old new used ran =
    let says = says_table old.schema sql t d used in
    let did = ran make.CreateTable says.is says.plain tt in
    let all = went did.does in
    let first = went all.1 in
    let last : new ≡ all.0 = ap (λ (p : Tally × Database). p.1) (same_value all.2) in
    let one = is_one old first.0 sql t d.made (subst (λ text. CreatesTable old.schema text old.trees first.0.schema first.0.trees) says.whole first.1) in
    with_own old first.0 new t one (subst (λ db. MakesSequence first.0 (Ok db)) (sym last) first.2) did.listed
