-- Where the three tables are made and the rows are moved, the fourteen have the rows of the same world.
use Rattle.std.proofs.Common.{◌≡◌, ◌≢◌, ◌∙◌, ◌++◌, ℕ, Bool, true, false, List, [], ◌∷◌, map, inl, inr, refl, sym, ap, subst}
use Rattle.std.specs.List.{AllZip}
use Rattle.std.proofs.lemmas.Bool.{cases_Bool, true≢false}
use Rattle.sqlite_trees.specs.Tree.{IsAscending}
use Rattle.sqlite_schema.specs.declared.schema.Schema.{Schema}
use Rattle.sqlite_schema.specs.declared.schema.Table.{Table}
use Rattle.sqlite_schema.specs.Names.{same_name}
use Rattle.sqlite_rules.specs.Lists.{Has}
use Rattle.sqlite_rules.proofs.ListLemmas.{all_from, all_has}
use Rattle.sqlite_catalog.specs.Change.{is_used}
use Rattle.sqlite_catalog.proofs.StepLemmas.{same_itself}
use Rattle.sqlite_tied.specs.Compute.{everything}
use Rattle.sqlite.specs.Effect.{Database}
use Rattle.sqlite.specs.State.{State}
use Rattle.agv_world_core.specs.Maps.{maps_of}
use Rattle.agv_world_core.specs.declared.world.World.{World as Tables}
use Rattle.agv_store_schema.specs.declared.table_name.TableName.{TableName}
use Rattle.agv_store_schema.specs.declared.table_name.TableName.TheVariants as the
use Rattle.agv_store_migrate.specs.FirstRows.{IsFirstDesk, first_lists, is_first}
use Rattle.agv_store_migrate.specs.Moved.{CanBeAdded, MovesTables, added_tables, added_texts, moved_lists}
use Rattle.agv_store_schema.specs.DeskRows.{Makes, Placing, is_unreferred, table_for}
use Rattle.agv_store_create.specs.DeskTables.{HasTable}
use Rattle.agv_store_create.specs.TextsRun.{RunSteps, RunsSteps}
use Rattle.agv_store_migrate.proofs.AddedTables.{AreAdded, is_second, rows_stay, second, second_holds}
use Rattle.agv_store_migrate.proofs.MovedRows.{moved_alike}
use Rattle.agv_store_migrate.proofs.WorldTold.{more_seats}
use Rattle.agv_store_rows.proofs.ListsHeld.{held_alike}
use Rattle.agv_store_rows.proofs.TripRowLaws.{ActsListed, JourneysListed}
use Rattle.agv_store_rows.specs.Rows.{rows_of}
use Rattle.agv_store_create.proofs.Creations.{DefinesTable, unused}
use Rattle.agv_store_create.proofs.DeskMade.{free_of, tables_own}
use Rattle.agv_store_create.proofs.DeskStands.{AllowsTable, tables_leave}
use Rattle.agv_store_create.proofs.NamesKept.{position_all}
use Rattle.agv_store_create.proofs.TableTexts.{each_defined}
use Rattle.agv_store_create.proofs.TablesMade as tables

-- ---- the three tables

added_apart : tables.are_apart added_tables ≡ true
unfolding everything
added_apart = refl

added_own : tables.AreOwn added_tables
added_own = tables_own.1.1.1.1.1.1.1.1.1.1.1

added_defined : AllZip DefinesTable added_texts added_tables
added_defined = each_defined.1.1.1.1.1.1.1.1.1.1.1

-- the steps that make them
abbrev pub adding_steps : List (Bool × List ℕ)
adding_steps = map (λ text. (true, text)) added_texts

are_made : (old mid : Database) → CanBeAdded old.schema → RunSteps adding_steps old mid → tables.HaveTables old mid added_tables
are_made old mid can ran =
    let made = tables.makes_tables added_texts added_tables added_defined added_apart added_own [] old mid (free_of old.schema added_tables can.free) ran in
    subst (λ db. tables.HaveTables old db added_tables) (sym made.2) made.1

module _ (first : Placing) (old mid : Database) (is : IsFirstDesk first) (has : old.schema ≡ first.schema) (can : CanBeAdded old.schema) (made : tables.HaveTables old mid added_tables) where
  unreferred : (name : TableName) → is_unreferred (table_for name).name old.schema.tables ≡ true
  unreferred name = elim (cases_Bool (is_first name)) [
    | inl one ↦ subst (λ (s : Schema). is_unreferred (table_for name).name s.tables ≡ true) (sym has) (is.stands name one).unreferred
    | inr other ↦ can.unreferred name other
  ]

  pub allowed : (name : TableName) → AllowsTable (table_for name).name mid.schema.tables
  allowed name =
      subst (λ (s : Schema). AllowsTable (table_for name).name s.tables) (sym made.schema_is)
      (tables_leave (table_for name).name old.schema added_tables (refl, (refl, (refl, tt)))
      (record { unreferred = unreferred name; apart = subst (λ (s : Schema). IsAscending (λ (a b : Table). a.tree ≢ b.tree) s.tables) (sym has) is.apart }))

  abbrev pub are_added : AreAdded first old mid
  are_added = record { is = is; has = has; made = made; allowed = allowed }

  -- no table that was there has the tree of one of the three
  newer : (name : TableName) (h : HasTable mid (table_for name) []) → is_used old.schema (table_for name).name ≡ false → (t : Table) → Has old.schema.tables t → t.tree ≢ h.tree
  newer name h free t among same =
      let it : t ≡ record (table_for name) { tree = h.tree } = h.alone t (made.grows.among t among) same in
      let none = position_all (λ (u : Table). same_name u.name (table_for name).name) 0 old.schema.tables (unused old.schema (table_for name).name free).0 in
      let other = all_has (λ (u : Table). same_name u.name (table_for name).name ≡ false) old.schema.tables t none among in
      true≢false (sym (ap (λ (u : Table). same_name u.name (table_for name).name) it ∙ same_itself (table_for name).name) ∙ other)

  free : tables.AreFree old.schema added_tables
  free = free_of old.schema added_tables can.free

  elsewhere : (t : Table) → Has old.schema.tables t → ((name : TableName) → is_first name ≡ true → t.tree ≢ first.tree name) → (name : TableName) → t.tree ≢ (second first old mid are_added).tree name
  elsewhere t among other the.Capacity = newer the.Capacity made.stand.0 free.0 t among
  elsewhere t among other the.Journey = newer the.Journey made.stand.1.0 free.1.0 t among
  elsewhere t among other the.Act = newer the.Act made.stand.1.1.0 free.1.1.0 t among
  elsewhere t among other the.Meta = other the.Meta refl
  elsewhere t among other the.Node = other the.Node refl
  elsewhere t among other the.Edge = other the.Edge refl
  elsewhere t among other the.Station = other the.Station refl
  elsewhere t among other the.Vehicle = other the.Vehicle refl
  elsewhere t among other the.Trip = other the.Trip refl
  elsewhere t among other the.Leg = other the.Leg refl
  elsewhere t among other the.Load = other the.Load refl
  elsewhere t among other the.Job = other the.Job refl
  elsewhere t among other the.Hold = other the.Hold refl
  elsewhere t among other the.Used = other the.Used refl

-- ---- all of it

module _ (journeys : JourneysListed) (acts : ActsListed) (tables_now : Tables) where
  pub moved : (old mid new : State) → CanBeAdded old.now.schema → RunsSteps adding_steps old mid → Makes (moved_lists tables_now) mid new → MovesTables tables_now old.now new.now
  moved old mid new can ran done first world was keeps =
      let made = are_made old.now mid.now can ran.ran in
      let added = are_added first old.now mid.now was.stands was.rows.schema_is can made in
      let at = second first old.now mid.now added in
      let stands = is_second first old.now mid.now added in
      let lists = first_lists (maps_of world) ++ [] ∷ [] ∷ [] ∷ [] in
      let holds = done.made at stands lists (second_holds first old.now mid.now added (first_lists (maps_of world)) was.rows) in
      let others = done.others at stands refl in
      record {
        schema_is = others.schema_is ∙ made.schema_is;
        at = at;
        has = record { stands = stands; lawful = more_seats world was.lawful; rows = held_alike at new.now (moved_lists tables_now lists) (rows_of world) (moved_alike journeys acts tables_now world keeps) holds };
        others = all_from _ old.now.schema.tables (λ t among other.
            all_has (λ (u : Table). ((name : TableName) → u.tree ≢ at.tree name) → new.now.trees u.tree ≡ mid.now.trees u.tree) mid.now.schema.tables t others.rows (made.grows.among t among)
            (elsewhere first old.now mid.now was.stands was.rows.schema_is can made t among other)
            ∙ rows_stay first old.now mid.now added t among);
        listed = done.listed at stands refl made.listed;
      }
