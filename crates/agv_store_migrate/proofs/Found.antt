-- What is found in a database where a world of the first schema is looked for: its tables, or that there is none.
use Rattle.std.proofs.Common.{◌≡◌, ◌↔◌, ◌∙◌, suc, Bool, true, false, List, [], ◌∷◌, length, Result, Ok, Err, inl, inr, refl, sym, ap, subst, arith}
use Rattle.std.proofs.lemmas.Bool.{both_ways}
use Rattle.std.proofs.lemmas.List.Sorted.{IsPermutation-sym, IsPermutation-trans}
use Rattle.std.specs.List.{AllZip}
use Rattle.std.specs.Result.{IsErrAnd}
use Rattle.sqlite_value.specs.Order.{Row}
use Rattle.sqlite_trees.specs.declared.store.Store.{Ghosts}
use Rattle.sqlite.specs.Effect.{Database}
use Rattle.sqlite.specs.Held.{Held, state}
use Rattle.sqlite.specs.State.{HasCleanDisk, Survives}
use Rattle.agv_track_holds.specs.Holds.{Holds as Holders}
use Rattle.agv_world_core.specs.Kept.{Keeps}
use Rattle.agv_world_core.specs.Lawful.{IsLawful}
use Rattle.agv_world_core.specs.Maps.{maps_of}
use Rattle.agv_world_core.specs.Worlds.{World}
use Rattle.agv_world_core.specs.declared.world.World.{World as Tables}
use Rattle.agv_store_migrate.specs.FirstFound.{FindsFirst, FirstTablesStand, ReadsLists}
use Rattle.agv_store_migrate.specs.FirstRows.{HasFirstWorld, HasNoFirstWorld, ServesJobs, first_lists, first_names}
use Rattle.agv_store_migrate.specs.FirstTold.{Finds, TellFirst}
use Rattle.agv_store_read.specs.Rowids.{AreTablesKeyed}
use Rattle.agv_store_rows.specs.DecodedTrips.{tables_of}
use Rattle.agv_store_schema.specs.DeskRows.{Placing, TableHas}
use Rattle.agv_store_rows.specs.Rows.{AreAlike}
use Rattle.agv_store_read.specs.declared.open_fault.OpenFault.{OpenFault}
use Rattle.agv_store_read.specs.declared.open_fault.OpenFault.TheVariants as fault
use Rattle.agv_store_read.specs.declared.held_things.HeldThings.{HeldThings}
use Rattle.agv_store_schema.specs.declared.table_name.TableName.{TableName}
use Rattle.agv_store_migrate.proofs.ServedJobs.{trips_serve_jobs}
use Rattle.agv_store_migrate.proofs.TablesStanding.{stand_apart}
use Rattle.agv_store_migrate.proofs.WorldTold.{one_told, rows_told}

-- ---- the rows of tables

-- the named tables have these rows
abbrev HaveLists : Placing → Database → List TableName → List (List Row) → Type 0
HaveLists at db = AllZip (TableHas at db.trees)

module _ (at : Placing) (db : Database) where
  are_keyed : (names : List TableName) (lists : List (List Row)) → HaveLists at db names lists → AreTablesKeyed at db names
  are_keyed [] lists have = tt
  are_keyed (name ∷ names) [] have = absurd have
  are_keyed (name ∷ names) (rows ∷ lists) have = (have.0.0, are_keyed names lists have.1)

  as_many : (names : List TableName) (lists : List (List Row)) → HaveLists at db names lists → length lists ≡ length names
  as_many [] [] have = refl
  as_many [] (rows ∷ lists) have = absurd have
  as_many (name ∷ names) [] have = absurd have
  as_many (name ∷ names) (rows ∷ lists) have = ap suc (as_many names lists have.1)

  are_alike : (names : List TableName) (lists others : List (List Row)) → HaveLists at db names lists → HaveLists at db names others → AreAlike lists others
  are_alike [] [] [] h g = tt
  are_alike [] [] (ys ∷ others) h g = absurd g
  are_alike [] (xs ∷ lists) others h g = absurd h
  are_alike (name ∷ names) [] others h g = absurd h
  are_alike (name ∷ names) (xs ∷ lists) [] h g = absurd g
  are_alike (name ∷ names) (xs ∷ lists) (ys ∷ others) h g = (IsPermutation-trans _ _ _ h.0.1 (IsPermutation-sym _ _ g.0.1), are_alike names lists others h.1 g.1)

  have_alike : (names : List TableName) (lists others : List (List Row)) → AreAlike lists others → HaveLists at db names lists → HaveLists at db names others
  have_alike [] [] [] h g = tt
  have_alike [] [] (ys ∷ others) h g = absurd h
  have_alike [] (xs ∷ lists) others h g = absurd g
  have_alike (name ∷ names) [] others h g = absurd g
  have_alike (name ∷ names) (xs ∷ lists) [] h g = absurd h
  have_alike (name ∷ names) (xs ∷ lists) (ys ∷ others) h g = ((g.0.0, IsPermutation-trans _ _ _ (IsPermutation-sym _ _ h.0) g.0.1), have_alike names lists others h.1 g.1)

-- ---- how the search ends

-- these are the tables of a lawful world with one place on each vehicle, and what is held is what its vehicles hold
abbrev pub AreFirst : Tables → HeldThings → Type 0
AreFirst tables held = (world : World) × Keeps tables world × IsLawful 1 world × (held.table ≡ (maps_of world).holds)

-- the rows of a lawful world tell it
abbrev pub RowsTellTheirWorld : Type 0
RowsTellTheirWorld = (world : World) (lists : List (List Row)) → IsLawful 1 world → ServesJobs world → AreAlike (first_lists (maps_of world)) lists → TellFirst lists (tables_of (maps_of world)) (maps_of world).holds

module _ {S : Type 0} (g : Ghosts S) where
  -- ---- before anything is read

  module _ (old : Held S) where
    still : Survives (state g old) (state g old) (λ _. ⊥)
    still = record { clean = omega arith; shield = λ is. is; counts = omega arith; limit = refl; closes = λ _ is. inl is; crash = λ _ db may. inl may }

    -- memory ran out
    pub no_memory_before : (r : Result Tables OpenFault) → IsErrAnd r (λ made. made ≡ fault.Memory) → FindsFirst g old old r
    no_memory_before (Ok tables) is = absurd is
    no_memory_before (Err made) is = record {
      told = λ _. tt;
      damaged = λ _ damaged. let wrong = sym is ∙ damaged in absurd (cc wrong);
      caused = λ _ stored. let wrong = sym is ∙ stored in absurd (cc wrong);
      kept = λ _. tt;
      failed = λ _. inl refl;
      idle = λ was. was;
      survives = still;
    }

    -- the eleven tables don't stand
    pub tables_missing : (stand : Bool) → stand ≡ false → (stand ≡ true) ↔ FirstTablesStand (state g old).now.schema → FindsFirst g old old (Err fault.Damaged)
    tables_missing stand isnt so = record {
      told = λ _. tt;
      damaged = λ _ _ desk world has. both_ways stand isnt (so.1 (desk, has.stands, has.rows.schema_is));
      caused = λ _ wrong. absurd (cc wrong);
      kept = λ _. tt;
      failed = λ _. inl refl;
      idle = λ was. was;
      survives = still;
    }

  -- ---- the rows weren't read

  pub reading_fails : (old new : Held S) (r : Result Tables OpenFault) (why : OpenFault) → IsErrAnd r (λ made. made ≡ why) → FirstTablesStand (state g old).now.schema → ReadsLists g old new first_names (Err why) → FindsFirst g old new r
  reading_fails old new (Ok tables) why is stand reads = absurd is
  reading_fails old new (Err made) why is stand reads = record {
    told = λ _. tt;
    damaged = λ clean damaged desk world has.
        reads.damaged clean (sym is ∙ damaged) desk (stand_apart desk has.stands) has.rows.schema_is (are_keyed desk (state g old).now first_names (first_lists (maps_of world)) has.rows.rows);
    caused = λ clean stored. reads.caused clean (sym is ∙ stored) stand.0 (stand_apart stand.0 stand.1) stand.2;
    kept = λ _. tt;
    failed = λ clean. inr (reads.failed clean);
    idle = reads.idle;
    survives = reads.survives;
  }

  -- ---- the rows were read

  module _ (tell : RowsTellTheirWorld) (old new : Held S) (lists : List (List Row)) (reads : ReadsLists g old new first_names (Ok lists)) where
    -- of a database that has the rows of a world they tell that world
    tells_it : HasCleanDisk (state g new) → (desk : Placing) (world : World) → HasFirstWorld desk (state g old).now world → TellFirst lists (tables_of (maps_of world)) (maps_of world).holds
    tells_it clean desk world has =
        tell world lists has.lawful has.served
        (are_alike desk (state g old).now first_names (first_lists (maps_of world)) lists has.rows.rows (reads.told clean desk (stand_apart desk has.stands) has.rows.schema_is))

    ends : (r : Result Tables OpenFault) (why : OpenFault) → IsErrAnd r (λ made. made ≡ why) → ¬ (why ≡ fault.Storage) → (HasCleanDisk (state g new) → why ≡ fault.Damaged → HasNoFirstWorld (state g old).now) → FindsFirst g old new r
    ends (Ok tables) why is sound none = absurd is
    ends (Err made) why is sound none = record {
      told = λ _. tt;
      damaged = λ clean damaged. none clean (sym is ∙ damaged);
      caused = λ _ stored. absurd (sound (sym is ∙ stored));
      kept = λ _. tt;
      failed = λ clean. inr (inl (reads.kept clean));
      idle = reads.idle;
      survives = reads.survives;
    }

    pub no_memory : (r : Result Tables OpenFault) → IsErrAnd r (λ made. made ≡ fault.Memory) → FindsFirst g old new r
    no_memory r is = ends r fault.Memory is (λ wrong. cc wrong) (λ clean wrong. absurd (cc wrong))

    -- they tell no tables
    pub telling_fails : (r : Result Tables OpenFault) (why : OpenFault) → IsErrAnd r (λ made. made ≡ why) → Finds {A = Tables × Holders} (Err why) (λ read. TellFirst lists read.0 read.1) → FindsFirst g old new r
    telling_fails r why is found =
        ends r why is (λ stored. subst (λ (w : OpenFault). Finds {A = Tables × Holders} (Err w) (λ read. TellFirst lists read.0 read.1)) stored found)
        (λ clean damaged desk world has. subst (λ (w : OpenFault). Finds {A = Tables × Holders} (Err w) (λ read. TellFirst lists read.0 read.1)) damaged found (tables_of (maps_of world), (maps_of world).holds) (tells_it clean desk world has))

    module _ (tables : Tables) (held : HeldThings) (told : TellFirst lists tables held.table) where
      -- they tell the tables of no such world
      pub not_first : (are : Bool) → are ≡ false → (are ≡ true) ↔ AreFirst tables held → FindsFirst g old new (Err fault.Damaged)
      not_first are isnt so =
          ends (Err fault.Damaged) fault.Damaged refl (λ wrong. cc wrong)
          (λ clean _ desk world has. let same = one_told lists tables held.table world told (tells_it clean desk world has) in both_ways are isnt (so.1 (world, same.0, has.lawful, same.1)))

      -- they tell those of one
      pub found : FirstTablesStand (state g old).now.schema → AreFirst tables held → FindsFirst g old new (Ok tables)
      found stand are = record {
        told = λ clean.
            let at = stand.0 in
            let world = are.0 in
            let read = reads.told clean at (stand_apart at stand.1) stand.2 in
            let alike = rows_told lists tables held.table world (as_many at (state g old).now first_names lists read) told are.1 are.3 in
            let has : HasFirstWorld at (state g old).now world = record {
              stands = stand.1;
              lawful = are.2;
              served = trips_serve_jobs lists tables told.tables_are world are.2 are.1;
              rows = record { schema_is = stand.2; rows = have_alike at (state g old).now first_names lists (first_lists (maps_of world)) alike read };
            } in
            (at, world, has, are.1);
        damaged = λ _. tt;
        caused = λ _. tt;
        kept = reads.kept;
        failed = λ _. tt;
        idle = reads.idle;
        survives = reads.survives;
      }
