-- What is found in a database where a desk is looked for: the rows of a lawful world, or those of none.
use Rattle.std.proofs.Common.{◌≡◌, ◌↔◌, ◌∙◌, Bool, true, false, List, [], ◌∷◌, map, Ok, Err, Result, refl, sym, ap, subst}
use Rattle.std.specs.List.{AllByRecursion, AllZip}
use Rattle.std.specs.Result.{IsErrAnd}
use Rattle.std.proofs.lemmas.Bool.{both_ways}
use Rattle.std.proofs.lemmas.List.Sorted.{IsPermutation-refl}
use Rattle.sqlite_value.specs.Order.{Row}
use Rattle.sqlite_trees.specs.declared.store.Store.{Ghosts}
use Rattle.sqlite.specs.Effect.{Database, IsDatabase}
use Rattle.sqlite.specs.Held.{Held, state}
use Rattle.agv_track_holds.specs.Holds.{Holds as Holders}
use Rattle.agv_world_core.specs.Kept.{Keeps}
use Rattle.agv_world_core.specs.Lawful.{IsLawful}
use Rattle.agv_world_core.specs.Maps.{maps_of}
use Rattle.agv_world_core.specs.Worlds.{World}
use Rattle.agv_world_core.specs.declared.world.World.{World as Tables}
use Rattle.agv_store_read.specs.WorldAnswers.{HasNoWorld, HasWorld, AnswersQuery}
use Rattle.agv_store_read.specs.Rowids.{AreTablesKeyed, TellsKeyed}
use Rattle.agv_store_read.specs.TablesRead.{HasCauseOverTables, HaveAll, TellsAll}
use Rattle.agv_store_read_tables.specs.WorldIn.{world_in}
use Rattle.agv_store_schema.specs.DeskRows.{AreKeyed, Holds, Placing, TableHas, shown_in, table_names}
use Rattle.agv_store_rows.specs.Rows.{HoldsWorld}
use Rattle.agv_store_schema.specs.SchemaNumbers.{desk_seats}
use Rattle.agv_store_create.specs.StandingTables.{TablesStand}
use Rattle.agv_store_schema.specs.Connections.{HasStorageCause, IsClean, IsOpen}
use Rattle.agv_store_read.specs.declared.open_fault.OpenFault.{OpenFault}
use Rattle.agv_store_read.specs.declared.open_fault.OpenFault.TheVariants as fault
use Rattle.agv_store_read.specs.declared.held_things.HeldThings.{HeldThings}
use Rattle.agv_store_schema.specs.declared.table_name.TableName.{TableName}
use Rattle.agv_store_known.specs.Known.{IsKnownIn}
use Rattle.agv_store_known.specs.declared.known.Known.{Known}
use Rattle.agv_store_floor.specs.Floors.{IsAsked, IsConsistent, Knows, world_at}
use Rattle.agv_store.specs.Opening.{Finds}
use Rattle.agv_store_schema.proofs.Later.{fault_later, later_by}
use Rattle.agv_store_floor.proofs.Asked.{asked_by, asked_then, clean_before, knows_still}

-- ---- the laws of tables, as the readings say them

abbrev pub TablesTellWorlds : Type 0
TablesTellWorlds =
    (desk : Placing) (db : Database) (lists : List (List Row)) (tables : Tables) (holds : Holders) (world : World)
    → Holds desk db lists → HaveAll lists tables holds → Keeps tables world → holds ≡ (maps_of world).holds → HoldsWorld desk db world

abbrev pub TellsItsWorld : Type 0
TellsItsWorld = (desk : Placing) (db : Database) (world : World) → HasWorld desk db world → world_in db ≡ world

-- ---- the rows under keys of their own

-- the rows of all entries of these tables, where they lie in these trees
abbrev lists_placed : Placing → Database → List TableName → List (List Row)
lists_placed at db = map (λ (name : TableName). map (shown_in at name) (db.trees (at.tree name)))

rows_by : (at : Placing) (db : Database) (names : List TableName) → AllByRecursion (λ name. AreKeyed (db.trees (at.tree name))) names
    → AllZip (TableHas at db.trees) names (lists_placed at db names)
rows_by at db [] keyed = tt
rows_by at db (name ∷ names) keyed = ((keyed.0, IsPermutation-refl _), rows_by at db names keyed.1)

pub keyed_holds : (at : Placing) (db : Database) → db.schema ≡ at.schema → AreTablesKeyed at db table_names → Holds at db (lists_placed at db table_names)
keyed_holds at db same keyed = record { schema_is = same; rows = rows_by at db table_names keyed }

-- ---- the tables that are read

-- these are the tables of a lawful world, and what is held is what its vehicles hold
abbrev pub AreLawful : Tables → HeldThings → Type 0
AreLawful tables holds = (world : World) × Keeps tables world × IsLawful desk_seats world × (holds.table ≡ (maps_of world).holds)

module _ {S : Type 0} (g : Ghosts S) where
  -- ---- a look that ends without a desk

  finds_none : (old new : Held S) (r : Result Known OpenFault) (why : OpenFault) → IsErrAnd r (λ made. made ≡ why) → (IsClean g new → why ≡ fault.Damaged → HasNoWorld (state g old).now)
      → (IsClean g new → why ≡ fault.Storage → HasStorageCause g old new) → IsAsked g old new → Finds g old new r
  finds_none old new (Ok found) why is none caused asked = absurd is
  finds_none old new (Err made) why is none caused asked = record {
    found = λ _. tt;
    damaged = λ clean damaged. none clean (sym is ∙ damaged);
    caused = λ clean stored. caused clean (sym is ∙ stored);
    asked = asked;
  }

  -- the first question failed, where the tables stand
  pub finds_fault : {A : Type 0} (old new : Held S) (r : Result Known OpenFault) (why : OpenFault) (says : World → A → Type 0) → IsErrAnd r (λ made. made ≡ why) → AnswersQuery g old new (Err why) says
      → TablesStand (state g old).now.schema → (IsClean g new → why ≡ fault.Storage → HasCauseOverTables g old new) → Finds g old new r
  finds_fault old new r why says made tells stand caused =
      finds_none old new r why made
      tells.damaged
      (λ clean stored. caused clean stored stand.0 stand.1 stand.2)
      (asked_by g old new (Err why) says tells)

  -- ---- each row has a key of its own

  -- the moments before and after the question for the keys, and after the tables were read
  module _ (old mid new : Held S) (yes : Bool) (is : yes ≡ true) (keyed : TellsKeyed g old mid table_names (Ok yes)) (asked : AnswersQuery g old mid (Ok yes) (λ world keyed. keyed ≡ true)) where
    same_mid : IsClean g mid → (state g mid).now ≡ (state g old).now
    same_mid clean = (asked.kept clean).0.now_is

    none_before : IsClean g mid → HasNoWorld (state g mid).now → HasNoWorld (state g old).now
    none_before clean = subst HasNoWorld (same_mid clean)

    asked_keys : IsAsked g old mid
    asked_keys = asked_by g old mid (Ok yes) (λ world keyed. keyed ≡ true) asked

    -- the reading failed, where the tables stand
    pub finds_fault_then : {A : Type 0} (r : Result Known OpenFault) (why : OpenFault) (says : World → A → Type 0) (has : List (List Row) → A → Type 0) → IsErrAnd r (λ made. made ≡ why)
        → TellsAll g mid new (Err why) says has → TablesStand (state g old).now.schema → Finds g old new r
    finds_fault_then r why says has made read stand =
        let later = asked_by g mid new (Err why) says read.tells in
        finds_none old new r why made
        (λ clean damaged. none_before (clean_before g mid new later clean) (read.tells.damaged clean damaged))
        (λ clean stored.
        fault_later g old mid new (later_by g old mid asked.survives) (later_by g mid new read.tells.survives) clean
        (read.caused clean stored stand.0 stand.1 (ap (λ (db : Database). db.schema) (same_mid (clean_before g mid new later clean)) ∙ stand.2)))
        (asked_then g old mid new asked_keys later)

    module _ (tables : Tables) (holds : HeldThings)
        (read : TellsAll {A = Tables × HeldThings} g mid new (Ok (tables, holds)) (λ world read. Keeps read.0 world × (read.1.table ≡ (maps_of world).holds)) (λ lists read. HaveAll lists read.0 read.1.table)) where
      later : IsAsked g mid new
      later = asked_by g {A = Tables × HeldThings} mid new (Ok (tables, holds)) _ read.tells

      asked_both : IsAsked g old new
      asked_both = asked_then g old mid new asked_keys later

      clean_mid : IsClean g new → IsClean g mid
      clean_mid = clean_before g mid new later

      -- memory ran out after the reading
      pub finds_no_memory : (r : Result Known OpenFault) → IsErrAnd r (λ made. made ≡ fault.Memory) → Finds g old new r
      finds_no_memory r made = finds_none old new r fault.Memory made (λ clean damaged. absurd (cc damaged)) (λ clean stored. absurd (cc stored)) asked_both

      none_lawful : (AreLawful tables holds → ⊥) → IsClean g new → HasNoWorld (state g old).now
      none_lawful none clean = none_before (clean_mid clean) (λ at world has. let told = read.tells.told clean at world has in none (world, told.0, has.lawful, told.1))

      -- the tables are of no lawful world, or what is held isn't what its vehicles hold
      pub finds_unlawful : (lawful : Bool) → lawful ≡ false → (lawful ≡ true) ↔ AreLawful tables holds → Finds g old new (Err fault.Damaged)
      finds_unlawful lawful isnt so = finds_none old new (Err fault.Damaged) fault.Damaged refl (λ clean _. none_lawful (λ such. both_ways lawful isnt (so.1 such)) clean) (λ clean stored. absurd (cc stored)) asked_both

      -- they are those of a lawful world
      module _ (tell_worlds : TablesTellWorlds) (tells_its_world : TellsItsWorld) (stand : TablesStand (state g old).now.schema)
          (world : World) (keeps : Keeps tables world) (lawful : IsLawful desk_seats world) (held : holds.table ≡ (maps_of world).holds) where
        has_world : IsClean g new → HasWorld stand.0 (state g old).now world
        has_world clean =
            let at = stand.0 in
            let early = clean_mid clean in
            let all = (keyed.told early at stand.1 stand.2).0 is in
            let there = keyed_holds at (state g old).now stand.2 all in
            let lists = lists_placed at (state g old).now table_names in
            let there_mid = subst (λ (db : Database). Holds at db lists) (sym (same_mid early)) there in
            let have = read.exact clean at stand.1 lists there_mid in
            record { stands = stand.1; lawful = lawful; rows = tell_worlds at (state g old).now lists tables holds.table world there have keeps held }

        opens : IsClean g new → IsOpen g old × IsOpen g new
        opens clean = ((asked.answering (clean_mid clean)).0, (read.tells.answering clean).1)

        world_is : IsClean g new → (state g old).committed ≡ (state g old).now → world_at g new ≡ world
        world_is clean settled = ap world_in (asked_both.unchanged clean (opens clean).1 settled) ∙ tells_its_world stand.0 (state g old).now world (has_world clean)

        module _ (idle : old.in_transaction ≡ false) (settled : IsOpen g old → (state g old).now ≡ (state g old).committed) (live : IsOpen g old → IsDatabase (state g old).now) where
          knows : IsClean g new → Knows g new (world_at g new)
          knows clean =
              let was_open = (opens clean).0 in
              let committed = sym (settled was_open) in
              let knew : Knows g old world = record { is_open = was_open; idle = idle; settled = committed; listed = live was_open; at = stand.0; has = has_world clean } in
              subst (λ (w : World). Knows g new w) (sym (world_is clean committed)) (knows_still g old new asked_both clean (opens clean).1 world knew)

          pub finds_desk : (known : Known) → IsKnownIn known world → Finds g old new (Ok known)
          finds_desk known is_known = record {
            found = λ clean. ((opens clean).0, knows clean, subst (IsKnownIn known) (sym (world_is clean (sym (settled (opens clean).0)))) is_known);
            damaged = λ _. tt;
            caused = λ _. tt;
            asked = asked_both;
          }

  -- ---- the desk that was found

  pub found_consistent : (old new : Held S) (known : Known) → Finds g old new (Ok known) → old.in_transaction ≡ false → IsConsistent g new known false false
  found_consistent old new known finds idle = record {
    idle = finds.asked.idle idle;
    opens = λ clean _ _. (finds.found clean).1.is_open;
    knows = λ clean _. (finds.found clean).1;
    is_known = λ clean _. (finds.found clean).2;
  }
