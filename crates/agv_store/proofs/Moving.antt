-- The move of a database from the first schema: what is found there, and what the desk knows after it.
use Rattle.std.proofs.Common.{◌≡◌, ◌⊎◌, ◌↔◌, ◌∙◌, ℕ, inl, inr, IsTrue, Ok, Err, Result, Bool, true, false, true≢false, refl, sym, ap, subst}
use Rattle.std.specs.Result.{IsErrAnd}
use Rattle.sqlite.proofs.StateLemmas.{survives_then}
use Rattle.sqlite_trees.specs.declared.store.Store.{Ghosts}
use Rattle.sqlite.specs.Effect.{Database}
use Rattle.sqlite.specs.Held.{Held, state}
use Rattle.sqlite.specs.State.{IsUnchanged, IsRolledBack, Survives}
use Rattle.agv_world_core.specs.Kept.{Keeps}
use Rattle.agv_world_core.specs.Lawful.{IsLawful}
use Rattle.agv_world_core.specs.Worlds.{World}
use Rattle.agv_world_core.specs.declared.world.World.{World as Tables}
use Rattle.agv_store_migrate.specs.FirstFound.{FindsFirst}
use Rattle.agv_store_migrate.specs.FirstRows.{HasFirstWorld}
use Rattle.agv_store_migrate.specs.MoveStatements.{RefusesMove}
use Rattle.agv_store_migrate.specs.Moved.{CanBeAdded, LeavesMoved, MovesTables, MovesWorld}
use Rattle.agv_store_schema.proofs.Later.{fault_later, later_by}
use Rattle.agv_store_schema.specs.Connections.{HasStorageCause, IsClean, IsOpen}
use Rattle.agv_store_schema.specs.DeskRows.{Placing}
use Rattle.agv_store_create.specs.declared.making_fault.MakingFault.{MakingFault}
use Rattle.agv_store_create.specs.declared.making_fault.MakingFault.TheVariants as making
use Rattle.agv_store_known.specs.Known.{IsKnownIn}
use Rattle.agv_store_known.specs.declared.known.Known.{Known}
use Rattle.agv_store_floor.specs.Floors.{IsAsked, IsConsistent, Knows, world_at}
use Rattle.agv_store.specs.Migration.{CanBeMigrated, CannotBeMigrated, FindsFirstDesk, FirstFound, LeavesMigrated, Migrates, RefusesMigration}
use Rattle.agv_store.specs.Opening.{IsDamaged, IsStorage, Opening, of_making}
use Rattle.agv_store_read.specs.declared.open_fault.OpenFault.{OpenFault}
use Rattle.agv_store_read.specs.declared.open_fault.OpenFault.TheVariants as fault
use Rattle.agv_store.proofs.Found.{TellsItsWorld}

-- ---- a refusal

abbrev pub refused : {S : Type 0} → Held S → OpenFault → Opening S
refused held why = Err (held, why)

pub damaged_only : {S : Type 0} (held : Held S) (why : OpenFault) → IsDamaged (refused held why) → why ≡ fault.Damaged
damaged_only held fault.Damaged is = refl
damaged_only held fault.Memory is = absurd is
damaged_only held fault.Storage is = absurd is

taken_only : (why : MakingFault) → of_making why ≡ fault.Damaged → why ≡ making.Taken
taken_only making.Taken is = refl
taken_only making.Memory is = absurd (cc is)
taken_only making.Storage is = absurd (cc is)

pub storage_only : {S : Type 0} (held : Held S) (why : OpenFault) → IsStorage (refused held why) → why ≡ fault.Storage
storage_only held fault.Damaged is = absurd is
storage_only held fault.Memory is = absurd is
storage_only held fault.Storage is = refl

-- ---- what isn't denied

not_denied_false : (b : Bool) → ¬ (¬ (b ≡ false)) → b ≡ false
not_denied_false false so = refl
not_denied_false true so = absurd (so true≢false)

not_denied_true : (b : Bool) → ¬ (¬ (b ≡ true)) → b ≡ true
not_denied_true true so = refl
not_denied_true false so = absurd (so (λ is. true≢false (sym is)))

not_denied_added : (db : Database) → ¬ (¬ CanBeAdded db.schema) → CanBeAdded db.schema
not_denied_added db so = record {
  free = not_denied_false _ (λ taken. so (λ can. taken can.free));
  unreferred = λ name is. not_denied_true _ (λ referred. so (λ can. referred (can.unreferred name is)));
}

-- ---- what is found

module _ {S : Type 0} (g : Ghosts S) where
  abbrev Stays : Held S → Held S → Type 0
  Stays old new = (new ≡ old) ⊎ (IsUnchanged (state g old) (state g new) ⊎ IsRolledBack (state g old) (state g new))

  stays : (old new : Held S) (r : Result Tables OpenFault) → FindsFirst g old new r → IsClean g new → Stays old new
  stays old new (Ok tables) finds clean = inr (inl (finds.kept clean))
  stays old new (Err why) finds clean = finds.failed clean

  open_by : (old new : Held S) → Stays old new → IsOpen g new → IsOpen g old
  open_by old new (inl same) still = subst (IsOpen g) same still
  open_by old new (inr (inl kept)) still = kept.0.was_open
  open_by old new (inr (inr back)) still = back.was_open still

  now_by : (old new : Held S) → Stays old new → IsOpen g new → (state g old).committed ≡ (state g old).now → (state g new).now ≡ (state g old).now
  now_by old new (inl same) still settled = ap (λ (h : Held S). (state g h).now) same
  now_by old new (inr (inl kept)) still settled = kept.0.now_is
  now_by old new (inr (inr back)) still settled = (back.undone still).0 ∙ settled

  committed_by : (old new : Held S) → Stays old new → IsOpen g new → (state g new).committed ≡ (state g old).committed
  committed_by old new (inl same) still = ap (λ (h : Held S). (state g h).committed) same
  committed_by old new (inr (inl kept)) still = kept.0.committed_is
  committed_by old new (inr (inr back)) still = (back.undone still).1

  asked_first : (old new : Held S) (r : Result Tables OpenFault) → FindsFirst g old new r → IsAsked g old new
  asked_first old new r finds = record {
    survives = finds.survives;
    was_open = λ clean still. open_by old new (stays old new r finds clean) still;
    unchanged = λ clean still settled. now_by old new (stays old new r finds clean) still settled;
    committed = λ clean still. committed_by old new (stays old new r finds clean) still;
    idle = finds.idle;
  }

  -- the reading failed
  pub finds_fault : (old new : Held S) (r : Result (Tables × Known) OpenFault) (why : OpenFault) → IsErrAnd r (λ made. made ≡ why) → FindsFirst g old new (Err why) → FindsFirstDesk g old new r
  finds_fault old new (Ok found) why made finds = absurd made
  finds_fault old new (Err told) why made finds = record {
    found = λ _. tt;
    damaged = λ clean is. finds.damaged clean (sym made ∙ is);
    caused = λ clean is. finds.caused clean (sym made ∙ is);
    asked = asked_first old new (Err why) finds;
  }

  -- memory ran out after it
  pub finds_no_memory : (old new : Held S) (tables : Tables) (r : Result (Tables × Known) OpenFault) → IsErrAnd r (λ made. made ≡ fault.Memory) → FindsFirst g old new (Ok tables) → FindsFirstDesk g old new r
  finds_no_memory old new tables (Ok found) made finds = absurd made
  finds_no_memory old new tables (Err told) made finds = record {
    found = λ _. tt;
    damaged = λ clean is. absurd (not_damaged told made is);
    caused = λ clean is. absurd (not_stored told made is);
    asked = asked_first old new (Ok tables) finds;
  }
    where
      not_damaged : (told : OpenFault) → told ≡ fault.Memory → told ≡ fault.Damaged → ⊥
      not_damaged told made is = let both : fault.Memory ≡ fault.Damaged = sym made ∙ is in cc

      not_stored : (told : OpenFault) → told ≡ fault.Memory → told ≡ fault.Storage → ⊥
      not_stored told made is = let both : fault.Memory ≡ fault.Storage = sym made ∙ is in cc

  -- the tables are those of a world
  pub finds_first : (old new : Held S) (tables : Tables) (known : Known) → FindsFirst g old new (Ok tables) → ((seats : ℕ) (world : World) → IsLawful seats world → Keeps tables world → IsKnownIn known world)
      → FindsFirstDesk g old new (Ok (tables, known))
  finds_first old new tables known finds is_known = record {
    found = λ clean.
        let told = finds.told clean in
        let kept = (finds.kept clean).0 in
        (kept.was_open, kept.is_open, (record { first = told.0; world = told.1; has = told.2 }, told.3, is_known 1 told.1 told.2.lawful told.3));
    damaged = λ _. tt;
    caused = λ _. tt;
    asked = asked_first old new (Ok tables) finds;
  }

  -- ---- the move

  -- the moments before, between the search and the move, and after; the search gave these tables, and this is known of them
  module _ (old mid new : Held S) (tables : Tables) (known : Known) (finds : FindsFirstDesk g old mid (Ok (tables, known)))
      (settled : IsOpen g old → (state g old).now ≡ (state g old).committed)
      (crash : Survives (state g mid) (state g new) (LeavesMoved tables (state g mid).now)) where
    clean_mid : IsClean g new → IsClean g mid
    clean_mid = (later_by g mid new crash).clean

    same_mid : IsClean g mid → (state g mid).now ≡ (state g old).now
    same_mid clean =
        let found = finds.found clean in
        finds.asked.unchanged clean found.1 (sym (settled found.0))

    abbrev had : IsClean g mid → FirstFound (state g old).now
    had clean = (finds.found clean).2.0

    known_had : (clean : IsClean g mid) → IsKnownIn known (had clean).world
    known_had clean = (finds.found clean).2.2

    moves_by : (clean : IsClean g mid) (then : Database) → MovesTables tables (state g mid).now then → MovesWorld (had clean).first (had clean).world (state g old).now then
    moves_by clean then moved =
        let from : MovesTables tables (state g old).now then = subst (λ (db : Database). MovesTables tables db then) (same_mid clean) moved in
        from (had clean).first (had clean).world (had clean).has (finds.found clean).2.1

    -- what a crash leaves
    pub crash_leaves : Survives (state g old) (state g new) (LeavesMigrated (state g old).now)
    crash_leaves =
        survives_then (state g old) (state g mid) (state g new) _ _ _ (λ _ _ never. absurd never)
        (λ clean trees left. let early = clean_mid clean in record { had = had early; found = left.0; moves = moves_by early left.0 left.1; trees_are = left.2 })
        finds.asked.survives crash

    module _ (idle : new.in_transaction ≡ false)
        (opens : IsClean g new → IsTrue (state g mid).is_open × IsTrue (state g new).is_open)
        (same : IsClean g new → (state g new).now ≡ (state g new).committed)
        (made : IsClean g new → MovesTables tables (state g mid).now (state g new).committed) where
      moves : (clean : IsClean g new) → MovesWorld (had (clean_mid clean)).first (had (clean_mid clean)).world (state g old).now (state g new).now
      moves clean = moves_by (clean_mid clean) (state g new).now (subst (MovesTables tables (state g mid).now) (sym (same clean)) (made clean))

      knows : (clean : IsClean g new) → Knows g new (had (clean_mid clean)).world
      knows clean =
          let it = moves clean in
          record { is_open = (opens clean).1; idle = idle; settled = sym (same clean); listed = it.listed; at = it.at; has = it.has }

      pub migrates : IsClean g new → Migrates g old (record { held = new; failed = false })
      migrates clean =
          let early = clean_mid clean in
          record { was_open = (finds.found early).0; had = had early; moves = moves clean; knows = knows clean }

      module _ (tells_its_world : TellsItsWorld) where
        told : (clean : IsClean g new) → world_at g new ≡ (had (clean_mid clean)).world
        told clean = let it = knows clean in tells_its_world it.at (state g new).now (had (clean_mid clean)).world it.has

        pub moved_consistent : IsConsistent g new known false false
        moved_consistent = record {
          idle = idle;
          opens = λ clean _ _. (opens clean).1;
          knows = λ clean _. subst (λ (world : World). Knows g new world) (sym (told clean)) (knows clean);
          is_known = λ clean _. subst (IsKnownIn known) (sym (told clean)) (known_had (clean_mid clean));
        }

  -- the names of the three tables are not free, or a key refers to one of them
  abbrev Refused : MakingFault → Result (Unit {0}) MakingFault
  Refused why = Err why

  pub none_added : (old mid new : Held S) (tables : Tables) (known : Known) → FindsFirstDesk g old mid (Ok (tables, known)) → (IsOpen g old → (state g old).now ≡ (state g old).committed)
      → (why : MakingFault) (told : OpenFault) → told ≡ of_making why → (Refused why ≡ Refused making.Taken) ↔ (¬ CanBeAdded (state g mid).now.schema) → (Refused why ≡ Refused making.Taken → new ≡ mid)
      → IsClean g new → IsDamaged (refused new told) → CannotBeMigrated (state g old).now
  none_added old mid new tables known finds settled why told told_is taken unchanged clean is =
      let named : Refused why ≡ Refused making.Taken = ap Refused (taken_only why (sym told_is ∙ damaged_only new told is)) in
      let early : IsClean g mid = subst (IsClean g) (unchanged named) clean in
      let found = finds.found early in
      let same = finds.asked.unchanged early found.1 (sym (settled found.0)) in
      inr (subst (λ (db : Database). ¬ CanBeAdded db.schema) same (taken.0 named))

  -- a fault of the store in the move comes only of a database that can be moved
  stored_not_taken : (why : MakingFault) → of_making why ≡ fault.Storage → Refused why ≡ Refused making.Taken → ⊥
  stored_not_taken making.Taken stored is = cc stored
  stored_not_taken making.Memory stored is = cc stored
  stored_not_taken making.Storage stored is = cc is

  pub can_be_migrated : (old mid new : Held S) (tables : Tables) (known : Known) → FindsFirstDesk g old mid (Ok (tables, known)) → (IsOpen g old → (state g old).now ≡ (state g old).committed)
      → Survives (state g mid) (state g new) (LeavesMoved tables (state g mid).now) → (why : MakingFault) (told : OpenFault) → told ≡ of_making why → (Refused why ≡ Refused making.Taken) ↔ (¬ CanBeAdded (state g mid).now.schema)
      → IsClean g new → IsStorage (refused new told) → CanBeMigrated (state g old).now
  can_be_migrated old mid new tables known finds settled crash why told told_is taken clean is =
      let early : IsClean g mid = (later_by g mid new crash).clean clean in
      let found = finds.found early in
      let same = finds.asked.unchanged early found.1 (sym (settled found.0)) in
      let stored : of_making why ≡ fault.Storage = sym told_is ∙ storage_only new told is in
      record {
        had = found.2.0;
        possible = subst (λ (db : Database). CanBeAdded db.schema) same (not_denied_added (state g mid).now (λ cannot. stored_not_taken why stored (taken.1 cannot)));
      }

  stored_only : (why : MakingFault) → of_making why ≡ fault.Storage → why ≡ making.Storage
  stored_only making.Taken is = absurd (cc is)
  stored_only making.Memory is = absurd (cc is)
  stored_only making.Storage is = refl

  -- it has its cause, or SQL refuses a statement of the move
  pub move_caused : (old mid new : Held S) (tables : Tables) (known : Known) → FindsFirstDesk g old mid (Ok (tables, known)) → (IsOpen g old → (state g old).now ≡ (state g old).committed)
      → Survives (state g mid) (state g new) (LeavesMoved tables (state g mid).now) → (why : MakingFault) (told : OpenFault) → told ≡ of_making why → (Refused why ≡ Refused making.Taken) ↔ (¬ CanBeAdded (state g mid).now.schema)
      → (IsClean g new → Refused why ≡ Refused making.Storage → (first : Placing) (world : World) → HasFirstWorld first (state g mid).now world → Keeps tables world → HasStorageCause g mid new ⊎ RefusesMove tables (state g mid).now)
      → IsClean g new → IsStorage (refused new told) → HasStorageCause g old new ⊎ RefusesMigration (state g old).now
  move_caused old mid new tables known finds settled crash why told told_is taken caused clean is =
      let early : IsClean g mid = (later_by g mid new crash).clean clean in
      let found = finds.found early in
      let same = finds.asked.unchanged early found.1 (sym (settled found.0)) in
      let can = can_be_migrated old mid new tables known finds settled crash why told told_is taken clean is in
      let stored : Refused why ≡ Refused making.Storage = ap Refused (stored_only why (sym told_is ∙ storage_only new told is)) in
      let had = found.2.0 in
      elim (caused clean stored had.first had.world (subst (λ (db : Database). HasFirstWorld had.first db had.world) (sym same) had.has) found.2.1) [
        | inl cause ↦ inl (fault_later g old mid new (later_by g old mid finds.asked.survives) (later_by g mid new crash) clean cause)
        | inr refuses ↦ inr (record { can = record { had = had; possible = can.possible }; tables = tables; keeps = found.2.1; refuses = subst (RefusesMove tables) same refuses })
      ]

  -- the three tables were added, so they could be
  abbrev Moved : Unit {0} → Result (Unit {0}) MakingFault
  Moved it = Ok it

  not_taken : (it : Unit {0}) (why : MakingFault) → Moved it ≡ Refused why → ⊥
  not_taken it why is = cc is

  pub could_be_added : (old mid new : Held S) (tables : Tables) (known : Known) → FindsFirstDesk g old mid (Ok (tables, known)) → (IsOpen g old → (state g old).now ≡ (state g old).committed)
      → Survives (state g mid) (state g new) (LeavesMoved tables (state g mid).now) → (it : Unit {0}) → (Moved it ≡ Refused making.Taken) ↔ (¬ CanBeAdded (state g mid).now.schema)
      → IsClean g new → CanBeAdded (state g old).now.schema
  could_be_added old mid new tables known finds settled crash it taken clean =
      let early : IsClean g mid = (later_by g mid new crash).clean clean in
      let found = finds.found early in
      let same = finds.asked.unchanged early found.1 (sym (settled found.0)) in
      subst (λ (db : Database). CanBeAdded db.schema) same (not_denied_added (state g mid).now (λ cannot. not_taken it making.Taken (taken.1 cannot)))
