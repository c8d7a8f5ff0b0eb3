-- What a whole call leaves of a connection to the desk's tables.
use Rattle.std.proofs.Common.{◌≡◌, ◌≢◌, ℕ, Bool, true, false, List, [], ◌∷◌, Ok, Err, Result, IfOk, OnOk, OnErr, inl, refl, sym, ap, subst, ◌∙◌}
use Rattle.std.proofs.Math.Nat.{le_refl}
use Rattle.std.specs.List.{AllByRecursion}
use Rattle.sqlite_trees.specs.declared.store.Store.{Ghosts}
use Rattle.sqlite_trees.specs.Tree.{Trees}
use Rattle.sqlite_schema.specs.declared.schema.Table.{Table}
use Rattle.sqlite.specs.Effect.{Database}
use Rattle.sqlite.specs.Held.{Held, state}
use Rattle.sqlite.specs.State.{Survives}
use Rattle.sqlite.proofs.StateLemmas.{survives_then, survives_weaker}
use Rattle.agv_world_core.specs.Asks.{Answers, IsFaulted, Kept, failed_after}
use Rattle.agv_world_core.specs.Changes.{changed}
use Rattle.agv_world_core.specs.ConsistentTrips.{HasConsistentTrips}
use Rattle.agv_world_core.specs.Lawful.{IsLawful}
use Rattle.agv_world_core.specs.Maps.{maps_of}
use Rattle.agv_world_core.specs.Worlds.{World}
use Rattle.agv_world_core.specs.declared.change.Change.{Change}
use Rattle.agv_world_core.specs.declared.fault.Fault.{Fault}
use Rattle.agv_world_core.specs.declared.fault.Fault.TheVariants as machine
use Rattle.agv_world_core.proofs.lists.Asking.{left, stays}
use Rattle.agv_desk.specs.declared.answer.Answer.{Answer}
use Rattle.agv_desk.specs.declared.answer.Decision.{Decision}
use Rattle.agv_desk.specs.declared.call.Call.{Call}
use Rattle.agv_store_read_tables.specs.WorldIn.{world_in}
use Rattle.agv_store_schema.specs.DeskRows.{KeepsOthers, Placing}
use Rattle.agv_store_schema.specs.SchemaNumbers.{desk_seats}
use Rattle.agv_store_schema.specs.declared.table_name.TableName.{TableName}
use Rattle.agv_store_schema.specs.Connections.{IsClean, IsOpen}
use Rattle.agv_store_schema.proofs.Later.{later_by}
use Rattle.agv_store_floor.specs.Floors.{IsAsked, Keyed, Knows, facts_of, world_at}
use Rattle.agv_store.specs.Serving.{Decides, FoundIn, IsServedBy, LeavesAll, LeavesCall, answer_in, world_after}
use Rattle.agv_store_floor.proofs.Asked.{clean_before}

-- other tables keep their rows where nothing changes
pub others_same : (desk : Placing) (db : Database) (tables : List Table) → AllByRecursion (λ (t : Table). ((name : TableName) → t.tree ≢ desk.tree name) → db.trees t.tree ≡ db.trees t.tree) tables
others_same desk db [] = tt
others_same desk db (table ∷ more) = (λ _. refl, others_same desk db more)

on_err : {A B : Type 0} (q : Result A Fault) → B → OnErr q B
on_err (Ok a) b = tt
on_err (Err why) b = b

on_ok : {A B : Type 0} (q : Result A Fault) → B → OnOk q B
on_ok (Ok a) b = b
on_ok (Err why) b = tt

raised_after : (why : Fault) → failed_after why true ≡ true
raised_after machine.Memory = refl
raised_after machine.Storage = refl

module _ {S : Type 0} (g : Ghosts S) where
  pub asked_here : (held : Held S) → IsAsked g held held
  asked_here held = record {
    survives = record { clean = le_refl _; shield = λ is. is; counts = le_refl _; limit = refl; closes = λ clean still. inl still; crash = λ clean trees before. inl before };
    was_open = λ clean still. still;
    unchanged = λ clean still settled. refl;
    committed = λ clean still. refl;
    idle = λ idle. idle;
  }

  -- what was asked between two moments, told from how the question ended
  pub asked_till : (old new : Keyed S) {says : Type 0} → Answers (facts_of g) old new says → IsAsked g old.held new.held
  asked_till old new asked = (stays asked).later old (asked_here old.held)

  pub faulted_till : (old new : Keyed S) (why : Fault) → ((start : Keyed S) → Kept (facts_of g) start old → IsFaulted (facts_of g) start new why) → IsAsked g old.held new.held
  faulted_till old new why asked = (left why asked).later old (asked_here old.held)

  -- a store that has failed has failed for good
  pub stays_failed : (old new : Keyed S) {says : Type 0} → Answers (facts_of g) old new says → old.failed ≡ true → new.failed ≡ true
  stays_failed old new asked was = (stays asked).failed ∙ was

  pub fails_again : (old new : Keyed S) (why : Fault) → ((start : Keyed S) → Kept (facts_of g) start old → IsFaulted (facts_of g) start new why) → old.failed ≡ true → new.failed ≡ true
  fails_again old new why asked was = (left why asked).failed ∙ ap (failed_after why) was ∙ raised_after why

  pub had_not_failed : (old mid : Keyed S) {says : Type 0} (now : Bool) → Answers (facts_of g) old mid says → mid.failed ≡ false → old.failed ≡ true → now ≡ true
  had_not_failed old mid now asked works was = let wrong : true ≡ false = sym (stays_failed old mid asked was) ∙ works in absurd (cc wrong)

  -- ---- questions alone

  module _ (old mid : Held S) (asked : IsAsked g old mid) (knew : IsClean g old → IsOpen g old → Knows g old (world_at g old)) where
    clean_old : IsClean g mid → IsClean g old
    clean_old = clean_before g old mid asked

    pub knows_before : IsClean g mid → IsOpen g mid → Knows g old (world_at g old)
    knows_before clean still = knew (clean_old clean) (asked.was_open clean still)

    pub same_now : IsClean g mid → IsOpen g mid → LeavesAll g old mid
    same_now clean still = asked.unchanged clean still (knows_before clean still).settled

    pub same_world : IsClean g mid → IsOpen g mid → world_at g mid ≡ world_at g old
    same_world clean still = ap world_in (same_now clean still)

    pub faulted_leaves : {A : Type 0} (q : Result A Fault) → IsClean g mid → IsOpen g mid → OnErr q (LeavesAll g old mid)
    faulted_leaves q clean still = on_err q (same_now clean still)

    pub nothing_left : (at : ℕ) (call : Call) → Survives (state g old) (state g mid) (LeavesCall g old at call)
    nothing_left at call = survives_weaker (state g old) (state g mid) _ _ (λ _ _ never. absurd never) asked.survives

    module _ (at : ℕ) (call : Call) (decision : Decision) (decides : IsClean g mid → IsLawful desk_seats (world_at g old) → Decides (world_at g old) at call decision)
        (knows : IsClean g mid → Knows g mid (world_at g mid)) where
      decides_old : IsClean g mid → Decides (world_at g old) at call decision
      decides_old clean = decides clean (knows_before clean (knows clean).is_open).has.lawful

      pub decides_mid : IsClean g mid → Decides (world_at g mid) at call decision
      decides_mid clean = subst (λ world. Decides world at call decision) (sym (same_world clean (knows clean).is_open)) (decides_old clean)

      -- where no row changes
      pub told : ((seats : ℕ) (world : World) → IsLawful seats world → HasConsistentTrips world) → ((world other : World) → HasConsistentTrips world → HasConsistentTrips other → maps_of world ≡ maps_of other → world ≡ other)
          → decision.changes ≡ [] → IsClean g mid → IsServedBy g old mid at call decision.answer
      unfolding changed
      told good one none clean =
          let still = (knows clean).is_open in
          let its = decides_old clean in
          let maps : maps_of (world_at g old) ≡ maps_of (world_after (world_at g old) at call) = subst (λ (changes : List Change). changed changes (maps_of (world_at g old)) ≡ maps_of (world_after (world_at g old) at call)) none its.changes in
          let same : world_at g old ≡ world_after (world_at g old) at call = one (world_at g old) _ (good desk_seats (world_at g old) (knows_before clean still).has.lawful) (good desk_seats _ its.lawful) maps in
          record {
            answer_is = its.answer_is;
            knows = subst (λ world. Knows g mid world) (same_world clean still ∙ same) (knows clean);
            others = λ desk stands schema. subst (λ (db : Database). KeepsOthers desk (state g old).now db) (sym (same_now clean still))
                (record { schema_is = refl; rows = others_same desk (state g old).now desk.schema.tables });
          }

      -- ---- and then a write

      module _ (new : Held S) (r : Result Answer Fault) (crash : Survives (state g mid) (state g new) (LeavesCall g mid at call)) where
        clean_mid : IsClean g new → IsClean g mid
        clean_mid = (later_by g mid new crash).clean

        served_then : (answer : Answer) → IsClean g new → IsServedBy g mid new at call answer → IsServedBy g old new at call answer
        served_then answer clean served =
            let clean_m = clean_mid clean in
            let still = (knows clean_m).is_open in
            let world = same_world clean_m still in
            let now = same_now clean_m still in
            record {
              answer_is = subst (λ world. answer ≡ answer_in world at call) world served.answer_is;
              knows = subst (λ world. Knows g new (world_after world at call)) world served.knows;
              others = λ desk stands schema. subst (λ (db : Database). KeepsOthers desk db (state g new).now) now (served.others desk stands (ap (λ (db : Database). db.schema) now ∙ schema));
            }

        served_if : (q : Result Answer Fault) → IsClean g new → IfOk q (IsServedBy g mid new at call) → IfOk q (IsServedBy g old new at call)
        served_if (Ok answer) clean served = served_then answer clean served
        served_if (Err why) clean served = tt

        pub serves_then : (IsClean g new → IfOk r (IsServedBy g mid new at call)) → IsClean g new → IfOk r (IsServedBy g old new at call)
        serves_then serves clean = served_if r clean (serves clean)

        left_if : (q : Result Answer Fault) → IsClean g new → OnErr q (LeavesAll g mid new) → OnErr q (LeavesAll g old new)
        left_if (Ok answer) clean all = tt
        left_if (Err why) clean all = all ∙ same_now (clean_mid clean) (knows (clean_mid clean)).is_open

        pub left_then : (IsClean g new → IsOpen g new → OnErr r (LeavesAll g mid new)) → IsClean g new → IsOpen g new → OnErr r (LeavesAll g old new)
        left_then all clean still = left_if r clean (all clean still)

        knew_old : IsClean g new → Knows g old (world_at g old)
        knew_old clean = knows_before (clean_mid clean) (knows (clean_mid clean)).is_open

        pub knew_then : IsClean g new → OnOk r (Knows g old (world_at g old))
        knew_then clean = on_ok r (knew_old clean)

        pub opens_then : (IsClean g new → IsOpen g new → IsOpen g mid) → IsClean g new → IsOpen g new → IsOpen g old
        opens_then was clean still = asked.was_open (clean_mid clean) (was clean still)

        crash_old : IsClean g new → (trees : Trees) → LeavesCall g mid at call trees → LeavesCall g old at call trees
        crash_old clean trees leaves =
            let clean_m = clean_mid clean in
            let world = same_world clean_m (knows clean_m).is_open in
            let now = same_now clean_m (knows clean_m).is_open in
            record {
              knew = knew_old clean;
              found = leaves.found;
              listed = leaves.listed;
              trees_are = leaves.trees_are;
              has = subst (λ world. FoundIn leaves.found (world_after world at call)) world leaves.has;
              others = λ desk stands schema. subst (λ (db : Database). KeepsOthers desk db leaves.found) now (leaves.others desk stands (ap (λ (db : Database). db.schema) now ∙ schema));
            }

        pub crash_then : Survives (state g old) (state g new) (LeavesCall g old at call)
        crash_then = survives_then (state g old) (state g mid) (state g new) (λ _. ⊥) (LeavesCall g mid at call) (LeavesCall g old at call) (λ _ _ never. absurd never) crash_old asked.survives crash
