-- What a write of a decision's changes leaves of a connection to the desk's tables.
use Rattle.std.proofs.Common.{◌≡◌, ◌≢◌, ◌⊎◌, ◌+◌, ◌<◌, ℕ, Bool, true, false, List, Option, Ok, Err, Result, OnOk, OnErr, IsTrue, inl, inr, refl, sym, ap, subst, ◌∙◌}
use Rattle.sqlite_trees.specs.declared.store.Store.{Ghosts}
use Rattle.sqlite_trees.specs.Tree.{Trees}
use Rattle.sqlite.specs.Effect.{Database, IsDatabase}
use Rattle.sqlite.specs.Held.{Held, state}
use Rattle.sqlite.specs.State.{Survives}
use Rattle.agv_world_core.specs.Changes.{changed}
use Rattle.agv_world_core.specs.Counts.{limit_of, one_more}
use Rattle.agv_world_core.specs.LawfulParts.{HasLawfulLoads}
use Rattle.agv_world_core.specs.Questions.{count_of}
use Rattle.agv_world_core.specs.Maps.{Maps, maps_of}
use Rattle.agv_world_core.specs.Worlds.{World}
use Rattle.agv_world_core.specs.declared.change.Change.{Change}
use Rattle.agv_world_core.specs.declared.fault.Fault.{Fault}
use Rattle.agv_world_core.specs.declared.fault.Fault.TheVariants as machine
use Rattle.agv_world_core.specs.declared.floor.Counted.{Counted}
use Rattle.agv_world_core.proofs.LawfulInParts.{loads_of}
use Rattle.agv_desk.specs.Counts.{added, counted_by}
use Rattle.agv_desk.specs.Outcomes.{Outcome, Made, Refused, after, answer_of, decided}
use Rattle.agv_desk.specs.Step.{step}
use Rattle.agv_desk.specs.declared.answer.Decision.{Decision}
use Rattle.agv_desk.specs.declared.call.Call.{Call}
use Rattle.agv_store_changes.specs.ChangesMade.{ChangesWorlds, LeavesChanges, MakesChanges}
use Rattle.agv_store_read.specs.WorldAnswers.{HasWorld}
use Rattle.agv_store_read_tables.specs.WorldIn.{world_in}
use Rattle.agv_store_schema.specs.DeskRows.{Holds, KeepsOthers, Placing}
use Rattle.agv_store_rows.specs.Rows.{row_lists, rows_of}
use Rattle.agv_store_schema.specs.SchemaNumbers.{desk_seats}
use Rattle.agv_store_schema.specs.Connections.{IsClean, IsOpen}
use Rattle.agv_store_schema.proofs.Later.{later_by}
use Rattle.agv_world_core.specs.Asks.{failed_by}
use Rattle.agv_store_known.specs.Known.{Follows, IsKnownIn}
use Rattle.agv_store_known.specs.declared.known.Known.{Known}
use Rattle.agv_store_floor.specs.Flags.{doubted_by}
use Rattle.agv_store_floor.specs.Floors.{IsConsistent, Keyed, Knows, world_at}
use Rattle.agv_store.specs.Serving.{Decides, IsServedBy, LeavesCall, outcome_in, world_after}

pub answer_decided : (outcome : Outcome) → (decided outcome).answer ≡ answer_of outcome
unfolding decided answer_of
answer_decided (Refused why) = refl
answer_decided (Made effect) = refl

-- the laws that are cited
abbrev pub DatabaseTells : Type 0
DatabaseTells = (desk : Placing) (db : Database) (world : World) → HasWorld desk db world → world_in db ≡ world

abbrev pub MakesNextWorld : Type 0
MakesNextWorld = (changes : List Change) (old new : Database) → MakesChanges changes old new → ChangesWorlds changes old new

abbrev pub CountsFollow : Type 0
CountsFollow = (seats : ℕ) (world : World) (at : ℕ) (call : Call) (what : Counted) → HasLawfulLoads world
    → count_of (after world (step seats world at call)) what ≡ count_of world what + added call (answer_of (step seats world at call)) what

abbrev pub AddsBelow : Type 0
AddsBelow = (seats : ℕ) (world : World) (at : ℕ) (call : Call) (what : Counted) → added call (answer_of (step seats world at call)) what ≢ 0 → count_of world what < limit_of what

-- the clauses of a write, and the law of what its changes make of a world
pub record IsWritten {S : Type 0} (g : Ghosts S) (old new : Held S) (changes : List Change) (r : Result (Unit {0}) Fault) : Type 0 where
  pub made : IsClean g new → OnOk r (MakesChanges changes (state g old).now (state g new).committed)
  pub worlds : MakesNextWorld
  pub all_committed : IsClean g new → OnOk r ((state g new).now ≡ (state g new).committed)
  pub opened : IsClean g new → OnOk r (IsTrue (state g old).is_open × IsTrue (state g new).is_open)
  pub was_open : IsClean g new → IsTrue (state g new).is_open → IsTrue (state g old).is_open
  pub undone : IsClean g new → IsTrue (state g new).is_open → OnErr r (((state g new).now ≡ (state g old).committed) × ((state g new).committed ≡ (state g old).committed))
  pub crash : Survives (state g old) (state g new) (LeavesChanges changes (state g old).now)
  pub idle : new.in_transaction ≡ false

module _ {S : Type 0} (g : Ghosts S) (law : DatabaseTells) where
  pub world_known : (held : Held S) (world : World) → Knows g held world → world_at g held ≡ world
  world_known held world knows = law knows.at (state g held).now world knows.has

  module _ (old new : Held S) (at : ℕ) (call : Call) (decision : Decision)
      (knows : IsClean g old → Knows g old (world_at g old))
      (decides : IsClean g old → Decides (world_at g old) at call decision)
      (changes : List Change) (changes_are : changes ≡ decision.changes) (r : Result (Unit {0}) Fault) (writes : IsWritten g old new changes r) where
    abbrev next : World
    next = world_after (world_at g old) at call

    clean_old : IsClean g new → IsClean g old
    clean_old = (later_by g old new writes.crash).clean

    on_ok : {B : Type 0} → r ≡ Ok tt → OnOk r B → B
    on_ok {B} ok b = subst (λ q. OnOk q B) ok b

    -- ---- after an answer

    maps_next : IsClean g new → changed changes (maps_of (world_at g old)) ≡ maps_of next
    maps_next clean = subst (λ cs. changed cs (maps_of (world_at g old)) ≡ maps_of next) (sym changes_are) (decides (clean_old clean)).changes

    pub knows_next : r ≡ Ok tt → IsClean g new → Knows g new next
    knows_next ok clean =
        let was = knows (clean_old clean) in
        let same = on_ok ok (writes.all_committed clean) in
        let made = on_ok ok (writes.made clean) in
        record {
          is_open = (on_ok ok (writes.opened clean)).1;
          idle = writes.idle;
          settled = sym same;
          listed = subst IsDatabase (sym same) (made.listed was.at was.has.stands was.has.rows.schema_is was.listed);
          at = was.at;
          has = record {
            stands = was.has.stands;
            lawful = (decides (clean_old clean)).lawful;
            rows = subst (λ (db : Database). Holds was.at db (rows_of next)) (sym same)
                (subst (λ (maps : Maps). Holds was.at (state g new).committed (row_lists maps)) (maps_next clean)
                (writes.worlds changes (state g old).now (state g new).committed made was.at was.has.stands (maps_of (world_at g old)) was.has.rows));
          };
        }

    world_next : r ≡ Ok tt → IsClean g new → world_at g new ≡ next
    world_next ok clean = world_known new next (knows_next ok clean)

    answer_as_decided : IsClean g new → decision.answer ≡ answer_of (outcome_in (world_at g old) at call)
    answer_as_decided clean = ap (λ (d : Decision). d.answer) (decides (clean_old clean)).decided_is ∙ answer_decided _

    pub served : r ≡ Ok tt → IsClean g new → IsServedBy g old new at call decision.answer
    served ok clean = record {
      answer_is = (decides (clean_old clean)).answer_is;
      knows = knows_next ok clean;
      others = λ desk stands schema. subst (λ (db : Database). KeepsOthers desk (state g old).now db) (sym (on_ok ok (writes.all_committed clean))) ((on_ok ok (writes.made clean)).others desk stands schema);
    }

    -- what is known follows
    module _ (counts : CountsFollow) (below : AddsBelow) (known known_now : Known) (is_known : IsClean g old → IsOpen g old → IsKnownIn known (world_at g old))
        (more : Option Counted) (more_is : more ≡ counted_by call decision.answer) (follows : Follows more changes known known_now) where
      known_next : IsClean g new → IsKnownIn known_now next
      known_next clean =
          let outcome = outcome_in (world_at g old) at call in
          let was = knows (clean_old clean) in
          let added_is : (what : Counted) → one_more more what ≡ added call (answer_of outcome) what = λ what. ap (λ kind. one_more kind what) (more_is ∙ ap (counted_by call) (answer_as_decided clean)) in
          follows (world_at g old) next (maps_next clean)
          (λ what some. below desk_seats (world_at g old) at call what (λ none. some (added_is what ∙ none)))
          (λ what. counts desk_seats (world_at g old) at call what (loads_of was.has.lawful) ∙ ap (λ n. count_of (world_at g old) what + n) (sym (added_is what)))
          (is_known (clean_old clean) was.is_open)

      pub written_consistent : (failed_now in_doubt_now : Bool) → r ≡ Ok tt → IsConsistent g new known_now failed_now in_doubt_now
      written_consistent failed_now in_doubt_now ok = record {
        idle = writes.idle;
        opens = λ clean _ _. (knows_next ok clean).is_open;
        knows = λ clean still. subst (λ world. Knows g new world) (sym (world_next ok clean)) (knows_next ok clean);
        is_known = λ clean still. subst (IsKnownIn known_now) (sym (world_next ok clean)) (known_next clean);
      }

    -- ---- after a fault

    pub left_all : (why : Fault) → r ≡ Err why → IsClean g new → IsOpen g new → (state g new).now ≡ (state g old).now
    left_all why is_err clean still =
        let back = subst (λ q. OnErr q (((state g new).now ≡ (state g old).committed) × ((state g new).committed ≡ (state g old).committed))) is_err (writes.undone clean still) in
        back.0 ∙ (knows (clean_old clean)).settled

    knows_still : (why : Fault) → r ≡ Err why → IsClean g new → IsOpen g new → Knows g new (world_at g old)
    knows_still why is_err clean still =
        let was = knows (clean_old clean) in
        let back = subst (λ q. OnErr q (((state g new).now ≡ (state g old).committed) × ((state g new).committed ≡ (state g old).committed))) is_err (writes.undone clean still) in
        let now = left_all why is_err clean still in
        record {
          is_open = still;
          idle = writes.idle;
          settled = back.1 ∙ sym back.0;
          listed = subst IsDatabase (sym now) was.listed;
          at = was.at;
          has = subst (λ (db : Database). HasWorld was.at db (world_at g old)) (sym now) was.has;
        }

    flags_raised : (why : Fault) → r ≡ Err why → (failed in_doubt failed_now in_doubt_now : Bool) → failed_now ≡ failed_by r failed → in_doubt_now ≡ doubted_by r in_doubt
        → failed_now ≡ false → in_doubt_now ≡ false → ⊥
    flags_raised machine.Memory is_err failed in_doubt failed_now in_doubt_now failed_is doubt_is not_failed no_doubt =
        let wrong : true ≡ false = sym (ap (λ (q : Result (Unit {0}) Fault). doubted_by q in_doubt) is_err) ∙ sym doubt_is ∙ no_doubt in cc wrong
    flags_raised machine.Storage is_err failed in_doubt failed_now in_doubt_now failed_is doubt_is not_failed no_doubt =
        let wrong : true ≡ false = sym (ap (λ (q : Result (Unit {0}) Fault). failed_by q failed) is_err) ∙ sym failed_is ∙ not_failed in cc wrong

    pub refused_consistent : (known : Known) → (IsClean g old → IsOpen g old → IsKnownIn known (world_at g old)) → (why : Fault) → r ≡ Err why
        → (failed in_doubt failed_now in_doubt_now : Bool) → failed_now ≡ failed_by r failed → in_doubt_now ≡ doubted_by r in_doubt → IsConsistent g new known failed_now in_doubt_now
    refused_consistent known is_known why is_err failed in_doubt failed_now in_doubt_now failed_is doubt_is = record {
      idle = writes.idle;
      opens = λ clean not_failed no_doubt. absurd (flags_raised why is_err failed in_doubt failed_now in_doubt_now failed_is doubt_is not_failed no_doubt);
      knows = λ clean still. subst (λ world. Knows g new world) (sym (ap world_in (left_all why is_err clean still))) (knows_still why is_err clean still);
      is_known = λ clean still. subst (IsKnownIn known) (sym (ap world_in (left_all why is_err clean still))) (is_known (clean_old clean) (knows (clean_old clean)).is_open);
    }

    -- ---- after a crash

    leaves_next : IsClean g new → (trees : Trees) → LeavesChanges changes (state g old).now trees → LeavesCall g old at call trees
    leaves_next clean trees (db, made, trees_are) =
        let was = knows (clean_old clean) in
        record {
          knew = was;
          found = db;
          listed = made.listed was.at was.has.stands was.has.rows.schema_is was.listed;
          trees_are = sym trees_are;
          has = (
            was.at,
            record {
              stands = was.has.stands;
              lawful = (decides (clean_old clean)).lawful;
              rows = subst (λ (maps : Maps). Holds was.at db (row_lists maps)) (maps_next clean)
                  (writes.worlds changes (state g old).now db made was.at was.has.stands (maps_of (world_at g old)) was.has.rows);
            },
          );
          others = made.others;
        }

    either_left : IsClean g new → (trees : Trees) → (state g old).may_leave trees ⊎ LeavesChanges changes (state g old).now trees → (state g old).may_leave trees ⊎ LeavesCall g old at call trees
    either_left clean trees (inl before) = inl before
    either_left clean trees (inr left) = inr (leaves_next clean trees left)

    pub crashes_so : Survives (state g old) (state g new) (LeavesCall g old at call)
    crashes_so = record {
      clean = writes.crash.clean;
      shield = writes.crash.shield;
      counts = writes.crash.counts;
      limit = writes.crash.limit;
      closes = writes.crash.closes;
      crash = λ clean trees left. either_left clean trees (writes.crash.crash clean trees left);
    }

  -- ---- told of the floor as its callers see it

  module _ (old new : Held S) (known : Known) (failed in_doubt : Bool) (is : IsConsistent g old known failed in_doubt) (seen : Keyed S) (view_is : record { held = old; failed = failed } ≡ seen)
      (at : ℕ) (call : Call) (decision : Decision)
      (knows : IsClean g seen.held → Knows g seen.held (world_at g seen.held))
      (decides : IsClean g seen.held → Decides (world_at g seen.held) at call decision)
      (changes : List Change) (changes_are : changes ≡ decision.changes) (r : Result (Unit {0}) Fault) (writes : IsWritten g old new changes r) where
    held_is : old ≡ seen.held
    held_is = ap (λ (desk : Keyed S). desk.held) view_is

    knows_old : IsClean g old → Knows g old (world_at g old)
    knows_old = subst (λ (held : Held S). IsClean g held → Knows g held (world_at g held)) (sym held_is) knows

    decides_old : IsClean g old → Decides (world_at g old) at call decision
    decides_old = subst (λ (held : Held S). IsClean g held → Decides (world_at g held) at call decision) (sym held_is) decides

    pub consistent_refused : (f : Fault) → r ≡ Err f → (failed_now in_doubt_now : Bool) → failed_now ≡ failed_by r failed → in_doubt_now ≡ doubted_by r in_doubt
        → IsConsistent g new known failed_now in_doubt_now
    consistent_refused f is_err =
        refused_consistent old new at call decision knows_old decides_old changes changes_are r writes known is.is_known f is_err failed in_doubt

    pub consistent_written : CountsFollow → AddsBelow → (known_now : Known) (more : Option Counted) → more ≡ counted_by call decision.answer → Follows more changes known known_now
        → (failed_now in_doubt_now : Bool) → r ≡ Ok tt → IsConsistent g new known_now failed_now in_doubt_now
    consistent_written counts below known_now more more_is follows failed_now in_doubt_now ok =
        written_consistent old new at call decision knows_old decides_old changes changes_are r writes counts below known known_now is.is_known more more_is follows failed_now in_doubt_now ok

    pub serves_written : r ≡ Ok tt → IsClean g new → IsServedBy g seen.held new at call decision.answer
    serves_written ok clean =
        subst (λ (held : Held S). IsServedBy g held new at call decision.answer) held_is
        (served old new at call decision knows_old decides_old changes changes_are r writes ok clean)

    pub crash_written : Survives (state g seen.held) (state g new) (LeavesCall g seen.held at call)
    crash_written =
        subst (λ (held : Held S). Survives (state g held) (state g new) (LeavesCall g held at call)) held_is
        (crashes_so old new at call decision knows_old decides_old changes changes_are r writes)
