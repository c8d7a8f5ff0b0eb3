-- What a report leaves of a desk, told from how it ended.
use Rattle.std.proofs.Common.{◌≡◌, ℕ, true, List, Ok, Err, Result, IfOk, OnOk, refl, sym, ap, subst}
use Rattle.sqlite_trees.specs.declared.store.Store.{Ghosts}
use Rattle.sqlite.specs.Held.{Held, state}
use Rattle.sqlite.specs.Effect.{Database}
use Rattle.sqlite.specs.State.{Survives}
use Rattle.agv_world_core.specs.Asks.{Asks}
use Rattle.agv_world_core.specs.Lawful.{IsLawful}
use Rattle.agv_world_core.specs.Worlds.{World}
use Rattle.agv_world_core.specs.declared.fault.Fault.{Fault}
use Rattle.agv_desk.specs.Outcomes.{after, answer_of}
use Rattle.agv_desk.specs.Reports.{report_text}
use Rattle.agv_desk.specs.declared.answer.Answer.{Answer}
use Rattle.agv_desk.specs.declared.answer.Answer.TheVariants as answer
use Rattle.agv_desk.specs.declared.call.Call.{Call}
use Rattle.agv_desk.specs.declared.call.Call.TheVariants as call
use Rattle.agv_desk.specs.declared.report.Report.{Report}
use Rattle.agv_store_schema.specs.DeskRows.{KeepsOthers}
use Rattle.agv_store_schema.specs.SchemaNumbers.{desk_seats}
use Rattle.agv_store_schema.specs.Connections.{IsClean, IsOpen}
use Rattle.agv_store_floor.specs.Floors.{IsAsked, Keyed, Knows, facts_of, world_at}
use Rattle.agv_store.specs.Serving.{IsServedBy, LeavesAll}
use Rattle.agv_store.proofs.CallsServed.{asked_till, fails_again, faulted_till, knows_before, others_same, same_now, stays_failed}

module _ {S : Type 0} (g : Ghosts S) {A : Type 0} (says : World → A → Type 0) (old new : Keyed S) where
  abbrev pub Told : Result A Fault → Type 0
  Told r = Asks (facts_of g) old new r (λ world a. IsLawful desk_seats world → says world a)

  through : (r : Result A Fault) → Told r → IsAsked g old.held new.held
  through (Ok a) told = asked_till g old new told
  through (Err why) told = faulted_till g old new why told

  pub fails_still : (r : Result A Fault) → Told r → old.failed ≡ true → new.failed ≡ true
  fails_still (Ok a) told = stays_failed g old new told
  fails_still (Err why) told = fails_again g old new why told

  pub was_open : (r : Result A Fault) → Told r → IsClean g new.held → IsOpen g new.held → IsOpen g old.held
  was_open r told = (through r told).was_open

  pub crash : (r : Result A Fault) → Told r → Survives (state g old.held) (state g new.held) (λ _. ⊥)
  crash r told = (through r told).survives

  module _ (knew : IsClean g old.held → IsOpen g old.held → Knows g old.held (world_at g old.held)) where
    pub leaves_all : (r : Result A Fault) → Told r → IsClean g new.held → IsOpen g new.held → LeavesAll g old.held new.held
    leaves_all r told = same_now g old.held new.held (through r told) knew

    pub knew_before : (r : Result A Fault) → Told r → (IsClean g new.held → OnOk r (Knows g new.held (world_at g new.held))) → IsClean g new.held → OnOk r (Knows g old.held (world_at g old.held))
    knew_before (Ok a) told knows clean = knows_before g old.held new.held (through (Ok a) told) knew clean (knows clean).is_open
    knew_before (Err why) told knows clean = tt

module _ {S : Type 0} (g : Ghosts S) (old new : Held S) where
  -- a report is the answer to a call for it, in the world that the desk knew and knows
  pub served_report : (report : Report) (bytes : List ℕ) → bytes ≡ report_text (world_at g old) report → Knows g new (world_at g old) → LeavesAll g old new
      → (at : ℕ) → IsServedBy g old new at (call.Report report) (answer.Report report bytes)
  unfolding after answer_of
  served_report report bytes is knows same at = record {
    answer_is = ap (λ text. answer.Report report text) is;
    knows = knows;
    others = λ desk stands schema. subst (λ (db : Database). KeepsOthers desk (state g old).now db) (sym same)
        (record { schema_is = refl; rows = others_same desk (state g old).now desk.schema.tables });
  }

  -- and so it is answered
  pub served_call : (report : Report) (asked : Call) → asked ≡ call.Report report → (at : ℕ) (r : Result Answer Fault)
      → IfOk r (λ answer. (at : ℕ) → IsServedBy g old new at (call.Report report) answer) → IfOk r (IsServedBy g old new at asked)
  served_call report asked is at (Ok answer) serves = subst (λ (asked : Call). IsServedBy g old new at asked answer) (sym is) (serves at)
  served_call report asked is at (Err why) serves = tt
