-- Statements that run in turn inside a transaction: what they do, and why one fails.
use Rattle.std.proofs.Common.{◌≡◌, ◌⊎◌, ◌∙◌, ◌++◌, ℕ, Bool, true, false, List, [], ◌∷◌, length, append-nil, Option, None, Some, IsSome, IsTrue, Ok, Err, Result, inl, inr, refl, sym, ap, subst, arith}
use Rattle.std.specs.Result.{IsErrAnd}
use Rattle.std.proofs.lemmas.Bool.{both_ways, cases_Bool}
use Rattle.sqlite_value.specs.Order.{Row}
use Rattle.sqlite_trees.specs.declared.error.StoreError.{StoreError}
use Rattle.sqlite_trees.specs.declared.error.StoreError.TheVariants.{OutOfMemory, Io, Corrupt, Full, Broken, Unstorable}
use Rattle.sqlite_trees.specs.declared.store.Store.{Ghosts}
use Rattle.sqlite_schema.specs.declared.command.Command.{Command}
use Rattle.sqlite_schema.specs.declared.command.Command.TheVariants.{Select, Insert, InsertOr, Update, Delete, CreateTable, CreateIndex, DropTable, DropIndex, CreateView, DropView, Rows}
use Rattle.sqlite_schema.specs.declared.command.Returning.{Returning}
use Rattle.sqlite_resolve.specs.declared.compiled.Compiled.{Compiled}
use Rattle.sqlite_resolve.specs.declared.error.CompileError.{CompileError}
use Rattle.sqlite.specs.Calls.{IsWrite}
use Rattle.sqlite.specs.Clock.{timed}
use Rattle.sqlite.specs.Does.{Does}
use Rattle.sqlite.specs.Effect.{Database, is_query}
use Rattle.sqlite.specs.Held.{state}
use Rattle.sqlite.specs.Listing.{understood}
use Rattle.sqlite.specs.State.{State, EndsScope, Escapes, Executes, ExecutesIn, ExecutesInside, HasCause, HasCleanDisk, IsMisplaced, IsNotRun, IsStatement, Runs, RunsAlone, RunsCommand, Survives, Writes, is_pragma, mode_of, shows_rows, store_error, text_of}
use Rattle.sqlite.specs.declared.error.Error.{Error}
use Rattle.sqlite.specs.declared.transaction.Transaction.{Transaction}
use Rattle.agv_store_schema.proofs.Later.{fault_later, later_by}
use Rattle.agv_store_schema.specs.Errors.{IsOfStore, is_of_store}
use Rattle.agv_store_sql.specs.Refusals.{EndsInside, HaveFailed, HaveRun, IsWriting, Refuses, RefusesOne, RunsAll, RunsOver, Statement, enforced}
use Rattle.agv_store_sql.proofs.sql.Failing.{IsCaused, IsWhole, caused, is_statement}

-- ---- a command that writes

no_query : (k : Command) → IsWrite k → is_query k ≡ false
no_query (Select q names) writes = absurd writes
no_query _ writes = refl

no_pragma : (k : Command) → IsWrite k → is_pragma k ≡ false
no_pragma (Rows values width names) writes = absurd writes
no_pragma _ writes = refl

hides : (db : Database) (s : Statement) (c : Compiled) → IsWriting db.schema s c → shows_rows false c ≡ false
hides db s c w = rw (no_query c.command w.writes, no_pragma c.command w.writes, w.silent) refl

wrote : (old new : State) (what : Option Returning) (k : Command) (text : List ℕ) (params : Row) (count : ℕ) → IsWrite k → Runs old new what k text params count → Writes old new what k text params count
wrote old new what (Insert at from) text params count writes ran = ran
wrote old new what (InsertOr at how from clauses) text params count writes ran = ran
wrote old new what (Update at q) text params count writes ran = ran
wrote old new what (Delete at q) text params count writes ran = ran
wrote old new what CreateTable text params count writes ran = ran
wrote old new what (CreateIndex at) text params count writes ran = ran
wrote old new what (DropTable at) text params count writes ran = ran
wrote old new what (DropIndex at) text params count writes ran = ran
wrote old new what CreateView text params count writes ran = ran
wrote old new what (DropView at) text params count writes ran = ran
wrote old new what _ text params count writes ran = absurd writes

not_misplaced : (old : State) (k : Command) (e : Error) → IsWrite k → IsMisplaced old k e → ⊥
not_misplaced old k e writes (inl mode) = elim mode.1 [ inl begins ↦ subst IsWrite begins.0 writes | inr ends ↦ elim ends.0 [ inl is ↦ subst IsWrite is writes | inr is ↦ subst IsWrite is writes ] ]
not_misplaced old k e writes (inr named) = elim named.2 [ inl is ↦ subst IsWrite is writes | inr is ↦ subst IsWrite is writes ]

no_escape : (held : ℕ) (old : State) (k : Command) → IsWrite k → Escapes held old k → ⊥
no_escape held old k writes (inl ends) = elim ends [ inl is ↦ subst IsWrite is writes | inr is ↦ subst IsWrite is writes ]
no_escape held old k writes (inr named) = elim named.1 [ inl is ↦ subst IsWrite is writes | inr is ↦ subst IsWrite is writes ]

-- ---- one statement

abbrev compiled_or : Compiled → Result Compiled CompileError → Compiled
compiled_or c (Ok d) = d
compiled_or c (Err e) = c

limit_or : (limit : Option ℕ) → IsSome limit ⊎ (limit ≡ None)
limit_or None = inr refl
limit_or (Some steps) = inl refl

unless_limited : (old new : State) {R : Type 0} → (old.step_limit ≡ None → R) → IsCaused old new ⊎ R
unless_limited old new r = elim (limit_or old.step_limit) [ inl limited ↦ inl (inr (inr limited)) | inr none ↦ inr (r none) ]

failed : (old new : State) (e : Error) → IsOfStore e → (big : Type 0) (why : StoreError) → e ≡ store_error why → HasCause old new big why → IsCaused old new ⊎ big
failed old new e stored big OutOfMemory is had = absurd (let other = sym (ap is_of_store is) ∙ stored in cc)
failed old new e stored big Io is had = inl (inl had)
failed old new e stored big Corrupt is had = inl (inl had)
failed old new e stored big Full is had = inl (inl had)
failed old new e stored big Broken is had = inl (inr (inl had))
failed old new e stored big Unstorable is had = inr had

module _ (s : Statement) (old new : State) where
  module _ (d c : Compiled) (it : IsStatement old s.0 s.1 d) (w : IsWriting old.now.schema s c) where
    same : d ≡ c
    same = ap (compiled_or d) (sym it.is ∙ w.is)

    -- what it does is not changed by the time or by a limit on steps that isn't there
    plainly : old.step_limit ≡ None → (why : Option Error) → Does old.step_limit (mode_of old) (timed s.1 d.formats it.now) old.now (text_of s.0 d) d.returning d.command (Err why)
        → Does None enforced s.1 old.now (text_of s.0 c) None c.command (Err why)
    plainly none why does =
        let at_c = subst (λ (x : Compiled). Does old.step_limit (mode_of old) (timed s.1 x.formats it.now) old.now (text_of s.0 x) x.returning x.command (Err why)) same does in
        rw (none, w.silent, w.untimed, append-nil s.1) at at_c

  runs_over : (count : ℕ) → old.step_limit ≡ None → Executes s.0 s.1 old new (Ok count) → RunsOver s old.now new.now
  unfolding ExecutesIn
  runs_over count none ran = λ c w.
      let alone = subst (λ (x : Compiled). RunsAlone false old new s.0 x (timed s.1 x.formats ran.1.now) (Ok count)) (same ran.0 c ran.1 w) ran.2 in
      let runs : Runs old new c.returning c.command (text_of s.0 c) (timed s.1 c.formats ran.1.now) count = rw (hides old.now s c w) at alone in
      let plain : Runs old new None c.command (text_of s.0 c) s.1 count = rw (w.silent, w.untimed, append-nil s.1) at runs in
      let it = wrote old new None c.command (text_of s.0 c) s.1 count w.writes plain in
      (it.tally, subst (λ (limit : Option ℕ). Does limit enforced s.1 old.now (text_of s.0 c) None c.command (Ok (it.tally, new.now))) none it.changed)

  module _ (e : Error) (stored : IsOfStore e) where
    by_command : (d : Compiled) (it : IsStatement old s.0 s.1 d) → RunsCommand old new s.0 d (timed s.1 d.formats it.now) (Err e) → IsCaused old new ⊎ Refuses s old.now
    by_command d it (inl kept) = elim kept.0 [
      | inl misplaced ↦ inr (λ c w. absurd (not_misplaced old c.command e w.writes (subst (λ (x : Compiled). IsMisplaced old x.command e) (same d c it w) misplaced)))
      | inr does ↦ unless_limited old new (λ none c w. (Some e, plainly d c it w none (Some e) does.1))
    ]
    by_command d it (inr fails) = elim (failed old new e stored _ fails.0 fails.1 fails.2) [
      | inl cause ↦ inl cause
      | inr big ↦ unless_limited old new (λ none c w. (None, plainly d c it w none None big))
    ]

    alone : ExecutesIn false s.0 s.1 old new (Err e) → IsCaused old new ⊎ Refuses s old.now
    unfolding ExecutesIn IsNotRun
    alone (inl (inl none)) = inr (λ c w. absurd (is_statement old s.0 s.1 e (subst (IsWhole s.0 (length s.1)) (sym w.is) (w.whole, sym w.named, w.untimed)) none.0))
    alone (inl (inr fails)) = inl (caused old new e stored fails)
    alone (inr ran) = elim (cases_Bool (shows_rows false ran.0)) [
      | inl shows ↦ inr (λ c w. absurd (both_ways (shows_rows false c) (hides old.now s c w) (subst (λ (x : Compiled). shows_rows false x ≡ true) (same ran.0 c ran.1 w) shows)))
      | inr runs ↦ by_command ran.0 ran.1 (rw runs at ran.2)
    ]

    ended_by : EndsScope 0 s.0 s.1 old → Refuses s old.now
    unfolding EndsScope
    ended_by scope = λ c w. absurd (no_escape 0 old c.command w.writes (subst (λ (x : Compiled). Escapes 0 old x.command) (same scope.0 c scope.1 w) scope.2))

    pub refused : ExecutesInside 0 s.0 s.1 old new (Err e) → IsCaused old new ⊎ Refuses s old.now
    refused (inl ran) = alone ran.0
    refused (inr scope) = inr (ended_by scope.0)

-- ---- statements in turn

runs_more : (all more : List Statement) (a b c : Database) → RunsAll all a b → RunsAll more b c → RunsAll (all ++ more) a c
runs_more [] more a b c p q = subst (λ db. RunsAll more db c) p q
runs_more (s ∷ all) more a b c p q = (p.0, p.1, runs_more all more p.0 b c p.2 q)

refuses_more : (all more : List Statement) (db : Database) → RefusesOne all db → RefusesOne (all ++ more) db
refuses_more [] more db none = absurd none
refuses_more (s ∷ all) more db (inl now) = inl now
refuses_more (s ∷ all) more db (inr later) = inr (later.0, later.1, refuses_more all more later.0 later.2)

refuses_after : (all more : List Statement) (a b : Database) → RunsAll all a b → RefusesOne more b → RefusesOne (all ++ more) a
refuses_after [] more a b p q = subst (λ db. RefusesOne more db) p q
refuses_after (s ∷ all) more a b p q = inr (p.0, p.1, refuses_after all more p.0 b p.2 q)

module _ {S : Type 0} (g : Ghosts S) where
  abbrev pub at : Transaction S → State
  at tx = state g tx.conn.now

  abbrev pub RunInside : Transaction S → Transaction S → List Statement → Type 0
  RunInside a b all = HasCleanDisk (at b) → IsTrue (at a).in_transaction → HaveRun g a b all

  abbrev pub FailInside : Transaction S → Transaction S → List Statement → Error → Type 0
  FailInside a b all e = HasCleanDisk (at b) → IsTrue (at a).in_transaction → HaveFailed g a b all e

  -- none
  pub runs_none : (a : Transaction S) → RunInside a a []
  runs_none a = λ clean inside. (inside, λ none. refl)

  -- one
  pub ends_one : (a b : Transaction S) (s : Statement) (r : Result ℕ Error) → (HasCleanDisk (at b) → IsTrue (at a).in_transaction → ExecutesInside 0 s.0 s.1 (at a) (at b) r) → EndsInside g a b (s ∷ []) r
  ends_one a b s (Ok count) runs = λ clean inside. let ran = runs clean inside in (ran.1.mode, λ none. ((at b).now, runs_over s (at a) (at b) count none ran.0, refl))
  ends_one a b s (Err e) runs = λ clean inside stored. elim (refused s (at a) (at b) e stored (runs clean inside)) [ inl cause ↦ inl cause | inr refuses ↦ inr (inl refuses) ]

  -- a fault that is passed on
  pub ends_as : {B : Type 0} (a b : Transaction S) (all : List Statement) (e : Error) (r : Result B Error) → IsErrAnd r (λ told. told ≡ e) → FailInside a b all e → EndsInside g a b all r
  ends_as a b all e (Ok x) is fails = absurd is
  ends_as a b all e (Err told) is fails = λ clean inside stored. fails clean inside (subst IsOfStore is stored)

  -- one of the first failed, and so the rest was not tried
  pub fails_early : (a b : Transaction S) (all more : List Statement) (e : Error) → FailInside a b all e → FailInside a b (all ++ more) e
  fails_early a b all more e fails = λ clean inside stored. elim (fails clean inside stored) [ inl cause ↦ inl cause | inr refuses ↦ inr (refuses_more all more _ refuses) ]

  module _ (a b c : Transaction S) (all more : List Statement) (first : Survives (at a) (at b) (λ _. ⊥)) (next : Survives (at b) (at c) (λ _. ⊥)) (one : RunInside a b all) where
    -- some, and then others
    pub runs_then : RunInside b c more → RunInside a c (all ++ more)
    runs_then two = λ clean inside.
        let done = one (omega (arith, next.clean, clean)) inside in
        let last = two clean done.0 in
        (last.0, λ none. runs_more all more _ _ _ (done.1 none) (last.1 (first.limit ∙ none)))

    pub fails_then : (e : Error) → FailInside b c more e → FailInside a c (all ++ more) e
    fails_then e two = λ clean inside stored.
        let done = one (omega (arith, next.clean, clean)) inside in
        elim (two clean done.0 stored) [
          | inl cause ↦ inl (fault_later g a.conn.now b.conn.now c.conn.now (later_by g a.conn.now b.conn.now first) (later_by g b.conn.now c.conn.now next) clean cause)
          | inr refuses ↦ elim (limit_or (at a).step_limit) [ inl limited ↦ inl (inr (inr limited)) | inr none ↦ inr (refuses_after all more _ _ (done.1 none) refuses) ]
        ]

    pub ends_then : {B : Type 0} (r : Result B Error) → EndsInside g b c more r → EndsInside g a c (all ++ more) r
    ends_then (Ok y) two = runs_then two
    ends_then (Err e) two = fails_then e two
