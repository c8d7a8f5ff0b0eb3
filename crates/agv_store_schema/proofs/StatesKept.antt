-- What a connection keeps, through a transaction that is undone or is to be committed.
use Rattle.std.proofs.Common.{◌≡◌, ◌∙◌, Ok, Err, Result, IfErr, OnOk, OnErr, IsTrue, inl, inr, refl}
use Rattle.sqlite.specs.declared.error.Error.{Error}
use Rattle.sqlite.specs.State.{State, KeepsCommit, IsRolledBack}
use Rattle.sqlite.specs.Steps.{FailsToCommit}

pub on_ok : {X E A B : Type 0} (r : Result X E) → (A → B) → OnOk r A → OnOk r B
on_ok (Ok x) f h = f h
on_ok (Err e) f h = tt

pub on_err : {X E B : Type 0} (r : Result X E) → B → OnErr r B
on_err (Ok x) h = tt
on_err (Err e) h = h

pub keeps_itself : (a : State) → KeepsCommit a a
keeps_itself a = record { was_open = λ h. h; committed = λ h. refl }

pub keeps_then : (a b c : State) → KeepsCommit a b → KeepsCommit b c → KeepsCommit a c
keeps_then a b c p q = record { was_open = λ h. p.was_open (q.was_open h); committed = λ h. q.committed h ∙ p.committed (q.was_open h) }

-- what a transaction is undone to, where nothing was committed
pub undone_to : (first mid end : State) → KeepsCommit first mid → IsRolledBack mid end → IsTrue end.is_open → (end.now ≡ first.committed) × (end.committed ≡ first.committed)
undone_to first mid end kept back still = let u = back.undone still in let same = kept.committed (back.was_open still) in (u.0 ∙ same, u.1 ∙ same)

-- a connection that is open after its transaction was undone, or was to be committed, was open when that began
pub open_by_undoing : (first mid end : State) → KeepsCommit first mid → IsRolledBack mid end → IsTrue end.is_open → IsTrue first.is_open
open_by_undoing first mid end kept back still = kept.was_open (back.was_open still)

pub open_by_commit : {X : Type 0} (first mid end : State) (r : Result X Error) → KeepsCommit first mid → OnOk r (IsTrue mid.is_open) → IfErr r (FailsToCommit mid end) → IsTrue end.is_open → IsTrue first.is_open
open_by_commit first mid end (Ok x) kept was fails still = kept.was_open was
open_by_commit first mid end (Err e) kept was (inl fails) still = kept.was_open (fails.3.was_open still)
open_by_commit first mid end (Err e) kept was (inr fails) still = kept.was_open fails.2.0.was_open
