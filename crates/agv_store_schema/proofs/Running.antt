-- What a query that fails leaves, and what a part of a statement gave that was not stopped.
use Rattle.std.proofs.Common.{◌≡◌, ◌⊎◌, ℕ, List, Option, Some, None, Ok, Err, IfErr, OnOk, Result, Vec, Global, inl, inr}
use Rattle.sqlite_value.specs.Order.{Row}
use Rattle.sqlite_schema.specs.declared.command.Returning.{Returning}
use Rattle.sqlite.specs.declared.error.Error.{Error}
use Rattle.sqlite.specs.Clock.{timed}
use Rattle.sqlite.specs.State.{State, IsTooLate, IsUnchanged, IsRolledBack, IsNotRun, KeepsCommit, RunsCommand, FailsToQuery, FailsToShow}

-- a part of a statement that gave a value was not stopped on the way
pub went : {B E R : Type 0} {b : B} {Stops : E → Type 0} → ((stop : E) × Stops stop × (Ok b ≡ Err stop)) ⊎ R → R
went (inl stopped) = absurd (let e = stopped.2 in cc)
went (inr on) = on

pub same_value : {B E : Type 0} {a b : B} → ◌≡◌ {A = Result B E} (Ok a) (Ok b) → a ≡ b
same_value e = cc

module _ (sql : List ℕ) (params : Row) (old new : State) where
  -- a query that fails changes nothing, or has ended the transaction
  pub query_fails : (e : Error) → FailsToQuery sql params old new e → IsUnchanged old new ⊎ IsRolledBack old new
  unfolding FailsToQuery IsNotRun
  query_fails e (inl (inl it)) = inl it.1
  query_fails e (inl (inr it)) = inr it.3
  query_fails e (inr it) = go it.0.returning it.2
    where
      ran : RunsCommand old new sql it.0 (timed params it.0.formats it.1.now) (Err e) → IsUnchanged old new ⊎ IsRolledBack old new
      ran (inl same) = inl same.1
      ran (inr fails) = inr fails.3

      go : (o : Option Returning) → FailsToShow old new sql it.0 (timed params it.0.formats it.1.now) e o → IsUnchanged old new ⊎ IsRolledBack old new
      go None h = inl h.3
      go (Some what) h = ran h

-- ---- what a query leaves inside a transaction

unchanged_keeps : (a b : State) → IsUnchanged a b → KeepsCommit a b
unchanged_keeps a b same = record { was_open = λ _. same.0.was_open; committed = λ _. same.0.committed_is }

undone_keeps : (a b : State) → IsRolledBack a b → KeepsCommit a b
undone_keeps a b back = record { was_open = back.was_open; committed = λ still. (back.undone still).1 }

pub query_keeps : (sql : List ℕ) (params : Row) (a b : State) (r : Result (Vec Row Global) Error) → OnOk r (IsUnchanged a b)
    → IfErr r (λ e. FailsToQuery sql params a b e ⊎ IsTooLate sql params a b e) → KeepsCommit a b
query_keeps sql params a b (Ok rows) same fails = unchanged_keeps a b same
query_keeps sql params a b (Err e) same (inl fails) = elim (query_fails sql params a b e fails) [ inl unchanged ↦ unchanged_keeps a b unchanged | inr back ↦ undone_keeps a b back ]
query_keeps sql params a b (Err e) same (inr late) = unchanged_keeps a b late.5
