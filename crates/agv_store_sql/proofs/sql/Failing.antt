-- Why a statement fails, where its error is a fault of the store.
use Rattle.std.proofs.Common.{◌≡◌, ◌≤◌, ◌⊎◌, ◌∙◌, ℕ, false, List, [], length, Ok, Err, Result, IsSome, inl, inr, sym, ap, subst}
use Rattle.sqlite_disk.specs.Disk.{MoreFaults}
use Rattle.sqlite_value.specs.Order.{Row}
use Rattle.sqlite_trees.specs.declared.error.StoreError.{StoreError}
use Rattle.sqlite_trees.specs.declared.error.StoreError.TheVariants.{OutOfMemory, Io, Corrupt, Full, Broken, Unstorable}
use Rattle.sqlite_resolve.specs.declared.compiled.Compiled.{Compiled}
use Rattle.sqlite_resolve.specs.declared.error.CompileError.{CompileError}
use Rattle.sqlite.specs.declared.error.Error.{Error}
use Rattle.sqlite.specs.Listing.{understood}
use Rattle.sqlite.specs.State.{State, store_error, HasCause, Fails, IsNoStatement}
use Rattle.agv_store_schema.specs.Errors.{IsOfStore, is_of_store}

-- the store failed meanwhile, or had been shut, or the steps of a query are limited
abbrev pub IsCaused : State → State → Type 0
IsCaused old new = MoreFaults old.faults new.faults ⊎ ((old.is_open ≡ false) ⊎ IsSome old.step_limit)

module _ (old new : State) (e : Error) (stored : IsOfStore e) where
  of_store : (why : StoreError) → e ≡ store_error why → HasCause old new ⊥ why → IsCaused old new
  of_store OutOfMemory is had = absurd (let other = sym (ap is_of_store is) ∙ stored in cc)
  of_store Io is had = inl had
  of_store Corrupt is had = inl had
  of_store Full is had = inl had
  of_store Broken is had = inr (inl had)
  of_store Unstorable is had = absurd had

  pub caused : Fails old new ⊥ e → IsCaused old new
  caused fails = of_store fails.0 fails.1 fails.2

-- the text is one statement with so many parameters, and does not read the time
abbrev pub IsWhole : List ℕ → ℕ → Result Compiled CompileError → Type 0
IsWhole sql count (Ok c) = (length sql ≤ c.tail) × (length c.names ≡ count) × (c.formats ≡ [])
IsWhole sql count (Err e) = ⊥

pub is_statement : (s : State) (sql : List ℕ) (params : Row) (e : Error) → IsWhole sql (length params) (understood s.now.schema sql) → ¬ IsNoStatement s sql params e
is_statement s sql params e whole (inl unread) = subst (IsWhole sql (length params)) unread.1 whole
is_statement s sql params e whole (inr other) =
    let is : IsWhole sql (length params) (Ok other.0) = subst (IsWhole sql (length params)) other.1 whole in
    elim other.2 [ inl more ↦ more.0 is.0 | inr rest ↦ elim rest [ inl count ↦ count.0 (sym is.1) | inr time ↦ time.0 is.2 ] ]
