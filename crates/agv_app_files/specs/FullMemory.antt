-- A store whose files are in memory: where they have no room, it is out of memory.
use Rattle.std.specs.Prelude.{◌≡◌, Result, Ok, Err}
use Rattle.sqlite_trees.specs.declared.error.StoreError.{StoreError}
use Rattle.sqlite_trees.specs.declared.error.StoreError.TheVariants.{OutOfMemory, Full}
use Rattle.sqlite_trees.specs.declared.store.Store.{Ghosts}
use Rattle.agv_app_files.specs.declared.memory_store.InMemory.{InMemory}

-- the store within it
abbrev pub store_of : {S : Type 0} → InMemory S → S
store_of s = s.store

-- no room is no memory
abbrev pub error_in_memory : StoreError → StoreError
error_in_memory Full = OutOfMemory
error_in_memory why = why

-- the outcome of a call, with that error
abbrev pub outcome_in_memory : {T : Type 0} → Result T StoreError → Result T StoreError
outcome_in_memory (Ok answer) = Ok answer
outcome_in_memory (Err why) = Err (error_in_memory why)

-- the error is one that the store within it names, with no room as no memory
abbrev pub IsNamedInMemory : (StoreError → Type 0) → StoreError → Type 0
IsNamedInMemory names why = (within : StoreError) × names within × (why ≡ error_in_memory within)

-- what clauses cite of its state: that of the store within it
abbrev pub in_memory : {S : Type 0} → Ghosts S → Ghosts (InMemory S)
in_memory g = record {
  view = λ s. g.view s.store;
  faults = λ s. g.faults s.store;
  recovers = λ s. g.recovers s.store;
  is_shielded = λ s. g.is_shielded s.store;
  is_step = λ old new. g.is_step old.store new.store;
  blamed = λ s. g.blamed s.store;
  names = λ old new. IsNamedInMemory (g.names old.store new.store);
}
