-- A store in memory: it is always clean, and no call of this crate shuts it.
use Rattle.std.proofs.Common.{inl, inr, arith}
use Rattle.sqlite_trees.specs.declared.memory.MemStore.{MemStore}
use Rattle.sqlite.specs.Held.{Held}
use Rattle.sqlite.specs.Steps.{over_memory}
use Rattle.sqlite.proofs.Callers as sqlite
use Rattle.agv_store_schema.specs.Connections.{IsClean, IsLater, IsOpen}

pub memory_is_clean : (held : Held MemStore) → IsClean over_memory held
memory_is_clean held = sqlite.memory_is_clean held

-- it is never shut
pub memory_stays_open : (old new : Held MemStore) → IsLater over_memory old new → IsOpen over_memory old → IsOpen over_memory new
memory_stays_open old new later open_before = elim (later.closes (memory_is_clean new) open_before) [ inl still ↦ still | inr fault ↦ absurd (omega (arith, fault)) ]
