use Rattle.agv_app_files.proofs.Stores.{ok_in_memory}
use Rattle.agv_app_files.proofs.memory_store.InMemoryStore.rollback_to.Goals as goal

pub returns-clause-ok : goal.returns-clause-ok
returns-clause-ok g c = rw c.in_memory.ensures (ok_in_memory _ c.rollback_to.result c.rollback_to.ensures.ok)
