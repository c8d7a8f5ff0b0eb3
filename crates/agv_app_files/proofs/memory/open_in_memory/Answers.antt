use Rattle.std.proofs.Common.{IsTrue, subst, sym}
use Rattle.sqlite_store.specs.FileStore.{view}
use Rattle.sqlite.specs.Files.{IsEmpty as HaveNothing}
use Rattle.agv_app_files.proofs.FoundDatabases.{map_ok}
use Rattle.agv_app_files.proofs.Stores.{memory_is_clean}
use Rattle.agv_app_files.proofs.memory.open_in_memory.Goals as goal

pub connect-requires-clause-nothing : goal.connect-requires-clause-nothing
connect-requires-clause-nothing c =
    subst (λ store. IsTrue (view store).is_clean → HaveNothing (view store).trees) (sym c.new-in-Ok.ensures) c.in-Ok.ensures.empty

pub returns-in-Ok-clause-empty : goal.returns-in-Ok-clause-empty
returns-in-Ok-clause-empty c = map_ok c.connect.result (λ conn empty. empty (memory_is_clean conn)) c.connect.ensures.empty
