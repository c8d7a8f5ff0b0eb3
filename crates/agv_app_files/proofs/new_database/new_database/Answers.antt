use Rattle.std.proofs.Common.{arith}
use Rattle.sqlite.specs.Files.{over_files}
use Rattle.sqlite_store.specs.FileStore.{view}
use Rattle.sqlite_trees.proofs.Doubt.{clean_of}
use Rattle.agv_app_files.proofs.Stores.{opens_empty}
use Rattle.agv_app_files.proofs.new_database.new_database.Goals as goal

pub returns-in-Ok-clause-empty : goal.returns-in-Ok-clause-empty
returns-in-Ok-clause-empty g c =
    λ now. let made = c.in_ok-store.ensures.empty (clean_of (view c.in_ok-store.store).is_clean (omega (arith, c.in-Ok.ensures.clean, now))) in
    opens_empty over_files c.in-Ok.conn _ made (c.in-Ok.ensures.trees now) (c.in-Ok.ensures.opens now)

pub returns-in-Ok-clause-guarded : goal.returns-in-Ok-clause-guarded
returns-in-Ok-clause-guarded g c =
    λ now. c.in-Ok.ensures.shield (c.in_ok-store.ensures.guarded (clean_of (view c.in_ok-store.store).is_clean (omega (arith, c.in-Ok.ensures.clean, now))))

pub returns-in-Ok-clause-honest : goal.returns-in-Ok-clause-honest
returns-in-Ok-clause-honest g c =
    λ now. c.in_ok-store.ensures.honest (clean_of (view c.in_ok-store.store).is_clean (omega (arith, c.in-Ok.ensures.clean, now)))
