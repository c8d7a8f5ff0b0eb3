use Rattle.std.proofs.Common.{arith}
use Rattle.sqlite_trees.proofs.Doubt.{clean_of}
use Rattle.agv_app_files.proofs.Stores.{opens_empty}
use Rattle.agv_app_files.proofs.memory.connect.Goals as goal

pub returns-in-Ok-clause-empty : goal.returns-in-Ok-clause-empty
returns-in-Ok-clause-empty g c =
    λ now. let made = c.requires.nothing (clean_of (g.S.Store.view c.args.store).is_clean (omega (arith, c.in-Ok.ensures.clean, now))) in
    opens_empty g.S.Store c.in-Ok.conn _ made (c.in-Ok.ensures.trees now) (c.in-Ok.ensures.opens now)
