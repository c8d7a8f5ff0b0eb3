use Rattle.std.proofs.Common.{arith, subst, sym}
use Rattle.sqlite.specs.Files.{HoldsDatabase}
use Rattle.sqlite.proofs.FileLemmas.{same_image}
use Rattle.agv_app_files.proofs.FoundDatabases.{held_is_not_blank, map_ok}
use Rattle.agv_app_files.proofs.file.open_files.Goals as goal

pub returns-in-Ok-true-clause-found : goal.returns-in-Ok-true-clause-found
returns-in-Ok-true-clause-found g c =
    map_ok c.new_database.result
    (λ conn honest clean db held. absurd (held_is_not_blank _ db held _ (omega (arith, c.unwrap-size.result.smallest)) ((c.in-Ok-true.ensures.ok (honest clean)).0 c.in-Ok-true.field-0-test)))
    c.new_database.ensures.honest

pub returns-in-Ok-false-clause-found : goal.returns-in-Ok-false-clause-found
returns-in-Ok-false-clause-found g c =
    let read = c.probe_blank.ensures in
    map_ok c.open_existing.result
    (λ conn found clean db held. found clean db (subst (λ image. HoldsDatabase image db) (sym (same_image read.log read.db)) held))
    c.open_existing.ensures.found
