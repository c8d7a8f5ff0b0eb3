use Rattle.std.proofs.Common.{subst, sym}
use Rattle.sqlite.specs.Files.{HoldsDatabase}
use Rattle.sqlite.proofs.FileLemmas.{same_image}
use Rattle.agv_app_files.proofs.file.open_existing.Goals as goal

pub returns-in-Ok-clause-found : goal.returns-in-Ok-clause-found
returns-in-Ok-clause-found g c =
    λ clean db held. let read = c.in_ok-options.ensures in
    (c.in-Ok.ensures.found clean).holds db (subst (λ image. HoldsDatabase image db) (sym (same_image read.log read.db)) held)
