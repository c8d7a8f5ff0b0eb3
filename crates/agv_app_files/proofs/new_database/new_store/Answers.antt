use Rattle.std.proofs.Common.{ap, ◌∙◌}
use Rattle.sqlite_store.specs.Listed.{catalog_rows}
use Rattle.sqlite_store.specs.Listing.{listed_from}
use Rattle.agv_app_files.proofs.new_database.new_store.Goals as goal

pub returns-in-Ok-create-clause-empty : goal.returns-in-Ok-create-clause-empty
returns-in-Ok-create-clause-empty g c =
    λ clean. let made = c.in-Ok-create.ensures in (
      (λ tree low. ap (λ trees. trees tree) made.ready.clean ∙ made.empty clean tree low),
      rw clean (catalog_rows _ _ _ ∙ ap (listed_from 0) (made.schema ∙ c.in-Ok-new.ensures.schema)),
    )
