-- The live jobs that are cached beside the tables.
use Rattle.std.specs.Prelude.{◌≡◌, ℕ, List, Option, None, Some, if◌then◌else◌}
use Rattle.std.specs.FinMap as finite
use Rattle.agv_header.specs.Name.{name_cmp}
use Rattle.agv_stock.specs.Phase.{is_live}
use Rattle.agv_world_core.specs.Maps.{Maps}
use Rattle.agv_world_core.specs.declared.row.JobRow.{JobRow}

-- jobs, each with its row
abbrev pub JobsOf : Type 0
JobsOf = finite.FinMap name_cmp JobRow

-- the row of a job if it is live
abbrev pub if_live : Option JobRow → Option JobRow
if_live None = None
if_live (Some job) = if is_live job.phase then Some job else None

-- the first are exactly the live ones of the second
abbrev pub AreLive : JobsOf → JobsOf → Type 0
AreLive live jobs = (name : List ℕ) → finite.get live name ≡ if_live (finite.get jobs name)

-- the cached jobs, if any, are exactly the live jobs of these maps
abbrev pub AreJobs : Option JobsOf → Maps → Type 0
AreJobs None maps = Unit {0}
AreJobs (Some live) maps = AreLive live maps.jobs
