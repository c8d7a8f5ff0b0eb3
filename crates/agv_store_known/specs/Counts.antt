-- The counts that are cached beside the tables.
use Rattle.std.specs.Prelude.{ℕ}
use Rattle.agv_world_core.specs.declared.floor.Counted.{Counted}
use Rattle.agv_world_core.specs.declared.floor.Counted.TheVariants as counted
use Rattle.agv_store_known.specs.declared.counts.Counts.{Counts}

-- the count of that kind
abbrev pub count_in : Counts → Counted → ℕ
count_in counts counted.Vehicles = counts.vehicles
count_in counts counted.Loads = counts.loads
count_in counts counted.Jobs = counts.jobs
count_in counts counted.Orders = counts.orders
count_in counts counted.References = counts.references
