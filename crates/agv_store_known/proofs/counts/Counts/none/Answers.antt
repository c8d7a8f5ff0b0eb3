use Rattle.std.proofs.Common.{◌≡◌, sym}
use Rattle.std.specs.FinMap as finite
use Rattle.std.specs.FinSet as set
use Rattle.agv_header.specs.Key.{key_cmp}
use Rattle.agv_header.specs.Name.{name_cmp}
use Rattle.agv_stock.specs.declared.place.Place.{Place}
use Rattle.agv_world_core.specs.Questions.{count_of}
use Rattle.agv_world_core.specs.Worlds.{Vehicle, empty_world}
use Rattle.agv_world_core.specs.declared.floor.Counted.{Counted}
use Rattle.agv_world_core.specs.declared.floor.Counted.TheVariants as counted
use Rattle.agv_world_core.specs.declared.row.JobRow.{JobRow}
use Rattle.agv_store_known.specs.Counts.{count_in}
use Rattle.agv_store_known.specs.declared.counts.Counts.{Counts}
use Rattle.agv_store_known.proofs.counts.Counts.none.Goals as goal

abbrev no_counts : Counts
no_counts = record { vehicles = 0; loads = 0; jobs = 0; orders = 0; references = 0 }

none_counted : (what : Counted) → count_in no_counts what ≡ count_of empty_world what
unfolding count_of
none_counted counted.Vehicles = sym (finite.len-empty key_cmp Vehicle)
none_counted counted.Loads = sym (finite.len-empty name_cmp Place)
none_counted counted.Jobs = sym (finite.len-empty name_cmp JobRow)
none_counted counted.Orders = sym (set.len-empty name_cmp)
none_counted counted.References = sym (set.len-empty name_cmp)

pub returns : goal.returns
returns c = none_counted
