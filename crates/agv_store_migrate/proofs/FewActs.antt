-- The open trips of a lawful world of the first schema have two acts each.
use Rattle.std.proofs.Common.{◌≡◌, ◌≤◌, ℕ, List, length, sym, ap, subst, arith}
use Rattle.std.specs.FinMap as finite
use Rattle.std.specs.Cmp.Lexicographic.{nat_list_cmp_total}
use Rattle.agv_world_core.specs.Kept.{Keeps}
use Rattle.agv_world_core.specs.Lawful.{IsLawful}
use Rattle.agv_world_core.specs.Maps.{Maps, maps_of}
use Rattle.agv_world_core.specs.Worlds.{World}
use Rattle.agv_world_core.specs.declared.row.TripRow.{TripRow}
use Rattle.agv_world_core.specs.declared.world.World.{World as Tables}
use Rattle.sqlite_trees.proofs.ListLemmas.{all_weaker}
use Rattle.agv_store_schema.proofs.SpreadRows.{entries_found}
use Rattle.agv_store_migrate.specs.FirstRows.{ServesJobs}
use Rattle.agv_store_migrate.specs.MoveStatements.{HaveFewActs}
use Rattle.agv_store_migrate.proofs.CarriedSingly.{IsTripOfJob, StopsTwice, lawful_single}

two_acts : (maps : Maps) (order : List ℕ) (trip : TripRow) → IsTripOfJob maps order trip → length trip.acts ≤ 4294967296
two_acts maps order trip it = let two : length trip.acts ≡ 2 = sym (ap (λ (t : TripRow). length t.acts) it.told) in omega (arith, two)

pub few_acts : StopsTwice → (tables : Tables) (world : World) → IsLawful 1 world → ServesJobs world → Keeps tables world → HaveFewActs tables.trips
few_acts twice tables world lawful served keeps =
    let maps = maps_of world in
    let single = lawful_single twice world lawful served in
    subst HaveFewActs (sym keeps.trips) (all_weaker _ _ (λ e at. two_acts maps e.0 e.1 (single.trips e.0 e.1 at)) (finite.entries maps.trips) (entries_found nat_list_cmp_total maps.trips))
