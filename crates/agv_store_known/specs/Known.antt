-- What a desk knows beside its tables, and when that is true.
use Rattle.std.specs.Prelude.{◌≡◌, ◌≢◌, ◌+◌, ◌<◌, ℕ, List, Option}
use Rattle.agv_world_core.specs.Changes.{changed}
use Rattle.agv_world_core.specs.Counts.{limit_of, one_more}
use Rattle.agv_world_core.specs.Questions.{count_of}
use Rattle.agv_world_core.specs.Maps.{Maps, maps_of}
use Rattle.agv_world_core.specs.Worlds.{World}
use Rattle.agv_world_core.specs.declared.change.Change.{Change}
use Rattle.agv_world_core.specs.declared.floor.Counted.{Counted}
use Rattle.agv_store_known.specs.Counts.{count_in}
use Rattle.agv_store_known.specs.KeptJobs.{AreJobs}
use Rattle.agv_store_known.specs.KeptLayouts.{IsLayoutOf}
use Rattle.agv_store_known.specs.KeptRooms.{AreLeft}
use Rattle.agv_store_known.specs.KeptTrips.{AreTrips}
use Rattle.agv_store_known.specs.KeptVehicles.{AreVehicles}
use Rattle.agv_store_known.specs.declared.known.Known.{Known}

-- what is known is true of these maps, with these counts
pub record IsKnown (known : Known) (count : Counted → ℕ) (maps : Maps) : Type 0 where
  pub counted : (what : Counted) → count_in known.counts what ≡ count what
  -- a cached layout is the maps'
  pub agrees : IsLayoutOf known.layout maps
  -- the cached room is left at the stations
  pub fits : AreLeft known.rooms maps
  -- the maps have each cached trip, and no trip of a vehicle that is known to have none
  pub trips_are : AreTrips known.trips maps
  -- a cached row is that of its vehicle
  pub vehicles_are : AreVehicles known.vehicles maps
  -- the cached jobs, if any, are the live ones
  pub jobs_are : AreJobs known.jobs maps

-- what is known is true of this world
abbrev pub IsKnownIn : Known → World → Type 0
IsKnownIn known world = IsKnown known (count_of world) (maps_of world)

-- if what was known is true of a world, what is known then is true of the world after these changes, in which there is one more of this kind, if any, which was below its limit
abbrev pub Follows : Option Counted → List Change → Known → Known → Type 0
Follows more changes known known_then =
    (world next : World) → changed changes (maps_of world) ≡ maps_of next
    → ((what : Counted) → one_more more what ≢ 0 → count_of world what < limit_of what)
    → ((what : Counted) → count_of next what ≡ count_of world what + one_more more what)
    → IsKnownIn known world → IsKnownIn known_then next
