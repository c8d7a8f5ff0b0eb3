-- The room left at stations that is cached beside the tables, and how a written row lowers it.
use Rattle.std.specs.Prelude.{◌≡◌, ◌+◌, ◌≤◌, ℕ, nat_eq, cond, List, Option, None, Some, if◌then◌else◌}
use Rattle.std.specs.BTreeMap as tree
use Rattle.std.specs.Cmp.Lexicographic.{pointwise}
use Rattle.std.specs.FinMap as finite
use Rattle.agv_header.specs.Name.{name_cmp}
use Rattle.agv_layout.specs.declared.station.StationSite.{StationSite}
use Rattle.agv_stock.specs.Phase.{is_live}
use Rattle.agv_world_core.specs.Maps.{Maps}
use Rattle.agv_world_core.specs.Questions.{reserved_by}
use Rattle.agv_world_core.specs.StockInvariant.{stored}
use Rattle.agv_world_core.specs.declared.change.Change.{Change}
use Rattle.agv_world_core.specs.declared.change.Change.TheVariants as row
use Rattle.agv_stock.specs.Rooms.{station_of_place}

-- stations, each with a number of loads
abbrev pub RoomsLeft : Type 0
RoomsLeft = tree.BTreeMap (List ℕ) ℕ

-- this many more loads fit within the station's capacity, besides the loads at the station and those of the live jobs to it
abbrev pub IsRoomLeft : Maps → List ℕ → ℕ → Type 0
IsRoomLeft maps station room =
    (site : StationSite) × (finite.get maps.stations station ≡ Some site) × (stored maps.loads station + reserved_by maps.jobs station + room ≤ site.capacity)

-- each cached number of loads still fits at its station
abbrev pub AreLeft : RoomsLeft → Maps → Type 0
AreLeft rooms maps = (station : List ℕ) (room : ℕ) → tree.get name_cmp rooms station ≡ Some room → IsRoomLeft maps station room

-- each number in the new map was in the old one, larger by at least one at this station, and at least as large at the others
abbrev pub IsLowered : RoomsLeft → RoomsLeft → List ℕ → Type 0
IsLowered old new station =
    (other : List ℕ) (room : ℕ) → tree.get name_cmp new other ≡ Some room
    → (before : ℕ) × (tree.get name_cmp old other ≡ Some before) × (room + cond (pointwise nat_eq station other) 1 0 ≤ before)

-- the station where a written row puts a load, or to which it has a live job
abbrev pub takes_room_at : Change → Option (List ℕ)
takes_room_at (row.Node id) = None
takes_room_at (row.Edge id ends) = None
takes_room_at (row.Station id site) = None
takes_room_at (row.Vehicle key vehicle) = None
takes_room_at (row.Trip order trip) = None
takes_room_at (row.Leg key edge) = None
takes_room_at (row.Load id place) = station_of_place (Some place)
takes_room_at (row.Job id job) = if is_live job.phase then Some job.target else None
takes_room_at (row.Hold thing key) = None
takes_room_at (row.Used key) = None
