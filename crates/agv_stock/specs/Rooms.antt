-- The places of loads, and the room that a station has left (this project's profile).
use Rattle.std.specs.Prelude.{ℕ, ◌-◌, ◌&&◌, nat_eq, Bool, true, false, List, Option, None, Some, count_by}
use Rattle.std.specs.Cmp.Lexicographic.{pointwise}
use Rattle.agv_header.specs.KeyOrder.{key_eq}
use Rattle.agv_header.specs.declared.key.VehicleKey.{VehicleKey}
use Rattle.agv_layout.specs.declared.station.Station.{Station as StationOf}
use Rattle.agv_stock.specs.Phase.{is_live}
use Rattle.agv_stock.specs.declared.job.Job.{Job}
use Rattle.agv_stock.specs.declared.place.Place.{Place}
use Rattle.agv_stock.specs.declared.place.Place.TheVariants.{Station, Vehicle, Checking, Left}

-- the place is the station of this name
abbrev pub is_at : List ℕ → Place → Bool
is_at name (Station id) = pointwise nat_eq id name
is_at name (Vehicle key) = false
is_at name Checking = false
is_at name Left = false

-- the place is this vehicle
abbrev pub is_on : VehicleKey → Place → Bool
is_on key (Station id) = false
is_on key (Vehicle by) = key_eq by key
is_on key Checking = false
is_on key Left = false

-- the place is the checking place
abbrev pub is_checking : Place → Bool
is_checking (Station id) = false
is_checking (Vehicle key) = false
is_checking Checking = true
is_checking Left = false

-- the load has left the warehouse
abbrev pub has_left : Place → Bool
has_left (Station id) = false
has_left (Vehicle key) = false
has_left Checking = false
has_left Left = true

-- the station where a load stands, if it stands at one
abbrev pub station_of_place : Option Place → Option (List ℕ)
station_of_place None = None
station_of_place (Some (Station id)) = Some id
station_of_place (Some (Vehicle key)) = None
station_of_place (Some Checking) = None
station_of_place (Some Left) = None

-- the job is live and goes to the station of this name
abbrev pub goes_to : List ℕ → Job → Bool
goes_to name job = is_live job.phase && pointwise nat_eq job.target name

-- the room left: the capacity, less the loads there, less the live jobs to it, and 0 if that is negative
abbrev pub room_left : ℕ → ℕ → ℕ → ℕ
room_left capacity loads jobs = capacity - loads - jobs

-- the room left at a station, given these loads and jobs
abbrev pub room_of : StationOf → List (List ℕ × Place) → List Job → ℕ
room_of station places jobs =
    room_left station.capacity (count_by (λ (load : List ℕ × Place). is_at station.id load.1) places) (count_by (goes_to station.id) jobs)
