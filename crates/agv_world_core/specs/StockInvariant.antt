-- Derived, not the promise: the rules that join loads, jobs and trips, in the form that the proofs use: over the actions and the capacity of each vehicle. If the vehicles are lawful, it says the same as `HasLawfulLoads` of LawfulParts.antt (`lawful_laws`).
use Rattle.std.specs.Prelude.{◌≡◌, ◌≢◌, ℕ, ◌+◌, ◌≤◌, ◌&&◌, not, Bool, true, false, List, [], map, count_by, Option, None, Some}
use Rattle.std.specs.FinMap as finite
use Rattle.std.specs.List.{slice_get}
use Rattle.agv_header.specs.Limits.{most_records}
use Rattle.agv_header.specs.Name.{IsName, name_cmp}
use Rattle.agv_header.specs.declared.key.VehicleKey.{VehicleKey}
use Rattle.agv_layout.specs.Layout.{Layout, IsStation}
use Rattle.agv_layout.specs.declared.station.StationSite.{StationSite}
use Rattle.agv_message_core.specs.declared.order.ActKind.{ActKind}
use Rattle.agv_message_core.specs.declared.order.ActKind.TheVariants.{Pick, Drop}
use Rattle.agv_order.specs.Statuses.{is_finished}
use Rattle.agv_order.specs.Stops.{is_pick}
use Rattle.agv_order.specs.declared.act.Act.{Act}
use Rattle.agv_order.specs.declared.trip.Trip.{Trip}
use Rattle.agv_stock.specs.Phase.{is_live}
use Rattle.agv_stock.specs.Rooms.{is_at}
use Rattle.agv_stock.specs.declared.job.Phase.{Phase}
use Rattle.agv_stock.specs.declared.job.Phase.TheVariants as phase
use Rattle.agv_stock.specs.declared.place.Place.{Place}
use Rattle.agv_stock.specs.declared.place.Place.TheVariants as place
use Rattle.agv_world_core.specs.Lawful.{station_for}
use Rattle.agv_world_core.specs.Questions.{loads_on_vehicle, reserved_by}
use Rattle.agv_world_core.specs.Worlds.{Vehicle, World}
use Rattle.agv_world_core.specs.declared.row.JobRow.{JobRow}

-- ---- the part of a trip's acts that matters to loads

-- an act, with its status reduced to whether it is finished
pub record ActionView : Type 0 where
  pub kind : ActKind
  pub job : List ℕ
  pub load : List ℕ
  pub station : List ℕ
  pub finished : Bool

-- the view of an act
abbrev pub action_view : Act → ActionView
action_view act = record { kind = act.kind; job = act.job; load = act.load; station = act.station; finished = is_finished act.status }

-- the views of the acts, in their order
abbrev pub action_views : List Act → List ActionView
action_views acts = map action_view acts

-- the actions of the open trip, or none without one
abbrev pub action_views_by : Option Trip → List ActionView
action_views_by None = []
action_views_by (Some trip) = action_views trip.acts

-- the actions of the vehicle's open trip; none if the vehicle is unknown
abbrev pub action_views_for : Option Vehicle → List ActionView
action_views_for None = []
action_views_for (Some vehicle) = action_views_by vehicle.trip

-- the actions of the open trip of a vehicle of the world
abbrev pub action_views_of : World → VehicleKey → List ActionView
action_views_of world key = action_views_for (finite.get world.vehicles key)

-- the capacity of the vehicle, or 0 if it is unknown
abbrev pub capacity_for : Option Vehicle → ℕ
capacity_for None = 0
capacity_for (Some vehicle) = vehicle.row.capacity

-- the capacity of a vehicle of the world, or 0 if it is unknown
abbrev pub capacity_of : World → VehicleKey → ℕ
capacity_of world key = capacity_for (finite.get world.vehicles key)

-- a pick that is not finished
abbrev pub is_to_pick : ActionView → Bool
is_to_pick action_view = is_pick action_view.kind && not action_view.finished

-- the number of unfinished picks
abbrev pub to_pick : List ActionView → ℕ
to_pick carries = count_by is_to_pick carries

-- ---- loads and jobs, counted

-- the map of the places of loads
abbrev pub Places : Type 0
Places = finite.FinMap name_cmp Place

-- the map of jobs
abbrev pub Jobs : Type 0
Jobs = finite.FinMap name_cmp JobRow

-- the number of loads at a station
abbrev pub stored : Places → List ℕ → ℕ
stored places station = count_by (λ (load : List ℕ × Place). is_at station load.1) (finite.entries places)

-- ---- the rules

-- the station of a place is in the layout
abbrev pub IsKnownPlace : Layout → Place → Type 0
IsKnownPlace layout (place.Station id) = (site : StationSite) × IsStation layout id site
IsKnownPlace layout (place.Vehicle key) = Unit {0}
IsKnownPlace layout place.Checking = Unit {0}
IsKnownPlace layout place.Left = Unit {0}

-- the load and the stations of the job are known
pub record IsJobOn (layout : Layout) (places : Places) (row : JobRow) : Type 0 where
  pub load : (place : Place) × (finite.get places row.load ≡ Some place)
  pub origin : (site : StationSite) × IsStation layout row.origin site
  pub target : (site : StationSite) × IsStation layout row.target site

-- the phase of an action's job, and where its load is:
-- an unfinished pick has its job riding and the load at its station;
-- a finished pick has a job that is not waiting, and the load on the vehicle while the job rides;
-- an unfinished drop has its job riding; a finished drop has its job done
abbrev pub ActStands : Places → VehicleKey → List ℕ → List ℕ → ActKind → Bool → Phase → Type 0
ActStands places key load station Pick false stage = (stage ≡ phase.Riding) × (finite.get places load ≡ Some (place.Station station))
ActStands places key load station Pick true stage = (stage ≢ phase.Waiting) × (stage ≡ phase.Riding → finite.get places load ≡ Some (place.Vehicle key))
ActStands places key load station Drop false stage = stage ≡ phase.Riding
ActStands places key load station Drop true stage = stage ≡ phase.Done

-- the job of an action exists, with the action's load and station, and `ActStands` is true of them
pub record IsCarried (places : Places) (jobs : Jobs) (key : VehicleKey) (action_view : ActionView) : Type 0 where
  pub row : JobRow
  pub here : finite.get jobs action_view.job ≡ Some row
  pub load : row.load ≡ action_view.load
  pub station : station_for action_view.kind row ≡ action_view.station
  pub stands : ActStands places key action_view.load action_view.station action_view.kind action_view.finished row.phase

-- some vehicle has an unfinished drop of the job
pub record IsCarriedOn (carries : VehicleKey → List ActionView) (job : List ℕ) : Type 0 where
  pub key : VehicleKey
  pub k : ℕ
  pub action_view : ActionView
  pub here : slice_get (carries key) k ≡ Some action_view
  pub drop : action_view.kind ≡ Drop
  pub of_job : action_view.job ≡ job
  pub undone : action_view.finished ≡ false

-- the rules of loads and jobs, over the actions and the capacity of each vehicle
pub record StockInvariant (layout : Layout) (carries : VehicleKey → List ActionView) (capacity : VehicleKey → ℕ) (places : Places) (jobs : Jobs) : Type 0 where
  pub few_loads : finite.len places ≤ most_records
  pub few_jobs : finite.len jobs ≤ most_records
  pub loads_named : (load : List ℕ) (place : Place) → finite.get places load ≡ Some place → IsName load
  pub jobs_named : (job : List ℕ) (row : JobRow) → finite.get jobs job ≡ Some row → IsName job
  pub known_places : (load : List ℕ) (place : Place) → finite.get places load ≡ Some place → IsKnownPlace layout place
  pub known : (job : List ℕ) (row : JobRow) → finite.get jobs job ≡ Some row → IsJobOn layout places row
  pub room : (station : List ℕ) (site : StationSite) → IsStation layout station site → stored places station + reserved_by jobs station ≤ site.capacity
  pub within_capacity : (key : VehicleKey) → loads_on_vehicle places key + to_pick (carries key) ≤ capacity key
  pub one_job : (one other : List ℕ) (row further : JobRow) → finite.get jobs one ≡ Some row → finite.get jobs other ≡ Some further → is_live row.phase ≡ true → is_live further.phase ≡ true → row.load ≡ further.load → one ≡ other
  pub waiting : (job : List ℕ) (row : JobRow) → finite.get jobs job ≡ Some row → row.phase ≡ phase.Waiting → finite.get places row.load ≡ Some (place.Station row.origin)
  pub riding : (job : List ℕ) (row : JobRow) → finite.get jobs job ≡ Some row → row.phase ≡ phase.Riding → IsCarriedOn carries job
  pub carried : (key : VehicleKey) (k : ℕ) (action_view : ActionView) → slice_get (carries key) k ≡ Some action_view → IsCarried places jobs key action_view
  pub once : (one other : VehicleKey) (i k : ℕ) (action_view more : ActionView) → slice_get (carries one) i ≡ Some action_view → slice_get (carries other) k ≡ Some more → action_view.job ≡ more.job → (one ≡ other) × (action_view.kind ≡ more.kind → i ≡ k)

-- the rules of loads and jobs, for the trips and capacities of the world
abbrev pub HasStockInvariant : World → Type 0
HasStockInvariant world = StockInvariant world.layout (action_views_of world) (capacity_of world) world.places world.jobs
