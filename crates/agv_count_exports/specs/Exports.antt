-- The exact bytes of the exports of jobs and vehicles (this project's formats).
use Rattle.std.specs.Prelude.{ℕ, Bool, true, false, List, [], ◌++◌, map, length, filter, find, codes, decimal, Option, None, Some, is_some}
use Rattle.std.specs.FinMap as finite
use Rattle.std.specs.List.{flat_map}
use Rattle.std.specs.Option.{option_map}
use Rattle.agv_header.specs.declared.key.VehicleKey.{VehicleKey}
use Rattle.agv_message_core.specs.Instant.{instant_name}
use Rattle.agv_count.specs.Reports.{line}
use Rattle.agv_order.specs.declared.trip.Trip.{Trip}
use Rattle.agv_stock.specs.Phase.{is_live, phase_name}
use Rattle.agv_world_core.specs.Carriers.{has_drop_of}
use Rattle.agv_world_core.specs.Worlds.{Vehicle, World}
use Rattle.agv_world_core.specs.declared.floor.Carrier.{Carrier}
use Rattle.agv_world_core.specs.declared.row.JobRow.{JobRow}
use Rattle.agv_world_core.specs.declared.row.VehicleRow.{VehicleRow}
use Rattle.agv_count_exports.specs.declared.told.VehicleTold.{VehicleTold}

-- ---- what is told

-- the vehicles of a world, each with its row and its open trip, if any, in the order of their keys
abbrev pub vehicles_told : World → List VehicleTold
vehicles_told world = map (λ (entry : VehicleKey × Vehicle). record { key = entry.0; row = entry.1.row; trip = entry.1.trip }) (finite.entries world.vehicles)

-- the live jobs of a world, in the order of their names
abbrev pub jobs_told : World → List (List ℕ × JobRow)
jobs_told world = filter (λ (job : List ℕ × JobRow). is_live job.1.phase) (finite.entries world.jobs)

-- ---- fields

-- a comma, and then the field
abbrev pub after_comma : List ℕ → List ℕ
after_comma field = codes "," ++ field

-- the text of a value, or nothing without one
abbrev pub or_empty : {A : Type 0} → (A → List ℕ) → Option A → List ℕ
or_empty text None = []
or_empty text (Some value) = text value

-- `true` or `false`
abbrev pub truth_word : Bool → List ℕ
truth_word true = codes "true"
truth_word false = codes "false"

-- ---- jobs

-- the vehicle whose open trip has an unfinished drop of the job, if any: the first one of the list
abbrev pub carrier_of : List VehicleTold → List ℕ → Option VehicleTold
carrier_of vehicles job = find (λ (vehicle : VehicleTold). has_drop_of job vehicle.trip) vehicles

-- the vehicle, with the name of its open trip's order; none if it has no open trip
abbrev pub as_carrier : VehicleTold → Option Carrier
as_carrier vehicle = option_map (λ (trip : Trip). record { vehicle = vehicle.key; order = trip.order }) vehicle.trip

-- the name of a trip's order, if there is a trip
abbrev pub order_name : Option Trip → List ℕ
order_name held = or_empty (λ (trip : Trip). trip.order) held

-- the fields `manufacturer,serialNumber,order` of a job: empty without a vehicle
abbrev pub carrier_text : Option VehicleTold → List ℕ
carrier_text None = codes ",,"
carrier_text (Some vehicle) = vehicle.key.manufacturer ++ (after_comma vehicle.key.serial ++ after_comma (order_name vehicle.trip))

-- the fields of a job that its row has, as `J1,L1,A,B,riding`
abbrev pub job_text : List ℕ × JobRow → List ℕ
job_text job = job.0 ++ (after_comma job.1.load ++ (after_comma job.1.origin ++ (after_comma job.1.target ++ after_comma (phase_name job.1.phase))))

-- the line of a job, as `J1,L1,A,B,riding,KIT,0001,O1` or `J2,L2,A,B,waiting,,,`
abbrev pub job_line : List VehicleTold → List ℕ × JobRow → List ℕ
job_line vehicles job = line (job_text job ++ after_comma (carrier_text (carrier_of vehicles job.0)))

-- the export of jobs: the header, and a line for each job
abbrev pub jobs_text : List (List ℕ × JobRow) → List VehicleTold → List ℕ
jobs_text jobs vehicles = line (codes "job,load,from,to,phase,manufacturer,serialNumber,order") ++ flat_map (job_line vehicles) jobs

-- ---- vehicles

-- the fields of a vehicle's row, as `N1,1,true,false,false,2,startPause`: the node, the capacity, whether it is ready, paused and astray, the number of its last state, and the pending instant action
abbrev pub row_text : VehicleRow → List ℕ
row_text row = row.node ++ (after_comma (decimal row.capacity) ++ (after_comma (truth_word row.ready) ++ (after_comma (truth_word row.paused) ++ (after_comma (truth_word (is_some row.rest)) ++ (after_comma (or_empty decimal row.last_header) ++ after_comma (or_empty instant_name row.pending))))))

-- the fields of an open trip, as `O1,0,0,1,2,0`: the order, the updates that were sent and confirmed, the number of released edges, the number of all edges, and the number of edges behind the vehicle; empty without a trip
abbrev pub trip_text : Option Trip → List ℕ
trip_text None = codes ",,,,,"
trip_text (Some trip) = trip.order ++ (after_comma (decimal trip.sent) ++ (after_comma (or_empty decimal trip.confirmed) ++ (after_comma (decimal trip.base) ++ (after_comma (decimal (length trip.edges)) ++ after_comma (decimal trip.seen)))))

-- the edge and the node of a rest, as `E12,N2`: empty without one
abbrev pub rest_text : Option (List ℕ × List ℕ) → List ℕ
rest_text None = codes ","
rest_text (Some rest) = rest.0 ++ after_comma rest.1

-- the line of a vehicle, as `KIT,0001,N1,1,true,false,false,2,,O1,0,0,1,2,0,,`
abbrev pub vehicle_line : VehicleTold → List ℕ
vehicle_line vehicle = line (vehicle.key.manufacturer ++ (after_comma vehicle.key.serial ++ (after_comma (row_text vehicle.row) ++ (after_comma (trip_text vehicle.trip) ++ after_comma (rest_text vehicle.row.rest)))))

-- the export of vehicles: the header, and a line for each vehicle
abbrev pub vehicles_text : List VehicleTold → List ℕ
vehicles_text vehicles = line (codes "manufacturer,serialNumber,node,capacity,ready,paused,astray,headerId,pending,order,sent,confirmed,released,edges,seen,restEdge,restNode") ++ flat_map vehicle_line vehicles
