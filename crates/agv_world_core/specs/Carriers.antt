-- The vehicle that carries out a job: the one whose open trip has an unfinished drop of it (this project's profile).
use Rattle.std.specs.Prelude.{ℕ, ◌&&◌, nat_eq, Bool, false, List, find, Option, None, Some}
use Rattle.std.specs.Cmp.Lexicographic.{pointwise}
use Rattle.std.specs.FinMap as finite
use Rattle.std.specs.List.{list_any}
use Rattle.std.specs.Option.{option_map, option_and_then}
use Rattle.agv_header.specs.declared.key.VehicleKey.{VehicleKey}
use Rattle.agv_order.specs.declared.act.Act.{Act}
use Rattle.agv_order.specs.declared.trip.Trip.{Trip}
use Rattle.agv_world_core.specs.Lawful.{is_to_drop}
use Rattle.agv_world_core.specs.Worlds.{Vehicle, World}
use Rattle.agv_world_core.specs.declared.floor.Carrier.{Carrier}

-- the act is an unfinished drop of the job
abbrev pub is_drop_of : List ℕ → Act → Bool
is_drop_of job act = is_to_drop act && pointwise nat_eq act.job job

-- the trip, if there is one, has an unfinished drop of the job
abbrev pub has_drop_of : List ℕ → Option Trip → Bool
has_drop_of job None = false
has_drop_of job (Some trip) = list_any (is_drop_of job) trip.acts

-- a vehicle of the world, and the name of the order of its open trip, if it has one
abbrev pub carrier_by : VehicleKey × Vehicle → Option Carrier
carrier_by vehicle = option_map (λ (trip : Trip). record { vehicle = vehicle.0; order = trip.order }) vehicle.1.trip

-- the vehicle whose open trip has an unfinished drop of the job, with the name of that order: the first one by its key
unfoldable pub carrier_of : World → List ℕ → Option Carrier
carrier_of world job = option_and_then carrier_by (find (λ (vehicle : VehicleKey × Vehicle). has_drop_of job vehicle.1.trip) (finite.entries world.vehicles))
