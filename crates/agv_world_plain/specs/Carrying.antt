-- The order by which a vehicle carries out a job: that of its open trip, if that has an unfinished drop of the job (this project's profile).
use Rattle.std.specs.Prelude.{ℕ, List, Option, None, Some}
use Rattle.std.specs.Bool.{then_some}
use Rattle.agv_order.specs.declared.trip.Trip.{Trip}
use Rattle.agv_world_core.specs.Carriers.{has_drop_of}

-- the name of the trip's order, if there is a trip and it has an unfinished drop of the job
abbrev pub order_dropping : List ℕ → Option Trip → Option (List ℕ)
order_dropping job None = None
order_dropping job (Some trip) = then_some (has_drop_of job (Some trip)) trip.order
