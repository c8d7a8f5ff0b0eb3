-- What the call that starts a drive leaves where it is not refused (VDA 5050 2.0, order; this project's profile).
use Rattle.std.specs.Prelude.{◌≡◌, ◌<◌, ℕ, true, List, length, None, Some}
use Rattle.std.specs.FinSet as set
use Rattle.agv_header.specs.Count.{next_number}
use Rattle.agv_header.specs.declared.key.VehicleKey.{VehicleKey}
use Rattle.agv_order.specs.Drives.{IsDriveTo}
use Rattle.agv_order.specs.declared.trip.Trip.{Trip}
use Rattle.agv_world_core.specs.ConsistentTrips.{IsVehicle}
use Rattle.agv_world_core.specs.Worlds.{World}
use Rattle.agv_world_core.specs.declared.row.VehicleRow.{VehicleRow}

-- the vehicle had no open trip, and has now, as the trip of this order, the drive from its node to the node `to` by the layout's route, over at least one edge; its own row is as before, except that one more order message is counted, at this moment; and the name of the order is used
pub record IsDriven (at : ℕ) (order : List ℕ) (key : VehicleKey) (to : List ℕ) (edges : ℕ) (old new : World) : Type 0 where
  pub row : VehicleRow
  pub number : ℕ
  pub trip : Trip
  pub idle : IsVehicle old key (record { row = row; trip = None })
  pub drives : IsDriveTo old.layout key order row.node to edges trip
  pub goes : 0 < length trip.edges
  pub next : next_number row.orders.count ≡ Some number
  pub sent : IsVehicle new key (record { row = record row { orders = record { count = number; at = at } }; trip = Some trip })
  pub used : set.contains new.orders order ≡ true
