-- The ranges that the types give the values of every row of the world: ids are valid names, numbers and times are in range.
use Rattle.std.specs.Prelude.{ℕ, ◌≤◌, IfSome}
use Rattle.agv_header.specs.Name.{IsName}
use Rattle.agv_header.specs.declared.key.Thing.{Thing}
use Rattle.agv_header.specs.declared.key.Thing.TheVariants as thing
use Rattle.agv_layout.specs.declared.edge.EdgeEnds.{EdgeEnds}
use Rattle.agv_layout.specs.declared.station.StationSite.{StationSite}
use Rattle.agv_stock.specs.declared.place.Place.{Place}
use Rattle.agv_stock.specs.declared.place.Place.TheVariants as place
use Rattle.agv_world_core.specs.Lawful.{IsKey}
use Rattle.agv_world_core.specs.declared.key.LegKey.{LegKey}
use Rattle.agv_world_core.specs.declared.row.JobRow.{JobRow}
use Rattle.agv_world_core.specs.declared.row.Sent.{Sent}
use Rattle.agv_world_core.specs.declared.row.VehicleRow.{VehicleRow}
use Rattle.agv_store_rows.specs.declared.act_key.ActKey.{ActKey}
use Rattle.agv_store_rows.specs.declared.act_row.ActRow.{ActRow}
use Rattle.agv_store_rows.specs.declared.journey_row.JourneyRow.{JourneyRow}

-- a number of 32 bits
abbrev pub IsNumber : ℕ → Type 0
IsNumber n = n ≤ 4294967295

-- the ends of an edge have valid names
abbrev pub AreEnds : EdgeEnds → Type 0
AreEnds ends = IsName ends.start × IsName ends.finish

-- the node of a station has a valid name, and its capacity is a number of 32 bits
abbrev pub IsStationSite : StationSite → Type 0
IsStationSite site = IsName site.node × IsNumber site.capacity

-- the count and the time of the last message sent are in range
abbrev pub IsSending : Sent → Type 0
IsSending sent = IsNumber sent.count × (sent.at ≤ 4102444799999)

-- the values of a vehicle's row are in range
pub record IsVehicleRow (row : VehicleRow) : Type 0 where
  pub capacity : IsNumber row.capacity
  pub node : IsName row.node
  pub rest : IfSome row.rest (λ rest. IsName rest.0 × IsName rest.1)
  pub last_header : IfSome row.last_header IsNumber
  pub reported : IfSome row.reported IsName
  pub orders : IsSending row.orders
  pub instants : IsSending row.instants

-- the values of a journey's row are in range
pub record IsJourneyRow (row : JourneyRow) : Type 0 where
  pub vehicle : IsKey row.vehicle
  pub start : IsName row.start
  pub first : IsNumber row.first
  pub base : IsNumber row.base
  pub sent : IsNumber row.sent
  pub confirmed : IfSome row.confirmed IsNumber
  pub seen : IsNumber row.seen

-- the values of an act's row are in range
pub record IsActRow (row : ActRow) : Type 0 where
  pub job : IsName row.job
  pub place_at : IsNumber row.place_at

-- the key of an act of an open trip is in range
abbrev pub IsActRowKey : ActKey → Type 0
IsActRowKey key = IsName key.order × IsNumber key.n

-- the key of an edge of an open trip is in range
abbrev pub IsLegKey : LegKey → Type 0
IsLegKey key = IsName key.order × IsNumber key.k

-- the station or the vehicle of a load's place has valid names
abbrev pub IsPlace : Place → Type 0
IsPlace (place.Station station) = IsName station
IsPlace (place.Vehicle key) = IsKey key
IsPlace place.Checking = Unit {0}
IsPlace place.Left = Unit {0}

-- the ids in a job's row are valid names
pub record IsJobRow (job : JobRow) : Type 0 where
  pub load : IsName job.load
  pub origin : IsName job.origin
  pub target : IsName job.target

-- the node or edge has a valid name
abbrev pub IsThing : Thing → Type 0
IsThing (thing.Node id) = IsName id
IsThing (thing.Edge id) = IsName id
