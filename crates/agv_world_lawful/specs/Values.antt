-- What is true of the values in every table in memory: names are valid, and numbers are in the ranges of their types.
use Rattle.std.specs.Prelude.{◌≡◌, ℕ, ◌≤◌, true, List, Some}
use Rattle.std.specs.FinMap as finite
use Rattle.std.specs.FinSet as set
use Rattle.agv_header.specs.Name.{IsName}
use Rattle.agv_header.specs.declared.key.VehicleKey.{VehicleKey}
use Rattle.agv_layout.specs.declared.edge.EdgeEnds.{EdgeEnds}
use Rattle.agv_layout.specs.declared.station.StationSite.{StationSite}
use Rattle.agv_stock.specs.declared.place.Place.{Place}
use Rattle.agv_world_core.specs.Lawful.{IsKey}
use Rattle.agv_world_core.specs.declared.key.UseKey.{UseKey}
use Rattle.agv_world_core.specs.declared.row.JobRow.{JobRow}
use Rattle.agv_world_core.specs.declared.row.Sent.{Sent}
use Rattle.agv_world_core.specs.declared.row.VehicleRow.{VehicleRow}
use Rattle.agv_world_core.specs.declared.world.World.{World as Tables}

-- a count of 32 bits, and a moment before 2100
pub record IsSentValue (sent : Sent) : Type 0 where
  pub number : sent.count ≤ 4294967295
  pub moment : sent.at ≤ 4102444799999

-- the numbers of a vehicle's row are in their ranges, and the order that it has reported is a valid name
pub record IsVehicleValue (row : VehicleRow) : Type 0 where
  pub header : (number : ℕ) → row.last_header ≡ Some number → number ≤ 4294967295
  pub reported : (order : List ℕ) → row.reported ≡ Some order → IsName order
  pub orders : IsSentValue row.orders
  pub instants : IsSentValue row.instants

-- the names and the numbers of the tables are valid
pub record HasValues (tables : Tables) : Type 0 where
  pub nodes : (id : List ℕ) → set.contains tables.nodes id ≡ true → IsName id
  pub edges : (id : List ℕ) (ends : EdgeEnds) → finite.get tables.edges id ≡ Some ends → IsName id
  pub stations : (id : List ℕ) (site : StationSite) → finite.get tables.stations id ≡ Some site → IsName id
  pub keys : (key : VehicleKey) (row : VehicleRow) → finite.get tables.vehicles key ≡ Some row → IsKey key
  pub vehicles : (key : VehicleKey) (row : VehicleRow) → finite.get tables.vehicles key ≡ Some row → IsVehicleValue row
  pub loads : (load : List ℕ) (place : Place) → finite.get tables.loads load ≡ Some place → IsName load
  pub jobs : (job : List ℕ) (row : JobRow) → finite.get tables.jobs job ≡ Some row → IsName job
  pub used : (key : UseKey) → set.contains tables.used key ≡ true → IsName key.name
