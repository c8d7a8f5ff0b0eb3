-- What the desk knows (this project's profile; VDA 5050 2.0: order, state).
use Rattle.std.specs.Prelude.{Option}
use Rattle.std.specs.FinMap as map
use Rattle.std.specs.FinSet as set
use Rattle.agv_header.specs.Key.{key_cmp}
use Rattle.agv_header.specs.Name.{name_cmp}
use Rattle.agv_layout.specs.Layout.{Layout}
use Rattle.agv_order.specs.declared.trip.Trip.{Trip}
use Rattle.agv_stock.specs.declared.place.Place.{Place}
use Rattle.agv_world_core.specs.declared.row.JobRow.{JobRow}
use Rattle.agv_world_core.specs.declared.row.VehicleRow.{VehicleRow}

-- a vehicle: its row, and its open trip if it has one
pub record Vehicle : Type 0 where
  pub row : VehicleRow
  pub trip : Option Trip

-- what the desk knows: the layout, which has no node before it is set; the vehicles; where each load is; the jobs; and the names of orders and the references that were used
pub record World : Type 0 where
  pub layout : Layout
  pub vehicles : map.FinMap key_cmp Vehicle
  pub places : map.FinMap name_cmp Place
  pub jobs : map.FinMap name_cmp JobRow
  pub orders : set.FinSet name_cmp
  pub references : set.FinSet name_cmp

-- the layout before it is set
abbrev pub empty_layout : Layout
empty_layout = record { nodes = set.empty; edges = map.empty; stations = map.empty }

-- the world of a desk that knows nothing yet
abbrev pub empty_world : World
empty_world = record {
  layout = empty_layout;
  vehicles = map.empty;
  places = map.empty;
  jobs = map.empty;
  orders = set.empty;
  references = set.empty;
}
