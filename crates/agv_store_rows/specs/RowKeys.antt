-- The keys of the tables as the values of their columns, which are the first columns of a row.
use Rattle.std.specs.Prelude.{ℕ, List, [], ◌∷◌}
use Rattle.sqlite_value.specs.declared.value.Value.TheVariants.{Text}
use Rattle.sqlite_value.specs.Order.{Row}
use Rattle.agv_header.specs.declared.key.Thing.{Thing}
use Rattle.agv_header.specs.declared.key.Thing.TheVariants as thing
use Rattle.agv_header.specs.declared.key.VehicleKey.{VehicleKey}
use Rattle.agv_store_rows.specs.declared.act_key.ActKey.{ActKey}
use Rattle.agv_world_core.specs.declared.key.LegKey.{LegKey}
use Rattle.agv_store_rows.specs.ValueEncodings.{number_cell, thing_name}
use Rattle.agv_store_rows.specs.declared.words.ThingKind.TheVariants as held

-- the key of a table whose key is one name
abbrev pub name_key : List ℕ → Row
name_key id = Text id ∷ []

-- the key of a vehicle
abbrev pub vehicle_key : VehicleKey → Row
vehicle_key key = Text key.manufacturer ∷ Text key.serial ∷ []

-- the key of an edge of an open trip
abbrev pub leg_key : LegKey → Row
leg_key key = Text key.order ∷ number_cell key.k ∷ []

-- the key of an act of an open trip
abbrev pub act_row_key : ActKey → Row
act_row_key key = Text key.order ∷ number_cell key.n ∷ []

-- the key of a hold: the node or edge that is held
abbrev pub hold_key : Thing → Row
hold_key (thing.Node id) = Text (thing_name held.Node) ∷ Text id ∷ []
hold_key (thing.Edge id) = Text (thing_name held.Edge) ∷ Text id ∷ []
