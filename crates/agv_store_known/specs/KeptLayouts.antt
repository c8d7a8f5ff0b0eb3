-- The layout that is cached beside the tables, and which changes write a row of the layout.
use Rattle.std.specs.Prelude.{◌≡◌, Bool, true, false, Option, None, Some}
use Rattle.agv_layout.specs.Layout.{Layout}
use Rattle.agv_world_core.specs.Maps.{Maps}
use Rattle.agv_world_core.specs.declared.change.Change.{Change}
use Rattle.agv_world_core.specs.declared.change.Change.TheVariants as row

-- the change writes a row of the layout
abbrev pub is_of_layout : Change → Bool
is_of_layout (row.Node id) = true
is_of_layout (row.Edge id ends) = true
is_of_layout (row.Station id site) = true
is_of_layout (row.Vehicle key vehicle) = false
is_of_layout (row.Trip order trip) = false
is_of_layout (row.Leg key edge) = false
is_of_layout (row.Load id place) = false
is_of_layout (row.Job id job) = false
is_of_layout (row.Hold thing key) = false
is_of_layout (row.Used key) = false

-- the layout of these maps
abbrev pub laid_in : Maps → Layout
laid_in maps = record { nodes = maps.nodes; edges = maps.edges; stations = maps.stations }

-- the cached layout, if any, is the one of these maps
abbrev pub IsLayoutOf : Option Layout → Maps → Type 0
IsLayoutOf None maps = Unit {0}
IsLayoutOf (Some layout) maps = layout ≡ laid_in maps
