-- The layout of tables that have that of a world.
use Rattle.std.proofs.Common.{◌≡◌}
use Rattle.agv_layout.specs.LayoutOf.{layout_of, rows_in}
use Rattle.agv_world_core.specs.Questions.{given, layout_set}
use Rattle.agv_world_core.specs.Told.{world_of}
use Rattle.agv_world_core.specs.Worlds.{World}
use Rattle.agv_world_core.specs.declared.world.World.{World as Tables}

pub layout_is : (world : World) (tables : Tables) → tables.nodes ≡ world.layout.nodes → tables.edges ≡ world.layout.edges → tables.stations ≡ world.layout.stations → layout_set (world_of tables) ≡ layout_set world
unfolding layout_set
layout_is world tables nodes edges stations = λ i. given (layout_of (rows_in (record { nodes = nodes i; edges = edges i; stations = stations i })))
