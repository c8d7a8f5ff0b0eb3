-- Which maps the tables in memory are: all except the schema number and the holds.
use Rattle.std.specs.Prelude.{◌≡◌}
use Rattle.agv_world_core.specs.Maps.{Maps, maps_of}
use Rattle.agv_world_core.specs.Worlds.{World}
use Rattle.agv_world_core.specs.declared.world.World.{World as Tables}

-- the tables in memory are equal to these maps
pub record Agrees (tables : Tables) (maps : Maps) : Type 0 where
  pub nodes : tables.nodes ≡ maps.nodes
  pub edges : tables.edges ≡ maps.edges
  pub stations : tables.stations ≡ maps.stations
  pub vehicles : tables.vehicles ≡ maps.vehicles
  pub trips : tables.trips ≡ maps.trips
  pub legs : tables.legs ≡ maps.legs
  pub loads : tables.loads ≡ maps.loads
  pub jobs : tables.jobs ≡ maps.jobs
  pub used : tables.used ≡ maps.used

-- the tables in memory are equal to the maps of the world
abbrev pub Keeps : Tables → World → Type 0
Keeps tables world = Agrees tables (maps_of world)
