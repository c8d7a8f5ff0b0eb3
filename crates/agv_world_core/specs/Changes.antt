-- Changes of the maps of a world, one after the other.
use Rattle.std.specs.Prelude.{List, [], ◌∷◌}
use Rattle.std.specs.FinMap as finite
use Rattle.std.specs.FinSet as set
use Rattle.agv_world_core.specs.Maps.{Maps}
use Rattle.agv_header.specs.Spread.{edit}
use Rattle.agv_world_core.specs.declared.change.Change.{Change}
use Rattle.agv_world_core.specs.declared.change.Change.TheVariants as row

-- the maps with one row written or removed
abbrev pub change : Maps → Change → Maps
change maps (row.Node id) = record maps { nodes = set.insert maps.nodes id }
change maps (row.Edge id ends) = record maps { edges = finite.insert maps.edges id ends }
change maps (row.Station id site) = record maps { stations = finite.insert maps.stations id site }
change maps (row.Vehicle key vehicle) = record maps { vehicles = finite.insert maps.vehicles key vehicle }
change maps (row.Trip order trip) = record maps { trips = edit maps.trips order trip }
change maps (row.Leg key edge) = record maps { legs = edit maps.legs key edge }
change maps (row.Load id place) = record maps { loads = finite.insert maps.loads id place }
change maps (row.Job id job) = record maps { jobs = finite.insert maps.jobs id job }
change maps (row.Hold thing key) = record maps { holds = edit maps.holds thing key }
change maps (row.Used key) = record maps { used = set.insert maps.used key }

-- the maps after all of the changes, in their order
unfoldable pub changed : List Change → Maps → Maps
changed [] maps = maps
changed (one ∷ changes) maps = changed changes (change maps one)
