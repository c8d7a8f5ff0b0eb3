-- The changes for writing loads, jobs, a used name or the layout, and the world after them.
use Rattle.std.specs.Prelude.{ℕ, List, [], ◌∷◌, ◌++◌, map}
use Rattle.std.specs.declared.cmp.Ordering.{Ordering}
use Rattle.std.specs.FinMap as finite
use Rattle.std.specs.FinSet as set
use Rattle.agv_layout.specs.Layout.{Layout}
use Rattle.agv_layout.specs.LayoutOf.{nodes_of}
use Rattle.agv_layout.specs.declared.edge.EdgeEnds.{EdgeEnds}
use Rattle.agv_layout.specs.declared.station.StationSite.{StationSite}
use Rattle.agv_stock.specs.declared.place.Place.{Place}
use Rattle.agv_world_core.specs.Worlds.{World}
use Rattle.agv_world_core.specs.declared.change.Change.{Change}
use Rattle.agv_world_core.specs.declared.change.Change.TheVariants as row
use Rattle.agv_world_core.specs.declared.key.UseKind.{UseKind}
use Rattle.agv_world_core.specs.declared.key.UseKind.TheVariants as used
use Rattle.agv_world_core.specs.declared.row.JobRow.{JobRow}

-- ---- loads and jobs

-- the map after these entries were written, one after the other
abbrev pub written : {K X : Type 0} {R : K → K → Ordering} → finite.FinMap R X → List (K × X) → finite.FinMap R X
written table [] = table
written table (entry ∷ entries) = written (finite.insert table entry.0 entry.1) entries

-- a change for each load that moves
abbrev pub load_changes : List (List ℕ × Place) → List Change
load_changes moves = map (λ (move : List ℕ × Place). row.Load move.0 move.1) moves

-- a change for each job that is written
abbrev pub job_changes : List (List ℕ × JobRow) → List Change
job_changes jobs = map (λ (job : List ℕ × JobRow). row.Job job.0 job.1) jobs

-- ---- used names

-- the world after the name was used in this kind
abbrev pub with_use : World → UseKind → List ℕ → World
with_use world used.Order name = record world { orders = set.insert world.orders name }
with_use world used.Reference name = record world { references = set.insert world.references name }

-- ---- the layout

-- a change for each node, edge and station, each kind in the order of the names
abbrev pub layout_changes : Layout → List Change
layout_changes layout =
    map (λ (id : List ℕ). row.Node id) (nodes_of layout)
    ++ (map (λ (edge : List ℕ × EdgeEnds). row.Edge edge.0 edge.1) (finite.entries layout.edges)
    ++ map (λ (station : List ℕ × StationSite). row.Station station.0 station.1) (finite.entries layout.stations))
