-- What runs of changes of one table make of the tables.
use Rattle.std.proofs.Common.{◌≡◌, ℕ, List, [], ◌∷◌, ◌++◌, map, Option, Ordering, refl}
use Rattle.std.specs.FinMap.{insert}
use Rattle.std.specs.FinSet as set
use Rattle.agv_header.specs.declared.key.Thing.{Thing}
use Rattle.agv_header.specs.declared.key.VehicleKey.{VehicleKey}
use Rattle.agv_layout.specs.declared.edge.EdgeEnds.{EdgeEnds}
use Rattle.agv_layout.specs.declared.station.StationSite.{StationSite}
use Rattle.agv_stock.specs.declared.place.Place.{Place}
use Rattle.agv_world_core.specs.Changes.{change, changed}
use Rattle.agv_world_core.specs.Maps.{Maps}
use Rattle.agv_header.specs.Spread.{edit}
use Rattle.agv_world_core.specs.TableChanges.{written, load_changes, job_changes}
use Rattle.agv_world_core.specs.declared.change.Change.{Change}
use Rattle.agv_world_core.specs.declared.change.Change.TheVariants as row
use Rattle.agv_world_core.specs.declared.key.LegKey.{LegKey}
use Rattle.agv_world_core.specs.declared.row.JobRow.{JobRow}
use Rattle.agv_world_core.proofs.row_changes.Edits.{edit_all}

pub changed-append : (xs ys : List Change) (r : Maps) → changed (xs ++ ys) r ≡ changed ys (changed xs r)
unfolding changed
changed-append [] ys r = refl
changed-append (x ∷ xs) ys r = changed-append xs ys (change r x)

pub changed-legs : {A : Type 0} (key : A → LegKey) (value : A → Option (List ℕ)) (xs : List A) (r : Maps)
    → changed (map (λ x. row.Leg (key x) (value x)) xs) r ≡ record r { legs = edit_all (map (λ x. (key x, value x)) xs) r.legs }
unfolding changed
changed-legs key value [] r = refl
changed-legs key value (x ∷ xs) r = changed-legs key value xs (record r { legs = edit r.legs (key x) (value x) })

pub changed-holds : (value : Option VehicleKey) (xs : List Thing) (r : Maps) → changed (map (λ x. row.Hold x value) xs) r ≡ record r { holds = edit_all (map (λ x. (x, value)) xs) r.holds }
unfolding changed
changed-holds value [] r = refl
changed-holds value (x ∷ xs) r = changed-holds value xs (record r { holds = edit r.holds x value })

-- ---- loads, jobs and the layout
pub changed-loads : (moves : List (List ℕ × Place)) (r : Maps) → changed (load_changes moves) r ≡ record r { loads = written r.loads moves }
unfolding changed
changed-loads [] r = refl
changed-loads (x ∷ xs) r = changed-loads xs (record r { loads = insert r.loads x.0 x.1 })

pub changed-jobs : (jobs : List (List ℕ × JobRow)) (r : Maps) → changed (job_changes jobs) r ≡ record r { jobs = written r.jobs jobs }
unfolding changed
changed-jobs [] r = refl
changed-jobs (x ∷ xs) r = changed-jobs xs (record r { jobs = insert r.jobs x.0 x.1 })

-- the set with these keys too
abbrev pub joined : {K : Type 0} {R : K → K → Ordering} → set.FinSet R → List K → set.FinSet R
joined keys [] = keys
joined keys (x ∷ xs) = joined (set.insert keys x) xs

pub changed-nodes : (ids : List (List ℕ)) (r : Maps) → changed (map (λ (id : List ℕ). row.Node id) ids) r ≡ record r { nodes = joined r.nodes ids }
unfolding changed
changed-nodes [] r = refl
changed-nodes (x ∷ xs) r = changed-nodes xs (record r { nodes = set.insert r.nodes x })

pub changed-edges : (edges : List (List ℕ × EdgeEnds)) (r : Maps) → changed (map (λ (edge : List ℕ × EdgeEnds). row.Edge edge.0 edge.1) edges) r ≡ record r { edges = written r.edges edges }
unfolding changed
changed-edges [] r = refl
changed-edges (x ∷ xs) r = changed-edges xs (record r { edges = insert r.edges x.0 x.1 })

pub changed-stations : (stations : List (List ℕ × StationSite)) (r : Maps) → changed (map (λ (station : List ℕ × StationSite). row.Station station.0 station.1) stations) r ≡ record r { stations = written r.stations stations }
unfolding changed
changed-stations [] r = refl
changed-stations (x ∷ xs) r = changed-stations xs (record r { stations = insert r.stations x.0 x.1 })
