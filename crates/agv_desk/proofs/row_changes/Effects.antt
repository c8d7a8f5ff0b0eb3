-- The rows that an effect changes lead to the maps of the world after it, part by part.
use Rattle.std.proofs.Common.{◌≡◌, ℕ, List, [], ◌∷◌, ◌++◌, map, Option, None, refl, ap, ◌∙◌}
use Rattle.agv_layout.specs.Layout.{Layout}
use Rattle.agv_world_core.specs.Changes.{change, changed}
use Rattle.agv_world_core.specs.Maps.{Maps, maps_of}
use Rattle.agv_world_core.specs.TableChanges.{with_use, written}
use Rattle.agv_world_core.specs.Worlds.{World}
use Rattle.agv_world_core.specs.declared.change.Change.{Change}
use Rattle.agv_world_core.specs.declared.change.Change.TheVariants as row
use Rattle.agv_world_core.specs.declared.key.UseKey.{UseKey}
use Rattle.agv_world_core.specs.declared.row.JobRow.{JobRow}
use Rattle.agv_desk.specs.Outcomes.{Move, VehicleChange, Effect, moved, with_uses, with_touched, with_layout, with_effect, laid_changes, touched_changes, changes_of}

-- one list of changes after another
pub changed-append : (changes others : List Change) (maps : Maps) → changed (changes ++ others) maps ≡ changed others (changed changes maps)
unfolding changed
changed-append [] others maps = refl
changed-append (one ∷ changes) others maps = changed-append changes others (change maps one)

pub moves_rows : (moves : List Move) (maps : Maps) → changed (map (λ (move : Move). row.Load move.load move.place) moves) maps ≡ record maps { loads = moved maps.loads moves }
unfolding changed
moves_rows [] maps = refl
moves_rows (move ∷ moves) maps = moves_rows moves (change maps (row.Load move.load move.place))

pub jobs_rows : (jobs : List (List ℕ × JobRow)) (maps : Maps) → changed (map (λ (job : List ℕ × JobRow). row.Job job.0 job.1) jobs) maps ≡ record maps { jobs = written maps.jobs jobs }
unfolding changed
jobs_rows [] maps = refl
jobs_rows (job ∷ jobs) maps = jobs_rows jobs (change maps (row.Job job.0 job.1))

-- a name that is used is a row of the used names
abbrev pub UsesARow : Type 0
UsesARow = (world : World) (key : UseKey) → changed (row.Used key ∷ []) (maps_of world) ≡ maps_of (with_use world key.kind key.name)

module _ (uses : UsesARow) where
  pub uses_rows : (keys : List UseKey) (world : World) → changed (map (λ (key : UseKey). row.Used key) keys) (maps_of world) ≡ maps_of (with_uses world keys)
  unfolding changed
  uses_rows [] world = refl
  uses_rows (key ∷ keys) world = ap (changed (map (λ (key : UseKey). row.Used key) keys)) (uses world key) ∙ uses_rows keys (with_use world key.kind key.name)

-- the changes of the layout, and those of the vehicle, lead to the maps of the world with it
abbrev pub LaysRows : World → Option Layout → Type 0
LaysRows world layout = changed (laid_changes layout) (maps_of world) ≡ maps_of (with_layout world layout)

abbrev pub TouchesRows : World → VehicleChange → Type 0
TouchesRows world touched = changed (touched_changes touched) (maps_of world) ≡ maps_of (with_touched world touched)

-- all changes lead to the maps of the world after the effect
pub record LeadsTo (world : World) (effect : Effect) : Type 0 where
  pub rows : changed (changes_of effect) (maps_of world) ≡ maps_of (with_effect world effect)

pub lays_none : (world : World) → LaysRows world None
unfolding changed
lays_none world = refl

pub touches_none : (world : World) → TouchesRows world VehicleChange.Nothing
unfolding changed
touches_none world = refl

module _ (uses : UsesARow) (world : World) (effect : Effect) where
  pub leads_to : LaysRows world effect.layout → TouchesRows (with_layout world effect.layout) effect.touched → LeadsTo world effect
  leads_to lays touches =
      let moves = map (λ (move : Move). row.Load move.load move.place) effect.moves in
      let jobs = map (λ (job : List ℕ × JobRow). row.Job job.0 job.1) effect.jobs in
      let used = map (λ (key : UseKey). row.Used key) effect.uses in
      let touched = with_touched (with_layout world effect.layout) effect.touched in
      let placed : World = record touched { places = moved touched.places effect.moves } in
      let done : World = record placed { jobs = written placed.jobs effect.jobs } in
      record {
        rows = changed-append (laid_changes effect.layout) (touched_changes effect.touched ++ (moves ++ (jobs ++ used))) (maps_of world)
            ∙ ap (changed (touched_changes effect.touched ++ (moves ++ (jobs ++ used)))) lays
            ∙ changed-append (touched_changes effect.touched) (moves ++ (jobs ++ used)) (maps_of (with_layout world effect.layout))
            ∙ ap (changed (moves ++ (jobs ++ used))) touches
            ∙ changed-append moves (jobs ++ used) (maps_of touched)
            ∙ ap (changed (jobs ++ used)) (moves_rows effect.moves (maps_of touched))
            ∙ changed-append jobs used (maps_of placed)
            ∙ ap (changed used) (jobs_rows effect.jobs (maps_of placed))
            ∙ uses_rows uses effect.uses done;
      }
