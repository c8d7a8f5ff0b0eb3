-- The rows of a vehicle that is written, and what is decided where a person has put it somewhere.
use Rattle.std.proofs.Common.{◌≡◌, ℕ, List, [], ◌∷◌, ◌++◌, map, Option, None, Some, append_assoc, ap, ◌∙◌}
use Rattle.agv_header.specs.declared.key.VehicleKey.{VehicleKey}
use Rattle.agv_order.specs.declared.trip.Trip.{Trip}
use Rattle.agv_track_holds.specs.Footprints.{footprint_of}
use Rattle.agv_track_holds.specs.declared.standing.Standing.{Standing}
use Rattle.agv_world_core.specs.VehicleChanges.{hold_changes, own_changes, trip_changes}
use Rattle.agv_world_core.specs.Worlds.{World}
use Rattle.agv_world_core.specs.declared.change.Change.{Change}
use Rattle.agv_world_core.specs.declared.change.Change.TheVariants as row
use Rattle.agv_world_core.specs.declared.row.JobRow.{JobRow}
use Rattle.agv_world_core.specs.declared.row.VehicleRow.{VehicleRow}
use Rattle.agv_desk.specs.ActSteps.{jobs_stopped}
use Rattle.agv_desk.specs.Outcomes.{decided}
use Rattle.agv_desk.specs.Shared.{reference_key}
use Rattle.agv_desk.specs.VehicleSteps.{placed, put_down}
use Rattle.agv_desk.specs.declared.answer.Answer.TheVariants as answer
use Rattle.agv_desk.specs.declared.answer.Decision.{Decision}

-- where a vehicle stands
abbrev pub stands : VehicleRow → Option Trip → Standing
stands row trip = record { node = row.node; rest = row.rest; trip = trip }

-- the rows of a vehicle that is written
abbrev pub vehicle_rows : VehicleKey → VehicleRow → Standing → VehicleRow → Standing → List Change
vehicle_rows key before old next new = own_changes key (Some before) next ++ (trip_changes key old.trip new.trip ++ hold_changes key (footprint_of old) (footprint_of new))

-- the rows of the jobs that stop with a trip
abbrev stopped_rows : World → Option Trip → List Change
stopped_rows world trip = map (λ (job : List ℕ × JobRow). row.Job job.0 job.1) (jobs_stopped world trip)

module _ (world : World) (key : VehicleKey) (before : VehicleRow) (trip : Option Trip) (reference node : List ℕ) where
  -- all rows, of a vehicle that stands and goes on so
  abbrev rows_of : Standing → VehicleRow → Standing → Change → List Change
  rows_of old next new used = (([] ++ vehicle_rows key before old next new) ++ stopped_rows world old.trip) ++ used ∷ []

  pub put_down_told : (old new : Standing) (next : VehicleRow) (used : Change) (none vehicle jobs all : List Change) (decision : Decision)
      → next ≡ (placed before node).row → old ≡ stands before trip → new ≡ stands next None
      → none ≡ [] → vehicle ≡ none ++ vehicle_rows key before old next new → jobs ≡ vehicle ++ stopped_rows world old.trip
      → used ≡ row.Used (reference_key reference) → all ≡ jobs ++ used ∷ []
      → decision.answer ≡ answer.Done → decision.changes ≡ all
      → decision ≡ decided (put_down world key before trip reference node)
  unfolding decided
  put_down_told old new next used none vehicle jobs all decision row_is was stood empty one two is three said changes =
      let after = (placed before node).row in
      let noted = row.Used (reference_key reference) in
      let first = one ∙ ap (λ rows. rows ++ vehicle_rows key before old next new) empty in
      let second = two ∙ ap (λ rows. rows ++ stopped_rows world old.trip) first in
      let told : all ≡ rows_of old next new used = three ∙ ap (λ rows. rows ++ used ∷ []) second in
      let stand : rows_of old next new used ≡ rows_of (stands before trip) next (stands next None) noted = λ i. rows_of (was i) next (stood i) (is i) in
      let go_on : rows_of (stands before trip) next (stands next None) noted ≡ rows_of (stands before trip) after (stands after None) noted = λ i. rows_of (stands before trip) (row_is i) (stands (row_is i) None) noted in
      let turn = append_assoc (vehicle_rows key before (stands before trip) after (stands after None)) (stopped_rows world trip) (noted ∷ []) in
      let rows = changes ∙ told ∙ stand ∙ go_on ∙ turn in
      λ i. record { answer = said i; changes = rows i }
