-- An open trip of one job, as a row of the table `trip`; its edges and the load and stations of its job are not in that row.
use Rattle.std.specs.Prelude.{◌≡◌, ℕ, not, ◌&&◌, nat_eq, Bool, List, [], ◌∷◌, Option, None, Some, if◌then◌else◌}
use Rattle.std.specs.Cmp.Lexicographic.{pointwise}
use Rattle.agv_message_core.specs.declared.order.ActKind.TheVariants.{Pick, Drop}
use Rattle.agv_order.specs.Stops.{is_drop}
use Rattle.agv_order.specs.declared.act.Act.{Act}
use Rattle.agv_world_core.specs.declared.row.JobRow.{JobRow}
use Rattle.agv_world_core.specs.declared.row.TripRow.{TripRow}
use Rattle.agv_store_migrate.specs.declared.trip_line.TripLine.{TripLine}

-- the acts of the trip: the load of the job is picked at the job's origin, and then dropped at its target
abbrev pub acts_of : TripLine → JobRow → List Act
acts_of line job =
    (record { kind = Pick; job = line.job; load = job.load; station = job.origin; place_at = line.pick_at; status = line.pick_status })
    ∷ (record { kind = Drop; job = line.job; load = job.load; station = job.target; place_at = line.drop_at; status = line.drop_status }) ∷ []

-- the trip of a row and the row of its job
abbrev pub trip_told : TripLine → JobRow → TripRow
trip_told line job = record {
  vehicle = line.vehicle;
  start = line.start;
  first = line.first;
  base = line.base;
  sent = line.sent;
  confirmed = line.confirmed;
  seen = line.seen;
  acts = acts_of line job;
}

-- the row of a trip with these two acts
abbrev pub line_with : List ℕ → TripRow → Act → Act → TripLine
line_with order trip pick drop = record {
  order = order;
  vehicle = trip.vehicle;
  job = pick.job;
  start = trip.start;
  first = trip.first;
  base = trip.base;
  sent = trip.sent;
  confirmed = trip.confirmed;
  seen = trip.seen;
  pick_at = pick.place_at;
  drop_at = drop.place_at;
  pick_status = pick.status;
  drop_status = drop.status;
}

-- the first act is the pick, and the second the drop, of one job and one load
abbrev pub are_of_one_job : Act → Act → Bool
are_of_one_job pick drop = not (is_drop pick.kind) && is_drop drop.kind && pointwise nat_eq pick.job drop.job && pointwise nat_eq pick.load drop.load

-- the row of a trip with these acts, which have to be the pick and the drop of one job; other trips have none
abbrev pub line_of_acts : List ℕ → TripRow → List Act → Option TripLine
line_of_acts order trip [] = None
line_of_acts order trip (pick ∷ []) = None
line_of_acts order trip (pick ∷ (drop ∷ [])) = if are_of_one_job pick drop then Some (line_with order trip pick drop) else None
line_of_acts order trip (pick ∷ (drop ∷ (third ∷ more))) = None

-- the row of a trip, if it has exactly one job
abbrev pub line_of : List ℕ → TripRow → Option TripLine
line_of order trip = line_of_acts order trip trip.acts

-- the row is of this order, and encodes this trip together with the row of some job
pub record TellsTrip (name : List ℕ) (row : TripRow) (line : TripLine) : Type 0 where
  pub order : line.order ≡ name
  pub job : JobRow
  pub trip : trip_told line job ≡ row
