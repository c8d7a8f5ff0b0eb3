-- What every call leaves of the history of a world, and which worlds come after others.
use Rattle.std.proofs.Common.{◌≡◌, ◌≢◌, ℕ, refl, ap}
use Rattle.agv_header.specs.declared.key.VehicleKey.{VehicleKey}
use Rattle.agv_world_core.specs.LawfulParts.{HasLawfulVehicles}
use Rattle.agv_world_core.specs.Worlds.{World}
use Rattle.agv_desk.specs.Outcomes.{Outcome, Refused, Made, after}
use Rattle.agv_desk.specs.Step.{step}
use Rattle.agv_desk.specs.declared.call.Call.{Call}
use Rattle.agv_desk.specs.declared.call.Call.TheVariants as call
use Rattle.agv_desk.proofs.row_changes.Given.{AdvancesTrips}
use Rattle.agv_desk.proofs.histories.GoingAlong.{GoesAlong, follows_effect}
use Rattle.agv_desk.proofs.outcomes.Keeping.{Follows, FollowsBy}
use Rattle.agv_desk.proofs.outcomes.Ladders.{IfMade}
use Rattle.agv_desk.proofs.histories.OrdersAlong.{starts_drive, starts_order, advances_trip}
use Rattle.agv_desk.proofs.histories.PlainAlong.{adds_job, begins_anew, cancels, corrects_load, lets_load_leave, pauses, places_vehicle, registers_load, registers_vehicle, resumes, sets_layout, stops_job, takes_stock, tells_instant, tells_job, tells_load, tells_order, tells_vehicle, touches_none}
use Rattle.agv_desk.proofs.histories.StatesAlong.{takes_state}
use Rattle.agv_desk.proofs.histories.TripLeft.{PairsAsSaid}
use Rattle.agv_desk.proofs.histories.TripsFollow.{world_itself}

-- the number of the vehicle's last state is forgotten by its resync alone
abbrev pub Forgets : Call → VehicleKey → Type 0
Forgets (call.SetLayout rows) other = ⊥
Forgets (call.RegisterVehicle key node capacity) other = ⊥
Forgets (call.RegisterLoad load station) other = ⊥
Forgets (call.CorrectLoad load reference station) other = ⊥
Forgets (call.LeaveLoad load reference) other = ⊥
Forgets (call.AddJob job load to) other = ⊥
Forgets (call.StopJob job) other = ⊥
Forgets (call.StartOrder order key stops edges) other = ⊥
Forgets (call.StartDrive order key to edges) other = ⊥
Forgets (call.Advance key order update edges) other = ⊥
Forgets (call.Cancel key) other = ⊥
Forgets (call.Pause key) other = ⊥
Forgets (call.Resume key) other = ⊥
Forgets (call.PlaceVehicle key reference node) other = ⊥
Forgets (call.Resync key) other = key ≡ other
Forgets (call.State key state) other = ⊥
Forgets (call.GetOrder key) other = ⊥
Forgets (call.GetInstant key) other = ⊥
Forgets (call.Stocktake reference rows) other = ⊥
Forgets (call.GetLoad load) other = ⊥
Forgets (call.GetJob job) other = ⊥
Forgets (call.GetVehicle key) other = ⊥
Forgets (call.Report report) other = ⊥

pub not_forgotten : (made : Call) (key : VehicleKey) → made ≢ call.Resync key → Forgets made key → ⊥
not_forgotten (call.Resync other) key differs same = differs (ap call.Resync same)
not_forgotten (call.SetLayout rows) key differs none = none
not_forgotten (call.RegisterVehicle other node capacity) key differs none = none
not_forgotten (call.RegisterLoad load station) key differs none = none
not_forgotten (call.CorrectLoad load reference station) key differs none = none
not_forgotten (call.LeaveLoad load reference) key differs none = none
not_forgotten (call.AddJob job load to) key differs none = none
not_forgotten (call.StopJob job) key differs none = none
not_forgotten (call.StartOrder order other stops edges) key differs none = none
not_forgotten (call.StartDrive order other to edges) key differs none = none
not_forgotten (call.Advance other order update edges) key differs none = none
not_forgotten (call.Cancel other) key differs none = none
not_forgotten (call.Pause other) key differs none = none
not_forgotten (call.Resume other) key differs none = none
not_forgotten (call.PlaceVehicle other reference node) key differs none = none
not_forgotten (call.State other state) key differs none = none
not_forgotten (call.GetOrder other) key differs none = none
not_forgotten (call.GetInstant other) key differs none = none
not_forgotten (call.Stocktake reference rows) key differs none = none
not_forgotten (call.GetLoad load) key differs none = none
not_forgotten (call.GetJob job) key differs none = none
not_forgotten (call.GetVehicle other) key differs none = none
not_forgotten (call.Report report) key differs none = none

module _ (advances : AdvancesTrips) (fits : PairsAsSaid) (seats : ℕ) (world : World) (lawful : HasLawfulVehicles seats world) where
  pub goes_along : (at : ℕ) (made : Call) → IfMade (GoesAlong world (Forgets made)) (step seats world at made)
  goes_along at (call.SetLayout rows) = sets_layout world _ rows
  goes_along at (call.RegisterVehicle key node capacity) = registers_vehicle world _ seats key node capacity
  goes_along at (call.RegisterLoad load station) = registers_load world _ load station
  goes_along at (call.CorrectLoad load reference station) = corrects_load world _ load reference station
  goes_along at (call.LeaveLoad load reference) = lets_load_leave world _ load reference
  goes_along at (call.AddJob job load to) = adds_job world _ job load to
  goes_along at (call.StopJob job) = stops_job world _ job
  goes_along at (call.StartOrder order key stops edges) = starts_order world _ (record { at = at; order = order; key = key; stops = stops; edges = edges })
  goes_along at (call.StartDrive order key to edges) = starts_drive world _ (record { at = at; order = order; key = key; to = to; edges = edges })
  goes_along at (call.Advance key order update edges) = advances_trip world _ at key order update edges
  goes_along at (call.Cancel key) = cancels world _ at key
  goes_along at (call.Pause key) = pauses world _ at key
  goes_along at (call.Resume key) = resumes world _ at key
  goes_along at (call.PlaceVehicle key reference node) = places_vehicle world _ key reference node
  goes_along at (call.Resync key) = begins_anew world (λ other. key ≡ other) key refl
  goes_along at (call.State key state) = takes_state advances fits seats world lawful _ key state
  goes_along at (call.GetOrder key) = tells_order world _ key
  goes_along at (call.GetInstant key) = tells_instant world _ key
  goes_along at (call.Stocktake reference rows) = takes_stock world _ reference rows
  goes_along at (call.GetLoad load) = tells_load world _ load
  goes_along at (call.GetJob job) = tells_job world _ job
  goes_along at (call.GetVehicle key) = tells_vehicle world _ key
  goes_along at (call.Report report) = touches_none world _ _ refl (λ kind order job. refl)

  follows_made : (forgets : VehicleKey → Type 0) (outcome : Outcome) → IfMade (GoesAlong world forgets) outcome → IfMade (FollowsBy world) outcome
  follows_made forgets (Refused why) goes = tt
  follows_made forgets (Made effect) goes = follows_effect world effect goes.trips

  -- from a lawful world every call leads to one that comes after it
  pub follows_by : (at : ℕ) (made : Call) → IfMade (FollowsBy world) (step seats world at made)
  follows_by at made = follows_made (Forgets made) (step seats world at made) (goes_along at made)

  follows_outcome : (outcome : Outcome) → IfMade (FollowsBy world) outcome → Follows world (after world outcome)
  unfolding after
  follows_outcome (Refused why) goes = world_itself world
  follows_outcome (Made effect) goes = goes.follows

  pub follows_step : (at : ℕ) (made : Call) → Follows world (after world (step seats world at made))
  follows_step at made = follows_outcome (step seats world at made) (follows_by at made)
