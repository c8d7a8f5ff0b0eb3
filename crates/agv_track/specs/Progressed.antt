-- A trip after a state that was accepted (VDA 5050 2.0, state; this project's profile).
use Rattle.std.specs.Prelude.{◌≡◌, ℕ, ◌<◌, ◌≤◌, IsTrue, List, None, Some}
use Rattle.std.specs.List.{slice_get}
use Rattle.agv_layout.specs.declared.edge.Edge.{Edge}
use Rattle.agv_order.specs.Statuses.{may_follow}
use Rattle.agv_order.specs.Trips.{node_at, task_of, plan_of}
use Rattle.agv_order.specs.WellFormed.{IsUnderWay}
use Rattle.agv_order.specs.declared.act.Act.{Act}
use Rattle.agv_order.specs.declared.trip.Trip.{Trip}
use Rattle.agv_track.specs.Reports.{renewed}
use Rattle.agv_track.specs.declared.progress.End.TheVariants.{Stopped}
use Rattle.agv_track.specs.declared.progress.Progress.{Progress}

-- the trip with the progress written into it; its base and its plan stay
abbrev pub progressed : Trip → Progress → Trip
progressed trip progress = record trip { confirmed = Some progress.confirmed; seen = progress.seen; acts = renewed trip.acts progress.statuses }

-- an act before and after a state: its task is the same, and its status may follow
pub record ActGoesOn (before : Act) (after : Act) : Type 0 where
  pub task : task_of after ≡ task_of before
  pub follows : IsTrue (may_follow before.status after.status)

-- the edge and the node of a rest are the trip's next ones after node k, and are released
pub record IsNextOf (trip : Trip) (k : ℕ) (rest : List ℕ × List ℕ) : Type 0 where
  pub edge : Edge
  pub there : slice_get trip.edges k ≡ Some edge
  pub released : k < trip.base
  pub id : rest.0 ≡ edge.id
  pub finish : rest.1 ≡ edge.finish

-- what holds after a state of a trip under way is accepted: the plan stays, the node and the statuses only go forward, and a trip that has not ended is under way
pub record Advances (trip : Trip) (progress : Progress) : Type 0 where
  pub plan : plan_of (progressed trip progress) ≡ plan_of trip
  pub forward : trip.seen ≤ progress.seen
  pub released : progress.seen ≤ trip.base
  pub node : (name : List ℕ) × (node_at trip progress.seen ≡ Some name)
  pub acts : (k : ℕ) (before : Act) → slice_get trip.acts k ≡ Some before → (after : Act) × (slice_get (progressed trip progress).acts k ≡ Some after) × ActGoesOn before after
  pub under_way : progress.«end» ≡ None → IsUnderWay (progressed trip progress)
  pub rest : (rest : List ℕ × List ℕ) → progress.rest ≡ Some rest → (progress.«end» ≡ Some Stopped) × IsNextOf trip progress.seen rest
