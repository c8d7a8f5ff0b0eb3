-- Well-formed trips: their plan, and their progress (VDA 5050 2.0, order and state; this project's profile).
use Rattle.std.specs.Prelude.{◌≡◌, ℕ, ◌+◌, ◌<◌, ◌≤◌, ◌⊎◌, ◌&&◌, ◌||◌, not, nat_le, nat_eq, Bool, IsTrue, List, [], ◌∷◌, length, map, All, Option, None, Some}
use Rattle.std.specs.List.{list_all, list_any, slice_get}
use Rattle.std.specs.Cmp.Lexicographic.{pointwise}
use Rattle.agv_layout.specs.Layout.{Layout, IsEdge, IsStation}
use Rattle.agv_layout.specs.Walk.{IsWalk}
use Rattle.agv_layout.specs.declared.edge.Edge.{Edge}
use Rattle.agv_layout.specs.declared.station.StationSite.{StationSite}
use Rattle.agv_order.specs.Statuses.{is_waiting, is_finished, is_final}
use Rattle.agv_order.specs.Stops.{is_drop, is_pick, are_paired}
use Rattle.agv_order.specs.Trips.{Task, stop_of, Plan, plan_of, nodes_on}
use Rattle.agv_order.specs.declared.act.Act.{Act}
use Rattle.agv_order.specs.declared.trip.Trip.{Trip}

-- ---- the plan

-- the layout has the edge, with these ends
abbrev pub IsEdgeOf : Layout → Edge → Type 0
IsEdgeOf layout edge = IsEdge layout edge.id (record { start = edge.start; finish = edge.finish })

-- the names of edges
abbrev pub ids_of : List Edge → List (List ℕ)
ids_of edges = map (λ (edge : Edge). edge.id) edges

-- the tasks' places do not decrease, starting from this place, and the last of them is the given one
abbrev pub IsRising : ℕ → List Task → ℕ → Type 0
IsRising from [] to = from ≡ to
IsRising from (task ∷ tasks) to = (from ≤ task.place_at) × IsRising task.place_at tasks to

-- the tasks are in the order of the way, and the last is at its end; an order without tasks is a drive, which ends at any node
abbrev pub AreInOrder : List Task → ℕ → Type 0
AreInOrder [] end = Unit {0}
AreInOrder (task ∷ tasks) end = IsRising 0 (task ∷ tasks) end

-- the station of the task is at the node of the task's place
abbrev pub IsAtStation : Layout → Plan → Task → Type 0
IsAtStation layout plan task =
    (site : StationSite) × IsStation layout task.station site × (slice_get (nodes_on plan.start plan.edges) task.place_at ≡ Some site.node)

-- the plan is a walk of at most 200 edges, with at most four jobs, each picked and later dropped; each task is at its station, the tasks are in the order of the way, and the last is at its end; without a job it is a drive
pub record IsPlanned (layout : Layout) (plan : Plan) : Type 0 where
  pub walk : (finish : List ℕ) × IsWalk layout plan.start (ids_of plan.edges) finish
  pub edges : All (IsEdgeOf layout) plan.edges
  pub short : length plan.edges ≤ 200
  pub stops : IsTrue (are_paired (map stop_of plan.tasks))
  pub few : length plan.tasks ≤ 8
  pub rising : AreInOrder plan.tasks (length plan.edges)
  pub stations : All (IsAtStation layout plan) plan.tasks

-- ---- the progress

-- the act is finished only if the vehicle has reached its node
abbrev pub is_reached : ℕ → Act → Bool
is_reached seen act = not (is_finished act.status) || nat_le act.place_at seen

-- the load of this job was picked
abbrev pub is_picked : List Act → List ℕ → Bool
is_picked acts job = list_any (λ (act : Act). is_pick act.kind && is_finished act.status && pointwise nat_eq act.job job) acts

-- the act is a finished drop only if its job's load was picked
abbrev pub is_in_turn : List Act → Act → Bool
is_in_turn acts act = not (is_drop act.kind && is_finished act.status) || is_picked acts act.job

-- the act has not begun
abbrev pub has_not_begun : Act → Bool
has_not_begun act = is_waiting act.status

-- the act is over: finished or failed
abbrev pub is_over : Act → Bool
is_over act = is_final act.status

-- what the vehicle has confirmed: nothing, and then nothing has happened; or the update sent last; or the one before it, and then the vehicle has seen no node past the last message's first
abbrev pub IsConfirmed : Trip → Option ℕ → Type 0
IsConfirmed trip None = (trip.sent ≡ 0) × (trip.first ≡ 0) × (trip.seen ≡ 0) × IsTrue (list_all has_not_begun trip.acts)
IsConfirmed trip (Some update) = (update ≡ trip.sent) ⊎ ((update + 1 ≡ trip.sent) × (trip.seen ≤ trip.first))

-- the last message begins within the base, the order itself at the start and an update before the base's end; the base ends within the way; nothing past the base was seen, no act is finished before its turn, and the trip has not ended
pub record IsUnderWay (trip : Trip) : Type 0 where
  pub in_base : trip.first ≤ trip.base
  pub on_way : trip.base ≤ length trip.edges
  pub seen_released : trip.seen ≤ trip.base
  pub sent_released : trip.sent ≤ trip.base
  pub begins : trip.sent ≡ 0 → trip.first ≡ 0
  pub grows : 0 < trip.sent → trip.first < trip.base
  pub confirmed : IsConfirmed trip trip.confirmed
  pub reached : IsTrue (list_all (is_reached trip.seen) trip.acts)
  pub in_turn : IsTrue (list_all (is_in_turn trip.acts) trip.acts)
  pub is_open : ¬ ((trip.seen ≡ length trip.edges) × IsTrue (list_all is_over trip.acts))

-- the trip is planned on the layout, and under way
pub record IsWellFormed (layout : Layout) (trip : Trip) : Type 0 where
  pub planned : IsPlanned layout (plan_of trip)
  pub under_way : IsUnderWay trip
