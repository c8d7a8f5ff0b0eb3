-- The calls of orders: to start one, and to release more of it (VDA 5050 2.0, order; this project's profile).
use Rattle.std.specs.Prelude.{ℕ, ◌+◌, ◌==◌, ◌&&◌, nat_lt, nat_le, nat_eq, not, Bool, false, is_none, count_by, List, [], ◌∷◌, filter_map, Option, None, Some, Result, Ok, Err, length, if◌then◌else◌}
use Rattle.std.specs.Cmp.Lexicographic.{pointwise}
use Rattle.std.specs.FinMap as finite
use Rattle.std.specs.List.{list_all, zip}
use Rattle.std.specs.Option.{option_map}
use Rattle.agv_header.specs.Count.{next_number}
use Rattle.agv_header.specs.Each.{each}
use Rattle.agv_header.specs.Limits.{most_records}
use Rattle.agv_header.specs.declared.key.VehicleKey.{VehicleKey}
use Rattle.agv_header.specs.declared.refusal.Refusal.{Refusal}
use Rattle.agv_header.specs.declared.refusal.Refusal.TheVariants as refusal
use Rattle.agv_message_core.specs.declared.instant.InstantKind.{InstantKind}
use Rattle.agv_order.specs.Plans.{planned}
use Rattle.agv_order.specs.Releases.{released}
use Rattle.agv_order.specs.StopPlaces.{stop_picks}
use Rattle.agv_order.specs.Stops.{stops_fit}
use Rattle.agv_order.specs.declared.fault.PlanFault.{PlanFault}
use Rattle.agv_order.specs.declared.fault.PlanFault.TheVariants as fault
use Rattle.agv_order.specs.declared.stop.Stop.{Stop}
use Rattle.agv_order.specs.declared.trip.Trip.{Trip}
use Rattle.agv_stock.specs.declared.job.Job.{Job}
use Rattle.agv_stock.specs.declared.job.Phase.TheVariants as phase
use Rattle.agv_track_holds.specs.Footprints.{footprint_of}
use Rattle.agv_track.specs.Reports.{is_cancel}
use Rattle.agv_world_core.specs.Questions.{row_of, trip_of, is_used, loads_on, layout_set, count_of}
use Rattle.agv_world_core.specs.Worlds.{Vehicle, World}
use Rattle.agv_world_core.specs.declared.floor.Counted.TheVariants as counted
use Rattle.agv_world_core.specs.declared.key.UseKind.TheVariants as used
use Rattle.agv_world_core.specs.declared.row.JobRow.{JobRow}
use Rattle.agv_world_core.specs.declared.row.VehicleRow.{VehicleRow}
use Rattle.agv_desk.specs.JobSteps.{is_waiting}
use Rattle.agv_desk.specs.Outcomes.{Effect, Outcome, Refused, Made, Whole, refuse_unless, refuse_if_none, answer_only}
use Rattle.agv_desk.specs.Shared.{if_free}
use Rattle.agv_desk.specs.declared.answer.Answer.TheVariants as answer

-- ---- definitions

-- a job with this name and this row
abbrev pub named : List ℕ → JobRow → Job
named name row = record { name = name; load = row.load; origin = row.origin; target = row.target; phase = row.phase }

-- the job of a stop, if it is known
abbrev pub job_for : World → Stop → Option Job
job_for world stop = option_map (named stop.job) (finite.get world.jobs stop.job)

-- the jobs of the stops, in their order, if all are known
abbrev pub jobs_for : World → List Stop → Option (List Job)
jobs_for world stops = each (job_for world) stops

-- the job waits for a vehicle
abbrev pub waits : Job → Bool
waits job = is_waiting job.phase

-- the last order that the vehicle has reported is this one
abbrev pub is_reported : Option (List ℕ) → List ℕ → Bool
is_reported None order = false
is_reported (Some name) order = pointwise nat_eq name order

-- a cancelOrder is pending
abbrev pub is_cancelling : Option InstantKind → Bool
is_cancelling None = false
is_cancelling (Some kind) = is_cancel kind

-- the refusal for a plan that was not found
abbrev pub plan_refusal : PlanFault → Refusal
plan_refusal fault.NoWalk = refusal.NoWalk
plan_refusal fault.TooLong = refusal.TooLong
plan_refusal fault.Beyond = refusal.Beyond
plan_refusal fault.Memory = refusal.Memory

-- `rest` of the planned trip, or the refusal if there is no plan
unfoldable pub if_planned : Result Trip PlanFault → (Trip → Outcome) → Outcome
if_planned (Ok trip) rest = rest trip
if_planned (Err why) rest = Refused (plan_refusal why)

-- the row of a stop's job once it rides; only of a pick, so that each job is listed once
abbrev pub riding_by : Stop × Job → Option (List ℕ × JobRow)
riding_by served =
    if stop_picks served.0 then Some (served.1.name, record { load = served.1.load; origin = served.1.origin; target = served.1.target; phase = phase.Riding }) else None

-- the rows of an order's jobs once they ride
abbrev pub riding : List Stop → List Job → List (List ℕ × JobRow)
riding stops jobs = filter_map riding_by (zip stops jobs)

-- the vehicle after one more order message, with this trip
abbrev pub sent_on : VehicleRow → ℕ → ℕ → Option Trip → Vehicle
sent_on row at number trip = record { row = record row { orders = record { count = number; at = at } }; trip = trip }

-- ---- a new order

-- what POST /orders asks for: the name of the order, the vehicle that gets it, its stops, and how many edges are released; and the moment of the call
pub record AskedOrder : Type 0 where
  pub at : ℕ
  pub order : List ℕ
  pub key : VehicleKey
  pub stops : List Stop
  pub edges : ℕ

-- the effect of sending the order with this trip to the vehicle of this row: its jobs ride, and its name is used
abbrev pub order_sent : AskedOrder → VehicleRow → List Job → Option Trip → ℕ → Effect
order_sent asked row jobs trip number = record (answer_only (answer.Update 0)) {
  touched = Whole asked.key (Some (record { row = row; trip = None })) (sent_on row asked.at number trip);
  jobs = riding asked.stops jobs;
  uses = record { kind = used.Order; name = asked.order } ∷ [];
}

-- POST /orders: its checks in order, one a line; NoWalk, TooLong or Beyond without a plan, and Held if another vehicle holds part of the trip's footprint
abbrev pub start_order : World → AskedOrder → Outcome
start_order world asked =
    refuse_unless (not (is_used world used.Order asked.order)) refusal.Exists
    (refuse_if_none (row_of world asked.key) refusal.NoVehicle (λ row.
    refuse_unless (stops_fit asked.stops) refusal.BadStops
    (refuse_if_none (jobs_for world asked.stops) refusal.NoJob (λ jobs.
    refuse_unless (not (is_reported row.reported asked.order)) refusal.OrderKnown
    (refuse_unless (list_all waits jobs) refusal.JobState
    (refuse_unless (is_none (trip_of world asked.key)) refusal.Busy
    (refuse_unless (is_none row.rest) refusal.Astray
    (refuse_unless (nat_le (loads_on world asked.key + count_by stop_picks asked.stops) row.capacity) refusal.Loaded
    (refuse_unless row.ready refusal.NotReady
    (refuse_unless (not (is_cancelling row.pending)) refusal.InstantPending
    (refuse_if_none (layout_set world) refusal.NoWalk (λ layout.
    if_planned (planned layout asked.key jobs asked.stops asked.order row.node asked.edges) (λ trip.
    if_free world asked.key (footprint_of (record { node = row.node; rest = row.rest; trip = Some trip }))
    (refuse_if_none (next_number row.orders.count) refusal.Spent (λ number.
    refuse_unless (nat_lt (count_of world counted.Orders) most_records) refusal.Limit
    (Made (order_sent asked row jobs (Some trip) number)))))))))))))))))

-- ---- an update

-- the open trip, if it is of this order
abbrev pub trip_for : Option Trip → List ℕ → Option Trip
trip_for None order = None
trip_for (Some trip) order = if pointwise nat_eq trip.order order then Some trip else None

-- the vehicle has confirmed the last update that was sent
abbrev pub is_last_confirmed : Option ℕ → ℕ → Bool
is_last_confirmed None sent = false
is_last_confirmed (Some update) sent = update == sent

-- at least one edge is released, and none past the end of the way
abbrev pub can_release : Trip → ℕ → Bool
can_release trip edges = nat_lt 0 edges && nat_le (trip.base + edges) (length trip.edges)

-- the effect of sending this update of the trip
abbrev pub update_sent : ℕ → VehicleKey → VehicleRow → Option Trip → Option Trip → ℕ → ℕ → Effect
update_sent at key row old new update number =
    record (answer_only (answer.Update update)) { touched = Whole key (Some (record { row = row; trip = old })) (sent_on row at number new) }

-- the update is sent if it can be released and its footprint is free: Beyond, Held, Spent
abbrev pub send_update : World → ℕ → VehicleKey → VehicleRow → Trip → ℕ → ℕ → Outcome
send_update world at key row trip update edges =
    refuse_unless (can_release trip edges) refusal.Beyond
    (if_free world key (footprint_of (record { node = row.node; rest = row.rest; trip = Some (released trip edges) }))
    (refuse_if_none (next_number row.orders.count) refusal.Spent (λ number.
    Made (update_sent at key row (Some trip) (Some (released trip edges)) update number))))

-- the vehicle can take the update: WrongUpdate if the number is not the next one, NotConfirmed, NotReady, InstantPending if a cancelOrder is pending; then `send_update`
abbrev pub take_update : World → ℕ → VehicleKey → VehicleRow → Trip → ℕ → ℕ → Outcome
take_update world at key row trip update edges =
    refuse_unless (update == trip.sent + 1) (refusal.WrongUpdate trip.sent)
    (refuse_unless (is_last_confirmed trip.confirmed trip.sent) refusal.NotConfirmed
    (refuse_unless row.ready refusal.NotReady
    (refuse_unless (not (is_cancelling row.pending)) refusal.InstantPending
    (send_update world at key row trip update edges))))

-- POST .../advance: NoVehicle, NoOrder if no trip of this order is open; then `take_update`
abbrev pub advance : World → ℕ → VehicleKey → List ℕ → ℕ → ℕ → Outcome
advance world at key order update edges =
    refuse_if_none (row_of world key) refusal.NoVehicle (λ row.
    refuse_if_none (trip_for (trip_of world key) order) refusal.NoOrder (λ trip.
    take_update world at key row trip update edges))
