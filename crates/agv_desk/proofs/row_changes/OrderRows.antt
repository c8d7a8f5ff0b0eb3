-- The calls of orders lead to the maps of the world after them.
use Rattle.std.proofs.Common.{◌≡◌, ◌≢◌, ℕ, Bool, true, false, cond, List, Option, None, Some, Result, Ok, Err, nat_eq, nat_lt, length, refl, sym, ap, subst, ◌∙◌}
use Rattle.std.specs.Cmp.Lexicographic.{pointwise}
use Rattle.std.specs.FinSet as set
use Rattle.agv_header.specs.declared.key.VehicleKey.{VehicleKey}
use Rattle.agv_layout.specs.Layout.{Layout}
use Rattle.agv_order.specs.Plans.{planned, trip_along, trip_over, stop_routes_to, way_of}
use Rattle.agv_order.specs.Releases.{released}
use Rattle.agv_order.specs.Trips.{node_at}
use Rattle.agv_order.specs.declared.fault.PlanFault.{PlanFault}
use Rattle.agv_order.specs.declared.fault.PlanFault.TheVariants as fault
use Rattle.agv_order.specs.declared.stop.Stop.{Stop}
use Rattle.agv_order.specs.declared.trip.Trip.{Trip}
use Rattle.agv_stock.specs.declared.job.Job.{Job}
use Rattle.agv_world_core.specs.ConsistentTrips.{HasTrip}
use Rattle.agv_world_core.specs.Questions.{row_of, trip_of, is_used}
use Rattle.agv_world_core.specs.Worlds.{World}
use Rattle.agv_world_core.specs.declared.key.UseKind.TheVariants as used
use Rattle.agv_world_core.specs.declared.row.VehicleRow.{VehicleRow}
use Rattle.agv_desk.specs.InOrder.{IsInOrder}
use Rattle.agv_desk.specs.OrderParts.{send_trip, send_order, take_order}
use Rattle.agv_desk.specs.OrderSteps.{AskedOrder, if_planned, sent_on, start_order, trip_for, send_update, advance}
use Rattle.agv_desk.specs.Outcomes.{Effect, Outcome}
use Rattle.agv_desk.proofs.row_changes.Effects.{LeadsTo, lays_none}
use Rattle.agv_desk.proofs.row_changes.Given.{Given}
use Rattle.agv_desk.proofs.outcomes.Known.{none_some, vehicle_with, known, has_trip}
use Rattle.agv_desk.proofs.outcomes.Ladders.{IfMade, made_refuse_unless, made_refuse_if_none, made_unheld}
use Rattle.agv_desk.proofs.row_changes.Steps.{missing, not_true, leads, puts}

-- ---- a plan has the name of its order

apart : true ≡ false → ⊥
apart e = cc

pub err_ok : {A E : Type 0} {x : A} {e : E} {X : Type 0} → Err e ≡ Ok x → X
err_ok h = cc

pub two_tests : (long beyond : Bool) (one other : PlanFault) (made trip : Trip) → cond long (Err one) (cond beyond (Err other) (Ok made)) ≡ Ok trip → made ≡ trip
two_tests true beyond one other made trip e = err_ok e
two_tests false true one other made trip e = err_ok e
two_tests false false one other made trip e = ap (λ (r : Result Trip PlanFault). elim r [ Ok t ↦ t | Err why ↦ made ]) e

-- the trip is of this order and vehicle, which stands at this node
pub record IsBegun (vehicle : VehicleKey) (order at : List ℕ) (trip : Trip) : Type 0 where
  pub of_order : trip.order ≡ order
  pub own : trip.vehicle ≡ vehicle
  pub stands : node_at trip trip.seen ≡ Some at

pub plan_begins : (layout : Layout) (vehicle : VehicleKey) (jobs : List Job) (stops : List Stop) (order at : List ℕ) (base : ℕ) (trip : Trip)
    → planned layout vehicle jobs stops order at base ≡ Ok trip → IsBegun vehicle order at trip
plan_begins layout vehicle jobs stops order at base trip =
    elim (stop_routes_to layout jobs at stops) as (λ legs. trip_along vehicle order at base legs ≡ Ok trip → IsBegun vehicle order at trip) [
      | None ↦ λ h. err_ok h
      | Some legs ↦ λ h. subst (IsBegun vehicle order at)
          (two_tests (nat_lt 200 (length (way_of legs))) (nat_lt (length (way_of legs)) base) fault.TooLong fault.Beyond (trip_over vehicle order at base legs) trip h)
          (record { of_order = refl; own = refl; stands = refl })
    ]

pub plan_of_order : (layout : Layout) (vehicle : VehicleKey) (jobs : List Job) (stops : List Stop) (order at : List ℕ) (base : ℕ) (trip : Trip)
    → planned layout vehicle jobs stops order at base ≡ Ok trip → trip.order ≡ order
plan_of_order layout vehicle jobs stops order at base trip h = (plan_begins layout vehicle jobs stops order at base trip h).of_order

-- go on with the plan where there is one
pub made_planned : (P : Effect → Type 0) (plan : Result Trip PlanFault) (rest : Trip → Outcome) → ((trip : Trip) → plan ≡ Ok trip → IfMade P (rest trip)) → IfMade P (if_planned plan rest)
unfolding if_planned
made_planned P (Ok trip) rest h = h trip refl
made_planned P (Err why) rest h = tt

module _ (given : Given) (world : World) (in_order : IsInOrder world) where
  abbrev P : Effect → Type 0
  P = LeadsTo world

  -- a trip of an order whose name was not used is of no order that is open
  pub fresh : (order : List ℕ) (trip : Trip) → is_used world used.Order order ≡ false → trip.order ≡ order → (other : VehicleKey) (more : Trip) → HasTrip world other more → trip.order ≢ more.order
  unfolding is_used
  fresh order trip unused named other more has same =
      apart (sym (in_order.used other more has) ∙ ap (set.contains world.orders) (sym same ∙ named) ∙ unused)

  pub sends_trip : (asked : AskedOrder) (row : VehicleRow) (jobs : List Job) (trip : Trip)
      → is_used world used.Order asked.order ≡ false → row_of world asked.key ≡ Some row → trip_of world asked.key ≡ None → trip.order ≡ asked.order
      → IfMade P (send_trip world asked row jobs trip)
  sends_trip asked row jobs trip unused there idle named =
      made_unheld P _ _ (λ opened. made_refuse_if_none P _ _ _ (λ number next. made_refuse_unless P _ _ _ (λ few.
      let new = sent_on row asked.at number (Some trip) in
      leads given world in_order _ (lays_none world)
      (puts given world in_order asked.key (Some (vehicle_with row None)) new
      (known world asked.key row there ∙ ap (λ trip. Some (vehicle_with row trip)) idle)
      (given.new_trip world asked.key new in_order.one_trip trip refl (fresh asked.order trip unused named))
      (given.by_claim world asked.key new in_order.apart opened)
      tt))))

  sends_order : (asked : AskedOrder) (row : VehicleRow) (jobs : List Job)
      → is_used world used.Order asked.order ≡ false → row_of world asked.key ≡ Some row → trip_of world asked.key ≡ None
      → IfMade P (send_order world asked row jobs)
  sends_order asked row jobs unused there idle =
      made_refuse_if_none P _ _ _ (λ layout is_set. made_planned P _ _ (λ trip is_plan.
      sends_trip asked row jobs trip unused there idle (plan_of_order layout asked.key jobs asked.stops asked.order row.node asked.edges trip is_plan)))

  takes_order : (asked : AskedOrder) (row : VehicleRow) (jobs : List Job)
      → is_used world used.Order asked.order ≡ false → row_of world asked.key ≡ Some row → IfMade P (take_order world asked row jobs)
  takes_order asked row jobs unused there =
      made_refuse_unless P _ _ _ (λ a. made_refuse_unless P _ _ _ (λ b. made_refuse_unless P _ _ _ (λ idle.
      made_refuse_unless P _ _ _ (λ c. made_refuse_unless P _ _ _ (λ d. made_refuse_unless P _ _ _ (λ e. made_refuse_unless P _ _ _ (λ f.
      sends_order asked row jobs unused there (missing _ idle))))))))

  pub starts_order : (asked : AskedOrder) → IfMade P (start_order world asked)
  starts_order asked =
      made_refuse_unless P _ _ _ (λ unused. made_refuse_if_none P _ _ _ (λ row there. made_refuse_unless P _ _ _ (λ fit. made_refuse_if_none P _ _ _ (λ jobs are.
      takes_order asked row jobs (not_true _ unused) there))))

  -- the trip of an order is the open trip
  pub trip_is : (there : Option Trip) (order : List ℕ) (trip : Trip) → trip_for there order ≡ Some trip → there ≡ Some trip
  trip_is None order trip h = none_some h
  trip_is (Some other) order trip h = by_test (pointwise nat_eq other.order order) h
    where
      by_test : (same : Bool) → cond same (Some other) None ≡ Some trip → Some other ≡ Some trip
      by_test true e = e
      by_test false e = none_some e

  sends_update : (at : ℕ) (key : VehicleKey) (row : VehicleRow) (trip : Trip) (update edges : ℕ) → row_of world key ≡ Some row → trip_of world key ≡ Some trip
      → IfMade P (send_update world at key row trip update edges)
  sends_update at key row trip update edges there same =
      made_refuse_unless P _ _ _ (λ a. made_unheld P _ _ (λ opened. made_refuse_if_none P _ _ _ (λ number next.
      let new = sent_on row at number (Some (released trip edges)) in
      leads given world in_order _ (lays_none world)
      (puts given world in_order key (Some (vehicle_with row (Some trip))) new
      (known world key row there ∙ ap (λ trip. Some (vehicle_with row trip)) same)
      (given.further world key new in_order.one_trip trip (released trip edges) (has_trip world key trip same) refl refl)
      (given.by_claim world key new in_order.apart opened)
      (refl, refl)))))

  pub advances_trip : (at : ℕ) (key : VehicleKey) (order : List ℕ) (update edges : ℕ) → IfMade P (advance world at key order update edges)
  advances_trip at key order update edges =
      made_refuse_if_none P _ _ _ (λ row there. made_refuse_if_none P _ _ _ (λ trip is_trip. made_refuse_unless P _ _ _ (λ a.
      made_refuse_unless P _ _ _ (λ b. made_refuse_unless P _ _ _ (λ c. made_refuse_unless P _ _ _ (λ d.
      sends_update at key row trip update edges there (trip_is (trip_of world key) order trip is_trip)))))))
