-- The stock invariant holds after an order is begun.
use Rattle.std.proofs.Common.{◌≡◌, ◌+◌, ◌≤◌, ℕ, true, nat_le, IsTrue, List, count_by, filter_map, None, Some, Result, Ok, Err, refl, sym, ap, subst, ◌∙◌, arith}
use Rattle.std.proofs.lemmas.Bool.Decides.{nat_tests}
use Rattle.std.specs.FinMap as finite
use Rattle.std.specs.List.{list_all}
use Rattle.agv_header.specs.declared.key.VehicleKey.{VehicleKey}
use Rattle.agv_layout.specs.Layout.{Layout}
use Rattle.agv_order.specs.Plans.{planned}
use Rattle.agv_order.specs.StopPlaces.{ArePaired, stop_picks}
use Rattle.agv_order.specs.Stops.{are_paired, stops_fit}
use Rattle.agv_order.specs.Tours.{IsPlanOf}
use Rattle.agv_order.specs.declared.fault.PlanFault.{PlanFault}
use Rattle.agv_order.specs.declared.stop.Stop.{Stop}
use Rattle.agv_order.specs.declared.trip.Trip.{Trip}
use Rattle.agv_stock.specs.declared.job.Job.{Job}
use Rattle.agv_world_core.specs.StockInvariant.{StockInvariant, HasStockInvariant, capacity_for, capacity_of, action_views_for, action_views_of}
use Rattle.agv_world_core.specs.Questions.{loads_on, row_of, trip_of, loads_on_vehicle}
use Rattle.agv_world_core.specs.TableChanges.{written}
use Rattle.agv_world_core.specs.VehicleChanges.{with_vehicle}
use Rattle.agv_world_core.specs.Worlds.{World}
use Rattle.agv_world_core.specs.declared.row.VehicleRow.{VehicleRow}
use Rattle.agv_desk.specs.OrderParts.{send_order, send_trip}
use Rattle.agv_desk.specs.OrderSteps.{AskedOrder, if_planned, jobs_for, sent_on, start_order, waits}
use Rattle.agv_desk.specs.Outcomes.{Effect, Outcome}
use Rattle.agv_desk.proofs.stock.StockInvariantTrips.{PairsAsSaid, depart}
use Rattle.agv_desk.proofs.outcomes.Keeping.{KeepsStock}
use Rattle.agv_desk.proofs.outcomes.Known.{known, vehicle_with}
use Rattle.agv_desk.proofs.outcomes.Ladders.{IfMade, made_refuse_if_none, made_refuse_unless, made_unheld}
use Rattle.agv_desk.proofs.trip_acts.OrderJobs.{acts_begin, begins, riding_is, stops_made, stops_wait}
use Rattle.agv_desk.proofs.trip_acts.Starts.{starts}
use Rattle.agv_desk.proofs.row_changes.Steps.{missing}

-- what the laws of the crates below say of plans
abbrev pub PlansGoByRoutes : Type 0
PlansGoByRoutes = (layout : Layout) (jobs : List Job) (vehicle : VehicleKey) (stops : List Stop) (order at : List ℕ) (base : ℕ) (trip : Trip)
    → planned layout vehicle jobs stops order at base ≡ Ok trip → IsPlanOf layout jobs stops at base trip

abbrev pub FittingArePaired : Type 0
FittingArePaired = (stops : List Stop) → IsTrue (stops_fit stops) → IsTrue (are_paired stops)

-- go on with the plan where there is one
pub made_planned : (P : Effect → Type 0) (plan : Result Trip PlanFault) (rest : Trip → Outcome) → ((trip : Trip) → plan ≡ Ok trip → IfMade P (rest trip)) → IfMade P (if_planned plan rest)
unfolding if_planned
made_planned P (Ok trip) rest h = h trip refl
made_planned P (Err why) rest h = tt

le_of : (n m : ℕ) → nat_le n m ≡ true → n ≤ m
le_of n m e = grind (arith, nat_tests)

-- the test of what a vehicle may carry
capacity_on_vehicle : (world : World) (key : VehicleKey) (more capacity : ℕ) → nat_le (loads_on world key + more) capacity ≡ true → loads_on_vehicle world.places key + more ≤ capacity
unfolding loads_on
capacity_on_vehicle world key more capacity e = le_of _ _ e

module _ (fits : PairsAsSaid) (paired : FittingArePaired) (plans : PlansGoByRoutes) (world : World) (stock : HasStockInvariant world) where
  abbrev P : Effect → Type 0
  P = KeepsStock world

  module _ (asked : AskedOrder) (row : VehicleRow) (jobs : List Job) (there : row_of world asked.key ≡ Some row) (idle : trip_of world asked.key ≡ None)
      (can : ArePaired asked.stops) (read : jobs_for world asked.stops ≡ Some jobs) (wait : list_all waits jobs ≡ true)
      (free : loads_on_vehicle world.places asked.key + count_by stop_picks asked.stops ≤ row.capacity) where
    here : finite.get world.vehicles asked.key ≡ Some (vehicle_with row None)
    here = known world asked.key row there ∙ ap (λ trip. Some (vehicle_with row trip)) idle

    trip_keeps : (layout : Layout) (trip : Trip) → planned layout asked.key jobs asked.stops asked.order row.node asked.edges ≡ Ok trip → IfMade P (send_trip world asked row jobs trip)
    trip_keeps layout trip is =
        let stops = asked.stops in
        let plan : IsPlanOf layout jobs stops row.node asked.edges trip = plans layout jobs asked.key stops asked.order row.node asked.edges trip is in
        let kept : StockInvariant world.layout _ (capacity_of world) world.places (written world.jobs (filter_map (begins world) stops)) =
        starts world stock asked.key trip.acts stops (ap action_views_for here) (stops_made world stops jobs read layout row.node 0 stops trip.edges trip.acts plan.goes) can
        (acts_begin world stops jobs read layout row.node 0 stops trip.edges trip.acts plan.goes)
        (stops_wait world stops jobs read wait) (subst (λ n. loads_on_vehicle world.places asked.key + count_by stop_picks stops ≤ n) (sym (ap capacity_for here)) free) in
        made_unheld P _ _ (λ opened. made_refuse_if_none P _ _ _ (λ number next. made_refuse_unless P _ _ _ (λ few.
        let after = with_vehicle world asked.key (sent_on row asked.at number (Some trip)) in
        record {
          stock =
              subst (λ entries. StockInvariant world.layout (action_views_of after) (capacity_of after) world.places (written world.jobs entries))
              (sym (riding_is world stops jobs read))
              (depart world asked.key (vehicle_with row None) here (sent_on row asked.at number (Some trip)) refl world.places (written world.jobs (filter_map (begins world) stops)) kept);
        })))

    order_keeps : IfMade P (send_order world asked row jobs)
    order_keeps = made_refuse_if_none P _ _ _ (λ layout is_set. made_planned P _ _ (λ trip is. trip_keeps layout trip is))

  pub start_keeps : (asked : AskedOrder) → IfMade P (start_order world asked)
  start_keeps asked =
      made_refuse_unless P _ _ _ (λ unused. made_refuse_if_none P _ _ _ (λ row there. made_refuse_unless P _ _ _ (λ fit. made_refuse_if_none P _ _ _ (λ jobs read.
      made_refuse_unless P _ _ _ (λ new. made_refuse_unless P _ _ _ (λ wait. made_refuse_unless P _ _ _ (λ idle. made_refuse_unless P _ _ _ (λ no_rest.
      made_refuse_unless P _ _ _ (λ free. made_refuse_unless P _ _ _ (λ ready. made_refuse_unless P _ _ _ (λ going.
      order_keeps asked row jobs there (missing _ idle) ((fits asked.stops).0 (paired asked.stops fit)) read wait (capacity_on_vehicle world asked.key (count_by stop_picks asked.stops) row.capacity free))))))))))))
