-- A trip that was planned is well formed.
use Rattle.std.proofs.Common.{arith, ◌≡◌, ℕ, ◌+◌, ◌≤◌, ◌&&◌, not, nat_lt, Bool, true, false, List, [], ◌∷◌, length, Option, None, Some, Ok, Err, refl, sym, ap, subst, ◌∙◌, true≢false}
use Rattle.std.specs.List.{list_all}
use Rattle.std.specs.Prelude.{IsTrue, if◌then◌else◌}
use Rattle.std.proofs.lemmas.List.{length-map}
use Rattle.std.proofs.lemmas.Bool.Decides.{nat_tests}
use Rattle.agv_header.specs.declared.key.VehicleKey.{VehicleKey}
use Rattle.agv_layout.specs.Layout.{Layout}
use Rattle.agv_stock.specs.declared.job.Job.{Job}
use Rattle.agv_order.specs.Plans.{stop_routes_to, way_of, acts_along, trip_over, trip_along, planned}
use Rattle.agv_order.specs.Stops.{is_drop, are_paired, stops_fit}
use Rattle.agv_order.specs.Trips.{Task, plan_of, stop_of}
use Rattle.agv_order.specs.WellFormed.{AreInOrder, IsRising, IsWellFormed, is_reached, is_in_turn, has_not_begun}
use Rattle.agv_order.specs.declared.act.Act.{Act}
use Rattle.agv_order.specs.declared.fault.PlanFault.TheVariants as fault
use Rattle.agv_order.specs.declared.stop_route.StopRoute.{StopRoute}
use Rattle.agv_order.specs.declared.stop.Stop.{Stop}
use Rattle.agv_order.specs.declared.trip.Trip.{Trip}
use Rattle.agv_order.proofs.Stopping.{fitting_paired}
use Rattle.agv_order.proofs.Walked.{AreStopRoutes, are_legs}
use Rattle.agv_order.proofs.Ways.{tasks_along, way_known, whole_walk, tasks_stops, stations, rising}

-- ---- acts that have not begun
all_waiting : (from : ℕ) (stop_routes : List StopRoute) → list_all has_not_begun (acts_along from stop_routes) ≡ true
all_waiting from [] = refl
all_waiting from (stop_route ∷ stop_routes) = all_waiting (from + length stop_route.edges) stop_routes

all_reached : (seen from : ℕ) (stop_routes : List StopRoute) → list_all (is_reached seen) (acts_along from stop_routes) ≡ true
all_reached seen from [] = refl
all_reached seen from (stop_route ∷ stop_routes) = all_reached seen (from + length stop_route.edges) stop_routes

none_finished : (b : Bool) → not (b && false) ≡ true
none_finished true = refl
none_finished false = refl

all_in_turn : (all : List Act) (from : ℕ) (stop_routes : List StopRoute) → list_all (is_in_turn all) (acts_along from stop_routes) ≡ true
all_in_turn all from [] = refl
all_in_turn all from (stop_route ∷ stop_routes) = grind (arith, none_finished (is_drop stop_route.stop.kind), all_in_turn all (from + length stop_route.edges) stop_routes)

-- tasks that rise to the end of the way are in order
in_order : (tasks : List Task) (end : ℕ) → IsRising 0 tasks end → AreInOrder tasks end
in_order [] end up = tt
in_order (task ∷ tasks) end up = up

-- ---- the tests of a plan
pub by_bools : (long beyond : Bool) (made trip : Trip) → (if long then Err fault.TooLong else (if beyond then Err fault.Beyond else Ok made)) ≡ Ok trip
    → (long ≡ false) × (beyond ≡ false) × (made ≡ trip)
by_bools true beyond made trip e = cc
by_bools false true made trip e = cc
by_bools false false made trip e = (refl, refl, cc)

pub not_above : (n m : ℕ) → nat_lt n m ≡ false → m ≤ n
not_above n m e = grind (arith, nat_tests)

module _ (layout : Layout) (jobs : List Job) (vehicle : VehicleKey) (order : List ℕ) (at : List ℕ) (base : ℕ) where
  -- over routes that are there, not too long, with a base within
  over_legs : (stop : Stop) (stops : List Stop) (stop_routes : List StopRoute) → stops_fit (stop ∷ stops) ≡ true → length (stop ∷ stops) ≤ 8 → AreStopRoutes layout jobs at (stop ∷ stops) stop_routes
      → length (way_of stop_routes) ≤ 200 → base ≤ length (way_of stop_routes) → IsWellFormed layout (trip_over vehicle order at base stop_routes)
  over_legs stop stops [] fit few are short within = elim are [ ]
  over_legs stop stops (stop_route ∷ stop_routes) fit few are short within =
      let all : List StopRoute = stop_route ∷ stop_routes in
      let made = tasks_stops layout jobs 0 at (stop ∷ stops) all are in
      let from_zero : 0 + length (way_of all) ≡ length (way_of all) = omega arith in
      let count : length (tasks_along 0 all) ≡ length (stop ∷ stops) = sym (length-map (tasks_along 0 all) stop_of) ∙ ap length made in
      record {
        planned = record {
          walk = whole_walk layout jobs at stop stops all are;
          edges = way_known layout jobs at (stop ∷ stops) all are;
          short = short;
          stops = ap are_paired made ∙ fitting_paired (stop ∷ stops) fit;
          few = omega (arith, count, few);
          rising = in_order (tasks_along 0 all) (length (way_of all)) (subst (IsRising 0 (tasks_along 0 all)) from_zero (rising 0 all));
          stations = stations layout jobs at (stop ∷ stops) all (plan_of (trip_over vehicle order at base all)) are refl refl;
        };
        under_way = record {
          in_base = omega arith;
          on_way = within;
          seen_released = omega arith;
          sent_released = omega arith;
          begins = λ _. refl;
          grows = λ none. absurd (omega (arith, none));
          confirmed = (refl, refl, refl, all_waiting 0 all);
          reached = all_reached 0 0 all;
          in_turn = all_in_turn (acts_along 0 all) 0 all;
          is_open = λ ended. true≢false (sym ended.1);
        };
      }

  some_stop : (stops : List Stop) (stop_routes : List StopRoute) → stops_fit stops ≡ true → length stops ≤ 8 → AreStopRoutes layout jobs at stops stop_routes
      → length (way_of stop_routes) ≤ 200 → base ≤ length (way_of stop_routes) → IsWellFormed layout (trip_over vehicle order at base stop_routes)
  unfolding stops_fit
  some_stop [] stop_routes fit few are short within = absurd (true≢false (sym fit))
  some_stop (stop ∷ stops) stop_routes fit few are short within = over_legs stop stops stop_routes fit few are short within

  -- whatever the tests say, a trip comes only where they pass
  pub by_tests : (stop_routes : List StopRoute) (trip : Trip) → trip_along vehicle order at base (Some stop_routes) ≡ Ok trip
      → (length (way_of stop_routes) ≤ 200) × (base ≤ length (way_of stop_routes)) × (trip_over vehicle order at base stop_routes ≡ trip)
  by_tests stop_routes trip e =
      let tests = by_bools (nat_lt 200 (length (way_of stop_routes))) (nat_lt (length (way_of stop_routes)) base) (trip_over vehicle order at base stop_routes) trip e in
      (not_above 200 (length (way_of stop_routes)) tests.0, not_above (length (way_of stop_routes)) base tests.1, tests.2)

  by_legs : (stops : List Stop) (found : Option (List StopRoute)) (trip : Trip) → stops_fit stops ≡ true → length stops ≤ 8
      → ((stop_routes : List StopRoute) → found ≡ Some stop_routes → AreStopRoutes layout jobs at stops stop_routes) → trip_along vehicle order at base found ≡ Ok trip → IsWellFormed layout trip
  by_legs stops None trip fit few are e = cc
  by_legs stops (Some stop_routes) trip fit few are e =
      let tests = by_tests stop_routes trip e in
      subst (IsWellFormed layout) tests.2 (some_stop stops stop_routes fit few (are stop_routes refl) tests.0 tests.1)

-- a planned trip is well formed
pub planned_well : (layout : Layout) (vehicle : VehicleKey) (jobs : List Job) (stops : List Stop) (order at : List ℕ) (base : ℕ) (trip : Trip)
    → IsTrue (stops_fit stops) → length stops ≤ 8 → planned layout vehicle jobs stops order at base ≡ Ok trip → IsWellFormed layout trip
planned_well layout vehicle jobs stops order at base trip fit few e =
    by_legs layout jobs vehicle order at base stops (stop_routes_to layout jobs at stops) trip fit few (λ stop_routes f. are_legs layout jobs at stops stop_routes f) e
