-- The calls of orders keep the layout, the vehicles and their trips lawful.
use Rattle.std.proofs.Common.{arith, ◌≡◌, ◌+◌, ◌*◌, ◌<◌, ◌≤◌, ℕ, nat_lt, nat_le, true, false, count_by, filter, List, length, Option, None, Some, Ok, true≢false, refl, sym, ap, subst, ltb-true, leb-true, eqb-true, ◌∙◌}
use Rattle.std.proofs.lemmas.Bool.{and_parts}
use Rattle.std.proofs.lemmas.List.Sums.{length-filter}
use Rattle.std.specs.FinSet as set
use Rattle.agv_header.specs.Limits.{most_records}
use Rattle.agv_header.specs.Name.{IsName}
use Rattle.agv_header.specs.declared.key.VehicleKey.{VehicleKey}
use Rattle.agv_layout.specs.Layout.{Layout, KeepsRules}
use Rattle.agv_order.specs.Plans.{planned}
use Rattle.agv_order.specs.Releases.{CanRelease, released}
use Rattle.agv_order.specs.StopPlaces.{stop_picks}
use Rattle.agv_order.specs.Stops.{stops_fit}
use Rattle.agv_order.specs.Trips.{node_at}
use Rattle.agv_order.specs.WellFormed.{IsWellFormed}
use Rattle.agv_order.specs.declared.stop.Stop.{Stop}
use Rattle.agv_order.specs.declared.trip.Trip.{Trip}
use Rattle.agv_stock.specs.declared.job.Job.{Job}
use Rattle.agv_world_core.specs.ConsistentTrips.{IsVehicle}
use Rattle.agv_world_core.specs.Lawful.{picks}
use Rattle.agv_world_core.specs.LawfulParts.{HasLawfulVehicles, IsTripOf}
use Rattle.agv_world_core.specs.Questions.{given as set_where, row_of, trip_of, is_used, layout_set, loads_on, count_of}
use Rattle.agv_world_core.specs.TableChanges.{with_use}
use Rattle.agv_world_core.specs.VehicleChanges.{with_vehicle}
use Rattle.agv_world_core.specs.Worlds.{World}
use Rattle.agv_world_core.specs.declared.floor.Counted.TheVariants as counted
use Rattle.agv_world_core.specs.declared.key.UseKind.TheVariants as used
use Rattle.agv_world_core.specs.declared.row.VehicleRow.{VehicleRow}
use Rattle.agv_desk.specs.OrderParts.{send_trip, send_order, take_order}
use Rattle.agv_desk.specs.OrderSteps.{AskedOrder, is_last_confirmed, can_release, sent_on, start_order, send_update, advance}
use Rattle.agv_desk.specs.Outcomes.{Effect}
use Rattle.agv_desk.specs.WellTyped.{IsMoment, IsSeats}
use Rattle.agv_desk.proofs.row_changes.Given.{Given}
use Rattle.agv_desk.proofs.outcomes.Keeping.{KeepsVehicles}
use Rattle.agv_desk.proofs.outcomes.Known.{same_some, vehicle_with, known}
use Rattle.agv_desk.proofs.outcomes.Ladders.{IfMade, made_refuse_unless, made_refuse_if_none, made_unheld}
use Rattle.agv_desk.proofs.lawful_worlds.LawfulVehiclesGiven.{GivenMore}
use Rattle.agv_desk.proofs.lawful_worlds.LawfulVehiclesRows.{ordered_row, some_sent}
use Rattle.agv_desk.proofs.lawful_worlds.LawfulVehiclesTrips.{planned_picks}
use Rattle.agv_desk.proofs.lawful_worlds.LawfulVehiclesWritten.{as_many_vehicles, is_in_order, keeps_rules, moves_loads, used_now, uses_order, writes}
use Rattle.agv_desk.proofs.row_changes.OrderRows.{fresh, made_planned, plan_of_order, plan_begins, trip_is}
use Rattle.agv_desk.proofs.row_changes.Steps.{missing, not_true}

few_orders : (world : World) → nat_lt (count_of world counted.Orders) most_records ≡ true → set.len world.orders < 1000000
unfolding count_of
few_orders world few = ltb-true (set.len world.orders) 1000000 few

-- stops that fit are at most eight, where their picks are at most the places of a vehicle
few_stops : (stops : List Stop) (loads capacity seats : ℕ) → length stops ≡ 2 * length (filter stop_picks stops) → loads + count_by stop_picks stops ≤ capacity → capacity ≤ seats → seats ≤ 4 → length stops ≤ 8
few_stops stops loads capacity seats twice fits seated few = omega (arith, twice, length-filter stop_picks stops, fits, seated, few)

-- the last update was confirmed
confirmed_is : (confirmed : Option ℕ) (sent : ℕ) → is_last_confirmed confirmed sent ≡ true → confirmed ≡ Some sent
confirmed_is None sent h = absurd (true≢false (sym h))
confirmed_is (Some update) sent h = ap Some (eqb-true update sent h)

can_be_released : (trip : Trip) (edges : ℕ) → can_release trip edges ≡ true → CanRelease trip edges
can_be_released trip edges h = let each = and_parts (nat_lt 0 edges) (nat_le (trip.base + edges) (length trip.edges)) h in (ltb-true 0 edges each.0, leb-true (trip.base + edges) (length trip.edges) each.1)

-- a trip that the vehicle may be sent on
pub record MayBeSent (layout : Layout) (key : VehicleKey) (row : VehicleRow) (trip : Trip) : Type 0 where
  pub well_formed : IsWellFormed layout trip
  pub own : trip.vehicle ≡ key
  pub picks_fit : count_by picks trip.acts ≤ row.capacity
  pub stands : node_at trip trip.seen ≡ Some row.node
  pub no_rest : row.rest ≡ None

-- and when it was sent
is_sent_on : (layout : Layout) (key : VehicleKey) (row : VehicleRow) (at number : ℕ) (trip : Trip) → MayBeSent layout key row trip → 0 < number → IsTripOf layout key (sent_on row at number (Some trip)).row trip
is_sent_on layout key row at number trip may sent = record {
  well_formed = may.well_formed;
  own = may.own;
  picks_fit = may.picks_fit;
  sent = sent;
  stands = may.stands;
  no_rest = may.no_rest;
}

module _ (given : Given) (more : GivenMore) (seats : ℕ) (world : World) (lawful : HasLawfulVehicles seats world) where
  abbrev P : Effect → Type 0
  P = KeepsVehicles seats world

  -- ---- a new order

  -- a layout that is set is that of the world
  pub layout_is : (layout : Layout) → KeepsRules world.layout → layout_set world ≡ Some layout → layout ≡ world.layout
  unfolding layout_set
  layout_is layout keeps is = same_some (sym is ∙ ap set_where (given.gives world.layout keeps))

  -- what is planned may be sent
  may_be_sent : (asked : AskedOrder) (row : VehicleRow) (jobs : List Job) (trip : Trip)
      → planned world.layout asked.key jobs asked.stops asked.order row.node asked.edges ≡ Ok trip
      → stops_fit asked.stops ≡ true → length asked.stops ≤ 8 → count_by stop_picks asked.stops ≤ row.capacity → row.rest ≡ None
      → MayBeSent world.layout asked.key row trip
  may_be_sent asked row jobs trip plan fit few picks_fit no_rest =
      let begun = plan_begins world.layout asked.key jobs asked.stops asked.order row.node asked.edges trip plan in
      let goes = more.goes world.layout jobs asked.key asked.stops asked.order row.node asked.edges trip plan in
      record {
        well_formed = more.plans world.layout asked.key jobs asked.stops asked.order row.node asked.edges trip fit few plan;
        own = begun.own;
        picks_fit = subst (λ n. n ≤ row.capacity) (sym (planned_picks world.layout jobs row.node 0 asked.stops trip.edges trip.acts goes.goes)) picks_fit;
        stands = begun.stands;
        no_rest = no_rest;
      }

  pub sends_trip : (asked : AskedOrder) (row : VehicleRow) (jobs : List Job) (trip : Trip)
      → IsMoment asked.at → IsName asked.order → is_used world used.Order asked.order ≡ false → row_of world asked.key ≡ Some row → trip_of world asked.key ≡ None
      → trip.order ≡ asked.order → MayBeSent world.layout asked.key row trip
      → IfMade P (send_trip world asked row jobs trip)
  sends_trip asked row jobs trip moment named unused there idle of_order may =
      made_unheld P _ _ (λ opened. made_refuse_if_none P _ _ _ (λ number next. made_refuse_unless P _ _ _ (λ few.
      let old = vehicle_with row None in
      let new = sent_on row asked.at number (Some trip) in
      let is : IsVehicle world asked.key old = known world asked.key row there ∙ ap (λ trip. Some (vehicle_with row trip)) idle in
      let noted = with_use world used.Order asked.order in
      let kept = uses_order seats world lawful asked.order (few_orders world few) named in
      let noted_now = subst (λ name. set.contains noted.orders name ≡ true) (sym of_order) (used_now world.orders asked.order) in
      let sent = is_sent_on world.layout asked.key row asked.at number trip may (some_sent row.orders number next) in
      let written = writes seats noted kept asked.key new (record {
        few = as_many_vehicles world asked.key old new is lawful.few_vehicles;
        named = lawful.vehicles_named asked.key old is;
        vehicle = ordered_row seats world.layout row (lawful.vehicles asked.key old is) number asked.at (Some trip) next moment;
        trip = λ other e. subst (λ (t : Trip). IsTripOf world.layout asked.key new.row t × (set.contains noted.orders t.order ≡ true)) (same_some e) (sent, noted_now);
        one_trip = given.new_trip world asked.key new lawful.one_trip trip refl (fresh given world (is_in_order seats world lawful) asked.order trip unused of_order);
        apart = given.by_claim world asked.key new lawful.apart opened;
      }) in
      record { vehicles = moves_loads seats (with_vehicle noted asked.key new) written _ _ })))

  sends_order : (asked : AskedOrder) (row : VehicleRow) (jobs : List Job)
      → IsMoment asked.at → IsName asked.order → is_used world used.Order asked.order ≡ false → row_of world asked.key ≡ Some row → trip_of world asked.key ≡ None
      → stops_fit asked.stops ≡ true → length asked.stops ≤ 8 → count_by stop_picks asked.stops ≤ row.capacity → row.rest ≡ None
      → IfMade P (send_order world asked row jobs)
  sends_order asked row jobs moment named unused there idle fit few picks_fit no_rest =
      made_refuse_if_none P _ _ _ (λ layout is_set. made_planned P _ _ (λ trip is_plan.
      let keeps = keeps_rules seats world lawful asked.key (vehicle_with row (trip_of world asked.key)) (known world asked.key row there) in
      let plan = subst (λ layout. planned layout asked.key jobs asked.stops asked.order row.node asked.edges ≡ Ok trip) (layout_is layout keeps is_set) is_plan in
      sends_trip asked row jobs trip moment named unused there idle (plan_of_order layout asked.key jobs asked.stops asked.order row.node asked.edges trip is_plan)
      (may_be_sent asked row jobs trip plan fit few picks_fit no_rest)))

  takes_order : (asked : AskedOrder) (row : VehicleRow) (jobs : List Job)
      → IsSeats seats → IsMoment asked.at → IsName asked.order → is_used world used.Order asked.order ≡ false → row_of world asked.key ≡ Some row → stops_fit asked.stops ≡ true
      → IfMade P (take_order world asked row jobs)
  takes_order asked row jobs is_seats moment named unused there fit =
      made_refuse_unless P _ _ _ (λ a. made_refuse_unless P _ _ _ (λ b. made_refuse_unless P _ _ _ (λ idle. made_refuse_unless P _ _ _ (λ astray.
      made_refuse_unless P _ _ _ (λ within_capacity. made_refuse_unless P _ _ _ (λ e. made_refuse_unless P _ _ _ (λ f.
      let fits = leb-true (loads_on world asked.key + count_by stop_picks asked.stops) row.capacity within_capacity in
      let places = (lawful.vehicles asked.key (vehicle_with row (trip_of world asked.key)) (known world asked.key row there)).seated in
      let few = few_stops asked.stops (loads_on world asked.key) row.capacity seats (more.twice asked.stops (more.paired asked.stops fit)) fits places is_seats.1 in
      sends_order asked row jobs moment named unused there (missing _ idle) fit few (omega (arith, fits)) (missing _ astray))))))))

  pub starts_order : (asked : AskedOrder) → IsSeats seats → IsMoment asked.at → IsName asked.order → IfMade P (start_order world asked)
  starts_order asked is_seats moment named =
      made_refuse_unless P _ _ _ (λ unused. made_refuse_if_none P _ _ _ (λ row there. made_refuse_unless P _ _ _ (λ fit. made_refuse_if_none P _ _ _ (λ jobs are.
      takes_order asked row jobs is_seats moment named (not_true _ unused) there fit))))

  -- ---- an update

  sends_update : (at : ℕ) (key : VehicleKey) (row : VehicleRow) (trip : Trip) (update edges : ℕ) → IsMoment at → row_of world key ≡ Some row → trip_of world key ≡ Some trip → trip.confirmed ≡ Some trip.sent
      → IfMade P (send_update world at key row trip update edges)
  sends_update at key row trip update edges moment there same confirmed =
      made_refuse_unless P _ _ _ (λ can. made_unheld P _ _ (λ opened. made_refuse_if_none P _ _ _ (λ number next.
      let further = released trip edges in
      let old = vehicle_with row (Some trip) in
      let new = sent_on row at number (Some further) in
      let is : IsVehicle world key old = known world key row there ∙ ap (λ trip. Some (vehicle_with row trip)) same in
      let of = lawful.trips key old trip is refl in
      let may : MayBeSent world.layout key row further = record {
        well_formed = more.releases world.layout trip edges of.well_formed confirmed (can_be_released trip edges can);
        own = of.own;
        picks_fit = of.picks_fit;
        stands = of.stands;
        no_rest = of.no_rest;
      } in
      let sent = is_sent_on world.layout key row at number further may (some_sent row.orders number next) in
      record {
        vehicles = writes seats world lawful key new (record {
          few = as_many_vehicles world key old new is lawful.few_vehicles;
          named = lawful.vehicles_named key old is;
          vehicle = ordered_row seats world.layout row (lawful.vehicles key old is) number at (Some further) next moment;
          trip = λ other e. subst (λ (t : Trip). IsTripOf world.layout key new.row t × (set.contains world.orders t.order ≡ true)) (same_some e) (sent, lawful.used key trip (old, is, refl));
          one_trip = given.further world key new lawful.one_trip trip further (old, is, refl) refl refl;
          apart = given.by_claim world key new lawful.apart opened;
        });
      })))

  pub advances_trip : (at : ℕ) (key : VehicleKey) (order : List ℕ) (update edges : ℕ) → IsMoment at → IfMade P (advance world at key order update edges)
  advances_trip at key order update edges moment =
      made_refuse_if_none P _ _ _ (λ row there. made_refuse_if_none P _ _ _ (λ trip found. made_refuse_unless P _ _ _ (λ a.
      made_refuse_unless P _ _ _ (λ confirmed. made_refuse_unless P _ _ _ (λ c. made_refuse_unless P _ _ _ (λ d.
      sends_update at key row trip update edges moment there (trip_is given world (is_in_order seats world lawful) (trip_of world key) order trip found) (confirmed_is trip.confirmed trip.sent confirmed)))))))
