-- A state keeps the layout, the vehicles and their trips lawful.
use Rattle.std.proofs.Common.{◌≡◌, ◌≤◌, ℕ, Bool, true, false, cond, List, Option, None, Some, Ok, is_some, refl, sym, ap, subst, ◌∙◌}
use Rattle.std.specs.FinSet as set
use Rattle.std.specs.Option.{unwrap_or}
use Rattle.agv_header.specs.declared.key.VehicleKey.{VehicleKey}
use Rattle.agv_layout.specs.Layout.{Layout, IsNode, KeepsRules}
use Rattle.agv_message_core.specs.declared.state.StateMessage.{StateMessage}
use Rattle.agv_order.specs.Trips.{Plan, node_at}
use Rattle.agv_order.specs.declared.trip.Trip.{Trip}
use Rattle.agv_track.specs.Judgements.{judged}
use Rattle.agv_track.specs.Progressed.{Advances, progressed}
use Rattle.agv_track.specs.declared.progress.End.{End}
use Rattle.agv_track.specs.declared.progress.End.TheVariants.{Stopped}
use Rattle.agv_track.specs.declared.progress.Progress.{Progress}
use Rattle.agv_world_core.specs.ConsistentTrips.{IsVehicle}
use Rattle.agv_world_core.specs.Lawful.{IsRestAt}
use Rattle.agv_world_core.specs.LawfulParts.{HasLawfulVehicles, IsTripOf, IsVehicleOf}
use Rattle.agv_world_core.specs.Questions.{row_of, trip_of}
use Rattle.agv_world_core.specs.VehicleChanges.{with_vehicle}
use Rattle.agv_world_core.specs.Worlds.{World}
use Rattle.agv_world_core.specs.declared.row.VehicleRow.{VehicleRow}
use Rattle.agv_desk.specs.Outcomes.{Effect}
use Rattle.agv_desk.specs.StateSteps.{pending_of, with_state, row_after, trip_state, fresh_state, take_state}
use Rattle.agv_desk.proofs.row_changes.Given.{Given}
use Rattle.agv_desk.proofs.outcomes.Keeping.{KeepsVehicles}
use Rattle.agv_desk.proofs.outcomes.Known.{none_some, same_some, vehicle_with, known}
use Rattle.agv_desk.proofs.outcomes.Ladders.{IfMade, made_refuse_unless, made_refuse_if_none, made_branch, made_judged}
use Rattle.agv_desk.proofs.lawful_worlds.LawfulVehiclesGiven.{GivenMore}
use Rattle.agv_desk.proofs.lawful_worlds.LawfulVehiclesPlain.{takes_idle}
use Rattle.agv_desk.proofs.lawful_worlds.LawfulVehiclesRows.{accepted_row, moved_row}
use Rattle.agv_desk.proofs.lawful_worlds.LawfulVehiclesTrips.{next_is_rest, same_picks, way_nodes}
use Rattle.agv_desk.proofs.lawful_worlds.LawfulVehiclesWritten.{as_many_vehicles, is_in_order, keeps_rules, moves_loads, writes}
use Rattle.agv_desk.proofs.row_changes.StateRows.{holds_less, one_trip, vehicle_after}

none_there : {A : Type 0} (there : Option A) → is_some there ≡ false → there ≡ None
none_there None e = refl
none_there (Some x) e = cc

stopped_not_none : (ending : Option End) → ending ≡ None → ending ≡ Some Stopped → ⊥
stopped_not_none ending none stopped = none_some (sym none ∙ stopped)

-- ---- a vehicle and its trip after a state that was judged

module _ (more : GivenMore) (seats : ℕ) (layout : Layout) (key : VehicleKey) (row : VehicleRow) (trip : Trip) (of : IsTripOf layout key row trip) (state : StateMessage) (progress : Progress) (step : Advances trip progress) where
  -- the node that was reached
  reached : unwrap_or (node_at trip progress.seen) row.node ≡ step.node.0
  reached = ap (λ there. unwrap_or there row.node) step.node.1

  reached_node : KeepsRules layout → IsNode layout step.node.0
  reached_node keeps =
      let planned = of.well_formed.planned in
      way_nodes layout keeps trip.start planned.walk.0 trip.edges planned.edges planned.walk.1 progress.seen step.node.0 step.node.1

  rest_there : (rest : Option (List ℕ × List ℕ)) → progress.rest ≡ rest → IsRestAt layout step.node.0 rest
  rest_there None is = tt
  rest_there (Some rest) is =
      let planned = of.well_formed.planned in
      next_is_rest layout trip planned.walk.0 planned.edges planned.walk.1 progress.seen step.node.0 step.node.1 rest (step.rest rest is).1

  pub lawful_after : KeepsRules layout → state.header_id ≤ 4294967295 → IsVehicleOf seats layout row → IsVehicleOf seats layout (row_after row trip state progress)
  lawful_after keeps numbered vehicle =
      moved_row seats layout (with_state row state progress.pending_over) (accepted_row seats layout row vehicle state progress.pending_over numbered) (unwrap_or (node_at trip progress.seen) row.node) progress.rest
      (subst (IsNode layout) (sym reached) (reached_node keeps))
      (subst (λ node. IsRestAt layout node progress.rest) (sym reached) (rest_there progress.rest refl))

  -- there is a rest only where the trip has stopped
  rest_none : (rest : Option (List ℕ × List ℕ)) → progress.rest ≡ rest → progress.«end» ≡ None → rest ≡ None
  rest_none None is goes_on = refl
  rest_none (Some rest) is goes_on = absurd (stopped_not_none progress.«end» goes_on (step.rest rest is).0)

  pub trip_after : judged trip (pending_of row) state ≡ Ok progress → progress.«end» ≡ None → IsTripOf layout key (row_after row trip state progress) (progressed trip progress)
  trip_after is goes_on = record {
    well_formed = more.stays layout trip (pending_of row) state progress of.well_formed is goes_on;
    own = of.own;
    picks_fit = subst (λ n. n ≤ row.capacity) (sym (same_picks (progressed trip progress).acts trip.acts (ap (λ (plan : Plan). plan.tasks) step.plan))) of.picks_fit;
    sent = of.sent;
    stands = step.node.1 ∙ ap Some (sym reached);
    no_rest = rest_none progress.rest refl goes_on;
  }

-- ---- the call

module _ (given : Given) (more : GivenMore) (seats : ℕ) (world : World) (lawful : HasLawfulVehicles seats world) where
  abbrev P : Effect → Type 0
  P = KeepsVehicles seats world

  module _ (key : VehicleKey) (row : VehicleRow) (trip : Trip) (state : StateMessage) (numbered : state.header_id ≤ 4294967295) (there : row_of world key ≡ Some row) (same : trip_of world key ≡ Some trip) where
    was : IsVehicle world key (vehicle_with row (Some trip))
    was = known world key row there ∙ ap (λ trip. Some (vehicle_with row trip)) same

    -- what a trip that is left is
    trip_kept : (progress : Progress) → Advances trip progress → judged trip (pending_of row) state ≡ Ok progress → (ended : Bool) → is_some progress.«end» ≡ ended
        → (other : Trip) → cond ended None (Some (progressed trip progress)) ≡ Some other
        → IsTripOf world.layout key (row_after row trip state progress) other × (set.contains world.orders other.order ≡ true)
    trip_kept progress step is true over other e = none_some e
    trip_kept progress step is false over other e =
        subst (λ (t : Trip). IsTripOf world.layout key (row_after row trip state progress) t × (set.contains world.orders t.order ≡ true)) (same_some e)
        (trip_after more seats world.layout key row trip (lawful.trips key _ trip was refl) state progress step is (none_there _ over), lawful.used key trip (vehicle_with row (Some trip), was, refl))

    pub goes_on_trip : IfMade P (trip_state world key row trip state)
    goes_on_trip =
        made_judged P _ _ (λ progress is.
        let in_order = is_in_order seats world lawful in
        let old = vehicle_with row (Some trip) in
        let new = vehicle_after row trip state progress in
        let of = lawful.trips key old trip was refl in
        let opened = in_order.open_trips key trip (old, was, refl) in
        let step = given.advances trip (pending_of row) state progress opened.under_way opened.few is in
        let written = writes seats world lawful key new (record {
          few = as_many_vehicles world key old new was lawful.few_vehicles;
          named = lawful.vehicles_named key old was;
          vehicle = lawful_after more seats world.layout key row trip of state progress step (keeps_rules seats world lawful key old was) numbered (lawful.vehicles key old was);
          trip = trip_kept progress step is (is_some progress.«end») refl;
          one_trip = one_trip given world in_order key row trip state there same progress (is_some progress.«end») refl;
          apart = given.by_less world key old new was (holds_less given world in_order key row trip state there same progress step) lawful.apart;
        }) in
        record { vehicles = moves_loads seats (with_vehicle world key new) written _ _ })

  pub takes_fresh : (key : VehicleKey) (row : VehicleRow) (state : StateMessage) → state.header_id ≤ 4294967295 → row_of world key ≡ Some row → (trip : Option Trip) → trip_of world key ≡ trip → IfMade P (fresh_state world key row trip state)
  takes_fresh key row state numbered there None same = takes_idle given more seats world lawful key row state numbered there
  takes_fresh key row state numbered there (Some trip) same =
      made_branch P _ _ _ (goes_on_trip key row trip state numbered there same)
      (made_refuse_unless P _ _ _ (λ fresh. takes_idle given more seats world lawful key row state numbered there))

  pub takes_state : (key : VehicleKey) (state : StateMessage) → state.header_id ≤ 4294967295 → IfMade P (take_state world key state)
  takes_state key state numbered =
      made_refuse_if_none P _ _ _ (λ row there. made_branch P _ _ _ (takes_fresh key row state numbered there (trip_of world key) refl) (record { vehicles = lawful }))
