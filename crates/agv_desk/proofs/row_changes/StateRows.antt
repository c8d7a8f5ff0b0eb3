-- A state leads to the maps of the world after it: what a vehicle holds after a state is of what it held before.
use Rattle.std.proofs.Common.{◌≡◌, ◌≤◌, ℕ, zero, suc, Bool, true, false, cond, List, [], ◌∷◌, map, Option, None, Some, is_some, Contains, refl, sym, ap, ◌∙◌, subst, arith, inl, inr}
use Rattle.std.specs.List.{slice_get}
use Rattle.std.specs.Option.{unwrap_or}
use Rattle.agv_header.specs.declared.key.Thing.{Thing}
use Rattle.agv_header.specs.declared.key.Thing.TheVariants as thing
use Rattle.agv_header.specs.declared.key.VehicleKey.{VehicleKey}
use Rattle.agv_layout.specs.declared.edge.Edge.{Edge}
use Rattle.agv_message_core.specs.declared.state.StateMessage.{StateMessage}
use Rattle.agv_order.specs.Trips.{node_at}
use Rattle.agv_order.specs.declared.trip.Trip.{Trip}
use Rattle.agv_track_holds.specs.Footprints.{IsOnBase, IsOnTrip, IsHeldBy, IsOnRest, footprint_of}
use Rattle.agv_track.specs.Progressed.{progressed, Advances, IsNextOf}
use Rattle.agv_track.specs.declared.progress.Progress.{Progress}
use Rattle.agv_world_core.specs.Questions.{row_of, trip_of}
use Rattle.agv_world_core.specs.Maps.{standing_of}
use Rattle.agv_world_core.specs.VehicleChanges.{KeepsOrderAndEdges, with_vehicle}
use Rattle.agv_world_core.specs.ConsistentTrips.{HasOneTripAnOrder}
use Rattle.agv_world_core.specs.Worlds.{Vehicle, World}
use Rattle.agv_world_core.specs.declared.row.VehicleRow.{VehicleRow}
use Rattle.agv_desk.specs.InOrder.{IsInOrder, IsOpen}
use Rattle.agv_desk.specs.Outcomes.{Effect}
use Rattle.agv_desk.specs.StateSteps.{pending_of, row_after, trip_left, trip_state, fresh_state, take_state}
use Rattle.agv_desk.proofs.row_changes.Effects.{LeadsTo, lays_none, touches_none}
use Rattle.agv_desk.proofs.row_changes.Given.{Given}
use Rattle.agv_desk.proofs.outcomes.Known.{none_some, same_some, vehicle_with, known, has_trip}
use Rattle.agv_desk.proofs.outcomes.Ladders.{IfMade, made_refuse_unless, made_refuse_if_none, made_branch, made_judged}
use Rattle.agv_desk.proofs.row_changes.PlainSteps.{takes_idle}
use Rattle.agv_desk.proofs.row_changes.Steps.{leads, puts}

-- ---- nodes and edges of a trip

-- the node where edge k leads is node k + 1
after_edge : (edges : List Edge) (k : ℕ) (edge : Edge) → slice_get edges k ≡ Some edge → slice_get (map (λ (e : Edge). e.finish) edges) k ≡ Some edge.finish
after_edge [] k edge h = none_some h
after_edge (e ∷ edges) zero edge h = ap (λ (x : Edge). Some x.finish) (same_some h)
after_edge (e ∷ edges) (suc k) edge h = after_edge edges k edge h

next_node : (trip : Trip) (k : ℕ) (edge : Edge) → slice_get trip.edges k ≡ Some edge → node_at trip (suc k) ≡ Some edge.finish
next_node trip k edge h = after_edge trip.edges k edge h

-- ---- what is held after a state was held before

module _ (trip : Trip) (progress : Progress) (step : Advances trip progress) where
  -- a trip that goes on
  goes_on_holds : (held : Thing) → IsOnTrip (progressed trip progress) held → IsOnTrip trip held
  goes_on_holds (thing.Node name) on = (on.0, omega (arith, on.1, step.forward), on.2, on.3)
  goes_on_holds (thing.Edge name) on = (on.0, on.1, omega (arith, on.2, step.forward), on.3, on.4, on.5)

  -- the node that was reached last
  at_node : (name : List ℕ) → node_at trip progress.seen ≡ Some name → IsOnTrip trip (thing.Node name)
  at_node name is = (progress.seen, step.forward, step.released, is)

  reached : (row : VehicleRow) (held : Thing) → thing.Node (unwrap_or (node_at trip progress.seen) row.node) ≡ held → IsOnTrip trip held
  reached row held is =
      subst (IsOnTrip trip) (ap (λ (o : Option (List ℕ)). thing.Node (unwrap_or o row.node)) (sym step.node.1) ∙ is) (at_node step.node.0 step.node.1)

  -- the next edge, and the node where it leads
  on_rest : (rest : List ℕ × List ℕ) → IsNextOf trip progress.seen rest → (held : Thing) → IsOnRest (Some rest) held → IsOnTrip trip held
  on_rest rest next (thing.Node name) is =
      (suc progress.seen, omega (arith, step.forward), omega (arith, next.released), next_node trip progress.seen next.edge next.there ∙ ap Some (sym next.finish ∙ is))
  on_rest rest next (thing.Edge name) is =
      (progress.seen, next.edge, step.forward, next.released, next.there, sym next.id ∙ is)

  -- a trip that has ended, with a rest or without
  ended_holds : (row : VehicleRow) (rest : Option (List ℕ × List ℕ)) → progress.rest ≡ rest → (held : Thing)
      → IsHeldBy (unwrap_or (node_at trip progress.seen) row.node) rest None held → IsOnTrip trip held
  ended_holds row rest is held (inl node) = reached row held node
  ended_holds row None is held (inr on) = absurd on
  ended_holds row (Some rest) is held (inr on) = on_rest rest (step.rest rest is).1 held on

  -- whether it has ended or not
  left_holds : (row : VehicleRow) (ended : Bool) → is_some progress.«end» ≡ ended → (held : Thing)
      → IsHeldBy (unwrap_or (node_at trip progress.seen) row.node) progress.rest (cond ended None (Some (progressed trip progress))) held → IsOnTrip trip held
  left_holds row true is held on = ended_holds row progress.rest refl held on
  left_holds row false is held on = goes_on_holds held on

-- ---- the call

abbrev pub vehicle_after : VehicleRow → Trip → StateMessage → Progress → Vehicle
vehicle_after row trip state progress = record { row = row_after row trip state progress; trip = trip_left trip progress }

-- a trip that goes on has not passed its base
on_base : (trip : Trip) (progress : Progress) → progress.seen ≤ trip.base → (ended : Bool) → IsOnBase (cond ended None (Some (progressed trip progress)))
on_base trip progress h true = tt
on_base trip progress h false = h

module _ (given : Given) (world : World) (in_order : IsInOrder world) where
  abbrev P : Effect → Type 0
  P = LeadsTo world

  module _ (key : VehicleKey) (row : VehicleRow) (trip : Trip) (state : StateMessage) (there : row_of world key ≡ Some row) (same : trip_of world key ≡ Some trip) where
    is_open : IsOpen trip
    is_open = in_order.open_trips key trip (has_trip world key trip same)

    -- what the vehicle holds afterwards it held before
    pub holds_less : (progress : Progress) → Advances trip progress → (held : Thing)
        → Contains (footprint_of (standing_of (vehicle_after row trip state progress))) held → Contains (footprint_of (standing_of (vehicle_with row (Some trip)))) held
    holds_less progress step held among =
        let on = (given.lists (standing_of (vehicle_after row trip state progress)) (on_base trip progress step.released (is_some progress.«end»)) held).0 among in
        (given.lists (standing_of (vehicle_with row (Some trip))) is_open.under_way.seen_released held).1 (left_holds trip progress step row (is_some progress.«end») refl held on)

    -- no order has two trips afterwards
    pub one_trip : (progress : Progress) (ended : Bool) → is_some progress.«end» ≡ ended → HasOneTripAnOrder (with_vehicle world key (vehicle_after row trip state progress))
    one_trip progress true is = given.without world key (vehicle_after row trip state progress) in_order.one_trip (ap (λ b. cond b None (Some (progressed trip progress))) is)
    one_trip progress false is =
        given.further world key (vehicle_after row trip state progress) in_order.one_trip trip (progressed trip progress) (has_trip world key trip same) (ap (λ b. cond b None (Some (progressed trip progress))) is) refl

    -- the trip goes on or ends
    goes : (progress : Progress) (ended : Bool) → KeepsOrderAndEdges (Some trip) (cond ended None (Some (progressed trip progress)))
    goes progress true = tt
    goes progress false = (refl, refl)

    pub goes_on_trip : IfMade P (trip_state world key row trip state)
    goes_on_trip =
        made_judged P _ _ (λ progress judged.
        let step = given.advances trip (pending_of row) state progress is_open.under_way is_open.few judged in
        let old : Vehicle = vehicle_with row (Some trip) in
        let new = vehicle_after row trip state progress in
        let was = known world key row there ∙ ap (λ trip. Some (vehicle_with row trip)) same in
        leads given world in_order _ (lays_none world)
        (puts given world in_order key (Some old) new was (one_trip progress (is_some progress.«end») refl)
        (given.by_less world key old new was (holds_less progress step) in_order.apart) (goes progress (is_some progress.«end»))))

  pub takes_fresh : (key : VehicleKey) (row : VehicleRow) (state : StateMessage) → row_of world key ≡ Some row → (trip : Option Trip) → trip_of world key ≡ trip → IfMade P (fresh_state world key row trip state)
  takes_fresh key row state there None same = takes_idle given world in_order key row state there
  takes_fresh key row state there (Some trip) same =
      made_branch P _ _ _ (goes_on_trip key row trip state there same) (made_refuse_unless P _ _ _ (λ fresh. takes_idle given world in_order key row state there))

  pub takes_state : (key : VehicleKey) (state : StateMessage) → IfMade P (take_state world key state)
  takes_state key state =
      made_refuse_if_none P _ _ _ (λ row there. made_branch P _ _ _ (takes_fresh key row state there (trip_of world key) refl)
      (leads given world in_order _ (lays_none world) (touches_none world)))
