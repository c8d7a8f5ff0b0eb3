-- A state message that was accepted, and comes again: it moves no load, and changes no hold unless it cancels.
use Rattle.std.proofs.Common.{◌≡◌, ◌≤◌, ◌<◌, ◌⊎◌, inl, inr, ℕ, ◌+◌, ◌-◌, nat_lt, Bool, true, false, cond, List, [], length, take, drop, zip, Option, None, Some, is_some, refl, sym, ap, subst, ◌∙◌, arith, eqb-true, ltb-true, ltb-false}
use Rattle.std.specs.FinMap as finite
use Rattle.std.specs.Option.{option_map}
use Rattle.std.proofs.lemmas.Bool.{and_parts, cases_Bool, false≢true}
use Rattle.agv_header.specs.Count.{is_fresh}
use Rattle.agv_header.specs.Key.{thing_cmp}
use Rattle.agv_header.specs.declared.key.Thing.{Thing}
use Rattle.agv_header.specs.declared.key.VehicleKey.{VehicleKey}
use Rattle.agv_message_core.specs.Order.{act_id}
use Rattle.agv_message_core.specs.declared.instant.InstantKind.{InstantKind}
use Rattle.agv_message_core.specs.declared.state.StateMessage.{StateMessage}
use Rattle.agv_order.specs.Trips.{node_at}
use Rattle.agv_order.specs.WellFormed.{IsUnderWay}
use Rattle.agv_order.specs.declared.trip.Trip.{Trip}
use Rattle.agv_track_holds.specs.Footprints.{footprint_of, from_node, once}
use Rattle.agv_track.specs.Judgements.{is_through}
use Rattle.agv_track.specs.Progressed.{progressed, Advances}
use Rattle.agv_track.specs.Reached.{reported_node}
use Rattle.agv_track.specs.Reports.{is_cancelled, told}
use Rattle.agv_track.specs.declared.pending.Pending.{Pending}
use Rattle.agv_track.specs.declared.progress.Progress.{Progress}
use Rattle.agv_world_core.specs.ConsistentTrips.{HasTrip, SharesNothing}
use Rattle.agv_world_core.specs.LawfulParts.{HasLawfulVehicles}
use Rattle.agv_world_core.specs.Questions.{row_of, trip_of}
use Rattle.agv_world_core.specs.Maps.{hold_rows, maps_of, standing_of}
use Rattle.agv_header.specs.Spread.{spread}
use Rattle.agv_world_core.specs.Worlds.{Vehicle, World}
use Rattle.agv_world_core.specs.declared.row.VehicleRow.{VehicleRow}
use Rattle.agv_desk.specs.Histories.{CancelsSince}
use Rattle.agv_desk.specs.ActSteps.{act_moves}
use Rattle.agv_desk.specs.Outcomes.{Effect, Outcome, Refused, Made, Nothing, RowOnly, Whole, after, moves_of, with_effect, with_touched}
use Rattle.agv_desk.specs.StateSteps.{idle_state, pending_of, with_state, row_after, trip_left, trip_state, fresh_state, take_state}
use Rattle.agv_desk.proofs.outcomes.EffectParts.{effect_vehicles}
use Rattle.agv_desk.proofs.row_changes.Given.{AdvancesTrips}
use Rattle.agv_desk.proofs.histories.AcceptedSince.{IsAsTold, IsAccepted, IsInstructedSince, IsTold}
use Rattle.agv_desk.proofs.histories.JudgedStates.{IsJudged, acts_are, judged_so, still_open}
use Rattle.agv_desk.proofs.outcomes.Known.{has_trip, known, same_some, vehicle_with}
use Rattle.agv_desk.proofs.outcomes.Ladders.{IfMade, made_refuse_unless, made_refuse_if_none, made_judged}
use Rattle.agv_desk.proofs.histories.QuietActs.{AreAsTold, none_anew, were_over}
use Rattle.agv_desk.proofs.histories.SameHolds.{HoldsAreFootprints, same_holds}
use Rattle.agv_desk.proofs.lists.SameNames.{same_name}
use Rattle.agv_desk.proofs.histories.StatesAlong.{fresh_greater, made_either}
use Rattle.agv_desk.proofs.histories.TripLeft.{trip_few, trip_under_way}

-- no load moves, and no hold changes but where the exception holds
pub record IsQuiet (world : World) (exception : Type 0) (effect : Effect) : Type 0 where
  pub moves : effect.moves ≡ []
  pub holds : SharesNothing (with_effect world effect) → ((maps_of (with_effect world effect)).holds ≡ (maps_of world).holds) ⊎ exception

-- an effect that touches no vehicle
quiet_nothing : (world : World) (exception : Type 0) (effect : Effect) → effect.touched ≡ Nothing → effect.moves ≡ [] → IsQuiet world exception effect
quiet_nothing world exception effect none moves = record {
  moves = moves;
  holds = λ apart. inl (ap (λ vehicles. spread thing_cmp hold_rows vehicles) (effect_vehicles world effect ∙ ap (λ touched. (with_touched world touched).vehicles) none));
}

-- ---- a state that is old

-- where the last state has this number or a greater one, the state is not fresh
not_fresh : (world : World) (key : VehicleKey) (state : StateMessage) (number : ℕ) (row : VehicleRow) → state.header_id ≤ number → IsAccepted key number world → row_of world key ≡ Some row
    → is_fresh row.last_header state.header_id ≡ true → ⊥
not_fresh world key state number row less is_accepted there fresh =
    let same : is_accepted.0 ≡ row = same_some (sym is_accepted.2 ∙ there) in
    too_great _ _ _ less is_accepted.4 (fresh_greater row.last_header state.header_id is_accepted.1 fresh (ap (λ (one : VehicleRow). one.last_header) (sym same) ∙ is_accepted.3))
  where
    too_great : (a b c : ℕ) → a ≤ b → b ≤ c → c < a → ⊥
    too_great a b c first second third = omega (arith, first, second, third)

-- the world stays as it is
pub record ChangesNothing (world : World) (effect : Effect) : Type 0 where
  pub same : with_effect world effect ≡ world

pub unchanged_old : (world : World) (key : VehicleKey) (state : StateMessage) (number : ℕ) → state.header_id ≤ number → IsAccepted key number world → IfMade (ChangesNothing world) (take_state world key state)
unchanged_old world key state number less is_accepted =
    made_refuse_if_none (ChangesNothing world) _ _ _ (λ row there.
    made_either (ChangesNothing world) _ _ _ (λ fresh. absurd (not_fresh world key state number row less is_accepted there fresh))
    (λ old. record { same = refl }))

pub world_unchanged : (world : World) (outcome : Outcome) → IfMade (ChangesNothing world) outcome → after world outcome ≡ world
unfolding after
world_unchanged world (Refused why) unchanged = refl
world_unchanged world (Made effect) unchanged = unchanged.same

-- ---- what is pending since

-- a cancelOrder that is listed as finished, and was not at first, was written since
written_since : (state : StateMessage) (before row : VehicleRow) → before.instants.count ≤ row.instants.count
    → (row.instants.count ≡ before.instants.count → (kind : InstantKind) → row.pending ≡ Some kind → before.pending ≡ Some kind)
    → is_cancelled state.actions (pending_of before) ≡ false → is_cancelled state.actions (pending_of row) ≡ true → before.instants.count < row.instants.count
written_since state before row grows pending was is =
    elim (cases_Bool (nat_lt before.instants.count row.instants.count)) [
      | inl less ↦ ltb-true before.instants.count row.instants.count less
      | inr not_less ↦
          let back = ltb-false before.instants.count row.instants.count not_less in
          let same : row.instants.count ≡ before.instants.count = omega (arith, grows, back) in
          absurd (by_kind same row.pending refl)
    ]
  where
    by_kind : row.instants.count ≡ before.instants.count → (there : Option InstantKind) → row.pending ≡ there → ⊥
    by_kind same None none =
        false≢true (ap (λ there. is_cancelled state.actions (option_map (λ (kind : InstantKind). record { kind = kind; number = row.instants.count }) there)) (sym none) ∙ is)
    by_kind same (Some kind) some =
        let pendings : pending_of row ≡ pending_of before = λ i. option_map (λ (one : InstantKind). record { kind = one; number = same i }) ((some ∙ sym (pending same kind some)) i) in
        false≢true (sym was ∙ ap (is_cancelled state.actions) (sym pendings) ∙ is)

-- ---- a trip that is as the message says

module _ (trip : Trip) (pending was_pending : Option Pending) (state : StateMessage) (progress : Progress) (is : IsJudged trip pending state progress) (as_told : IsAsTold state was_pending trip) where
  are_as_told : AreAsTold state.actions trip.order 0 trip.acts
  are_as_told k act status there listed = let number : k ≡ 0 + k = omega arith in as_told.acts k act status there (ap (λ m. told state.actions (act_id trip.order m)) number ∙ listed)

  -- it stays where it is
  stays : trip.seen ≤ progress.seen → progress.seen ≡ trip.seen
  stays forward = let seen : progress.seen ≡ reported_node state = is.seen in let reached : reported_node state ≤ trip.seen = as_told.reached in omega (arith, forward, seen, reached)

  -- no act becomes finished
  no_moves : (key : VehicleKey) (by : List ℕ) → length trip.acts ≤ 8 → act_moves key by (zip trip.acts progress.statuses) ≡ []
  no_moves key by few = ap (act_moves key by) (acts_are trip pending state progress few is) ∙ none_anew state.actions trip.order key by 0 trip.acts are_as_told

  -- it is not through, since it was not
  not_through : IsUnderWay trip → trip.seen ≤ progress.seen → is_through trip state ≡ false
  not_through under_way forward = by_test (is_through trip state) refl
    where
      at_end : (a b c d : ℕ) → a ≤ b → b ≡ c → c ≤ a → c ≡ d → a ≡ d
      at_end a b c d first second third fourth = omega (arith, first, second, third, fourth)

      by_test : (test : Bool) → is_through trip state ≡ test → test ≡ false
      by_test true through =
          let parts = and_parts _ _ through in
          absurd (under_way.is_open (
            at_end trip.seen progress.seen (reported_node state) (length trip.edges) forward is.seen as_told.reached (eqb-true (reported_node state) (length trip.edges) parts.0),
            were_over state.actions trip.order 0 trip.acts are_as_told parts.1,
          ))
      by_test false through = refl

-- the trip holds what it held, where it has reached no node more
abbrev things_from : Trip → ℕ → List Thing
things_from trip seen = once (from_node (node_at trip seen) (take (trip.base - seen) (drop seen trip.edges)))

footprint_stays : (node other : List ℕ) (rest more : Option (List ℕ × List ℕ)) (trip : Trip) (progress : Progress) → progress.seen ≡ trip.seen
    → footprint_of (record { node = node; rest = rest; trip = Some (progressed trip progress) }) ≡ footprint_of (record { node = other; rest = more; trip = Some trip })
unfolding footprint_of
footprint_stays node other rest more trip progress same = ap (things_from trip) same

module _ (advances : AdvancesTrips) (footprints : HoldsAreFootprints) (seats : ℕ) (world : World) (lawful : HasLawfulVehicles seats world) (key : VehicleKey) (state : StateMessage) where
  module _ (exception : Type 0) where
    abbrev P : Effect → Type 0
    P = IsQuiet world exception

    -- a vehicle is written that holds what it held
    quiet_vehicle : (effect : Effect) (old new : Vehicle) → finite.get world.vehicles key ≡ Some old → (with_touched world effect.touched).vehicles ≡ finite.insert world.vehicles key new
        → footprint_of (standing_of new) ≡ footprint_of (standing_of old) → effect.moves ≡ [] → P effect
    quiet_vehicle effect old new was written stands moves = record {
      moves = moves;
      holds = λ apart. inl (same_holds footprints world (with_effect world effect) key old new was (effect_vehicles world effect ∙ written) stands lawful.apart apart);
    }

    quiet_noted : (effect : Effect) (row next : VehicleRow) → row_of world key ≡ Some row → effect.touched ≡ RowOnly key row next → next.node ≡ row.node → next.rest ≡ row.rest → effect.moves ≡ [] → P effect
    quiet_noted effect row next there noted node rest moves =
        quiet_vehicle effect (vehicle_with row (trip_of world key)) (vehicle_with next (trip_of world key)) (known world key row there) (ap (λ touched. (with_touched world touched).vehicles) noted)
        (λ i. footprint_of (record { node = node i; rest = rest i; trip = trip_of world key })) moves

    pub quiet_idle : (row : VehicleRow) → row_of world key ≡ Some row → IfMade P (idle_state key row state)
    quiet_idle row there = made_judged P _ _ (λ over is. quiet_noted _ row (with_state row state over) there refl refl refl refl)

    -- a state that is not fresh moves nothing
    pub quiet_old : (number : ℕ) → state.header_id ≤ number → IsAccepted key number world → IfMade P (take_state world key state)
    quiet_old number less is_accepted =
        made_refuse_if_none P _ _ _ (λ row there. made_either P _ _ _ (λ fresh. absurd (not_fresh world key state number row less is_accepted there fresh))
        (λ old. quiet_nothing world exception _ refl refl))

  -- ---- a state that was judged against a trip before

  module _ (earlier : World) (before : VehicleRow) (was : row_of earlier key ≡ Some before) (since : IsInstructedSince key before world)
      (order : List ℕ) (named : order ≡ state.order_id) (is_told : IsTold state order (pending_of before) world) where
    abbrev Cancels : Type 0
    Cancels = CancelsSince earlier world key state

    -- the exception: what is pending now is listed as finished
    cancels : (row : VehicleRow) → row_of world key ≡ Some row → is_cancelled state.actions (pending_of before) ≡ false → is_cancelled state.actions (pending_of row) ≡ true → Cancels
    cancels row there kept cancelled =
        let same : since.0 ≡ row = same_some (sym since.1 ∙ there) in
        record {
          before = before;
          row = row;
          was = was;
          is = there;
          cancelled = cancelled;
          written_since = subst (λ (one : VehicleRow). before.instants.count < one.instants.count) same
              (written_since state before since.0 since.2 since.3 kept (ap (λ (one : VehicleRow). is_cancelled state.actions (pending_of one)) same ∙ cancelled));
        }

    module _ (row : VehicleRow) (trip : Trip) (there : row_of world key ≡ Some row) (open_trip : trip_of world key ≡ Some trip) (ours : trip.order ≡ order) where
      abbrev has : HasTrip world key trip
      has = has_trip world key trip open_trip

      as_told : IsAsTold state (pending_of before) trip
      as_told = is_told.trips key trip has ours

      old_is : finite.get world.vehicles key ≡ Some (vehicle_with row (Some trip))
      old_is = known world key row there ∙ ap (λ one. Some (vehicle_with row one)) open_trip

      quiet_progress : (progress : Progress) → IsJudged trip (pending_of row) state progress → Advances trip progress → (effect : Effect)
          → effect.touched ≡ Whole key (Some (vehicle_with row (Some trip))) (vehicle_with (row_after row trip state progress) (trip_left trip progress))
          → effect.moves ≡ act_moves key trip.order (zip trip.acts progress.statuses) → IsQuiet world Cancels effect
      quiet_progress progress is step effect put moves = record {
        moves = none;
        holds = λ apart. elim (cases_Bool (is_cancelled state.actions (pending_of row))) [
          | inl cancelled ↦ inr (cancels row there as_told.open_still cancelled)
          | inr kept ↦
              let goes_on : progress.«end» ≡ None = is.over ∙ still_open trip (pending_of row) state (not_through trip (pending_of row) (pending_of before) state progress is as_told under_way step.forward) kept in
              let left : trip_left trip progress ≡ Some (progressed trip progress) = ap (λ over. cond (is_some over) None (Some (progressed trip progress))) goes_on in
              let after = row_after row trip state progress in
              inl (same_holds footprints world (with_effect world effect) key (vehicle_with row (Some trip)) (vehicle_with after (trip_left trip progress)) old_is
              (effect_vehicles world effect ∙ ap (λ touched. (with_touched world touched).vehicles) put)
              (ap (λ (one : Option Trip). footprint_of (record { node = after.node; rest = after.rest; trip = one })) left
              ∙ footprint_stays after.node row.node after.rest row.rest trip progress (stays trip (pending_of row) (pending_of before) state progress is as_told step.forward))
              lawful.apart apart)
        ];
      }
        where
          under_way : IsUnderWay trip
          under_way = trip_under_way seats world lawful key trip has

          none : effect.moves ≡ []
          none = moves ∙ no_moves trip (pending_of row) (pending_of before) state progress is as_told key trip.order (trip_few seats world lawful key trip has)

      quiet_trip : IfMade (IsQuiet world Cancels) (trip_state world key row trip state)
      quiet_trip = made_judged (IsQuiet world Cancels) _ _ (λ progress judged.
          quiet_progress progress (judged_so trip (pending_of row) state progress judged)
          (advances trip (pending_of row) state progress (trip_under_way seats world lawful key trip has) (trip_few seats world lawful key trip has) judged) _ refl refl)

    quiet_fresh : (row : VehicleRow) → row_of world key ≡ Some row → (trip : Option Trip) → trip_of world key ≡ trip → IfMade (IsQuiet world Cancels) (fresh_state world key row trip state)
    quiet_fresh row there None same = quiet_idle Cancels row there
    quiet_fresh row there (Some trip) same =
        made_either (IsQuiet world Cancels) _ _ _ (λ ours. quiet_trip row trip there same (same_name trip.order state.order_id ours ∙ sym named))
        (λ apart. made_refuse_unless (IsQuiet world Cancels) _ _ _ (λ unconfirmed. quiet_idle Cancels row there))

    pub quiet_again : IfMade (IsQuiet world Cancels) (take_state world key state)
    quiet_again =
        made_refuse_if_none (IsQuiet world Cancels) _ _ _ (λ row there. made_either (IsQuiet world Cancels) _ _ _ (λ fresh. quiet_fresh row there (trip_of world key) refl)
        (λ old. quiet_nothing world Cancels _ refl refl))

-- ---- of the world after the message

pub moves_quiet : (world : World) (exception : Type 0) (outcome : Outcome) → IfMade (IsQuiet world exception) outcome → moves_of outcome ≡ []
unfolding moves_of
moves_quiet world exception (Refused why) quiet = refl
moves_quiet world exception (Made effect) quiet = quiet.moves

pub holds_quiet : (world : World) (exception : Type 0) (outcome : Outcome) → IfMade (IsQuiet world exception) outcome → SharesNothing (after world outcome)
    → ((maps_of (after world outcome)).holds ≡ (maps_of world).holds) ⊎ exception
unfolding after
holds_quiet world exception (Refused why) quiet apart = inl refl
holds_quiet world exception (Made effect) quiet apart = quiet.holds apart
