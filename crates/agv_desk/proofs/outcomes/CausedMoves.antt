-- No effect is answered with a refusal, and each call moves loads for its own cause.
use Rattle.std.proofs.Common.{◌≡◌, ◌&&◌, ℕ, Bool, true, false, cond, List, [], ◌∷◌, map, zip, Option, None, Some, Result, Ok, Err, refl, sym, ap, ◌∙◌}
use Rattle.std.specs.List.{list_all, cons_option}
use Rattle.std.proofs.lemmas.Bool.{false≢true}
use Rattle.agv_header.specs.declared.key.VehicleKey.{VehicleKey}
use Rattle.agv_layout.specs.Layout.{Layout}
use Rattle.agv_layout.specs.declared.fault.LayoutFault.{LayoutFault}
use Rattle.agv_message_core.specs.declared.instant.InstantKind.{InstantKind}
use Rattle.agv_message_core.specs.declared.state.StateMessage.{StateMessage}
use Rattle.agv_order.specs.declared.fault.PlanFault.{PlanFault}
use Rattle.agv_order.specs.declared.trip.Trip.{Trip}
use Rattle.agv_stock.specs.declared.place.Place.{Place}
use Rattle.agv_world_core.specs.Worlds.{World}
use Rattle.agv_world_core.specs.declared.row.VehicleRow.{VehicleRow}
use Rattle.agv_desk.specs.Causes.{is_acted, is_recorded, is_refusal, moves_for}
use Rattle.agv_desk.specs.ActSteps.{Renewed, becomes_finished, taken_to, act_move, act_moves}
use Rattle.agv_desk.specs.DriveSteps.{AskedDrive, start_drive}
use Rattle.agv_desk.specs.InstantSteps.{instruct}
use Rattle.agv_desk.specs.LayoutSteps.{if_given}
use Rattle.agv_desk.specs.OrderSteps.{AskedOrder, if_planned, start_order, advance}
use Rattle.agv_desk.specs.Outcomes.{Acted, Effect, Made, Move, Outcome, Refused, after, answer_of, decided, moves_of}
use Rattle.agv_desk.specs.ReadSteps.{instant_told, order_told}
use Rattle.agv_desk.specs.StateSteps.{idle_state, trip_state, fresh_state, take_state}
use Rattle.agv_desk.specs.Step.{step}
use Rattle.agv_desk.specs.StocktakeSteps.{count_move, new_places}
use Rattle.agv_desk.specs.VehicleSteps.{register_vehicle, place_vehicle}
use Rattle.agv_desk.specs.declared.call.Call.{Call}
use Rattle.agv_desk.specs.declared.call.Call.TheVariants as call
use Rattle.agv_desk.proofs.outcomes.Known.{none_some, same_some}
use Rattle.agv_desk.proofs.outcomes.Ladders.{IfMade, made_refuse_unless, made_refuse_if_none, made_checked, made_unheld, made_branch, made_judged}

-- the call is answered with no refusal, and moves loads for its own cause
pub record IsCaused (made : Call) (effect : Effect) : Type 0 where
  pub answered : is_refusal effect.answer ≡ false
  pub caused : list_all (λ (move : Move). moves_for made move.cause) effect.moves ≡ true

-- ---- moves

all_recorded : (loads : List (List ℕ × Place)) → list_all (λ (move : Move). is_recorded move.cause) (map count_move loads) ≡ true
all_recorded [] = refl
all_recorded (load ∷ loads) = all_recorded loads

-- one move more, or none
acted_more : (move : Option Move) (moves : List Move) → ((one : Move) → move ≡ Some one → is_acted one.cause ≡ true)
    → list_all (λ (one : Move). is_acted one.cause) moves ≡ true → list_all (λ (one : Move). is_acted one.cause) (cons_option move moves) ≡ true
acted_more None moves acts all = all
acted_more (Some move) moves acts all = ap (λ b. b && list_all (λ (one : Move). is_acted one.cause) moves) (acts move refl) ∙ all

all_acted : (key : VehicleKey) (order : List ℕ) (acts : List Renewed) → list_all (λ (move : Move). is_acted move.cause) (act_moves key order acts) ≡ true
all_acted key order [] = refl
all_acted key order (act ∷ acts) = acted_more (act_move key order act) (act_moves key order acts) (by_test (becomes_finished act)) (all_acted key order acts)
  where
    by_test : (test : Bool) (one : Move) → cond test (Some (record { load = act.0.load; place = taken_to key act.0.kind act.0.station; cause = Acted act.0.kind order act.0.job })) None ≡ Some one
        → is_acted one.cause ≡ true
    by_test true one is = ap (λ (move : Move). is_acted move.cause) (sym (same_some is))
    by_test false one is = none_some is

-- ---- ladders

made_laid : (P : Effect → Type 0) (read : Result Layout LayoutFault) (rest : Layout → Outcome) → ((layout : Layout) → IfMade P (rest layout)) → IfMade P (if_given read rest)
unfolding if_given
made_laid P (Ok layout) rest h = h layout
made_laid P (Err why) rest h = tt

made_by_plan : (P : Effect → Type 0) (plan : Result Trip PlanFault) (rest : Trip → Outcome) → ((trip : Trip) → IfMade P (rest trip)) → IfMade P (if_planned plan rest)
unfolding if_planned
made_by_plan P (Ok trip) rest h = h trip
made_by_plan P (Err why) rest h = tt

-- an order message is told, or that there is none
tells_a_message : (made : Call) (key : VehicleKey) (row : VehicleRow) (trip : Option Trip) → is_refusal (order_told key row trip) ≡ false
tells_a_message made key row None = refl
tells_a_message made key row (Some trip) = refl

tells_an_action : (key : VehicleKey) (row : VehicleRow) (kind : Option InstantKind) → is_refusal (instant_told key row kind) ≡ false
tells_an_action key row None = refl
tells_an_action key row (Some kind) = refl

module _ (world : World) (made : Call) where
  abbrev P : Effect → Type 0
  P = IsCaused made

  instructs : (at : ℕ) (key : VehicleKey) (row : VehicleRow) (kind : InstantKind) → IfMade P (instruct at key row kind)
  instructs at key row kind = made_refuse_unless P _ _ _ (λ a. made_refuse_if_none P _ _ _ (λ number b. record { answered = refl; caused = refl }))

  starts : (asked : AskedOrder) → IfMade P (start_order world asked)
  starts asked =
      made_refuse_unless P _ _ _ (λ a. made_refuse_if_none P _ _ _ (λ row b. made_refuse_unless P _ _ _ (λ c. made_refuse_if_none P _ _ _ (λ jobs d.
      made_refuse_unless P _ _ _ (λ e. made_refuse_unless P _ _ _ (λ f. made_refuse_unless P _ _ _ (λ g.
      made_refuse_unless P _ _ _ (λ h. made_refuse_unless P _ _ _ (λ i. made_refuse_unless P _ _ _ (λ j. made_refuse_unless P _ _ _ (λ k.
      made_refuse_if_none P _ _ _ (λ layout l. made_by_plan P _ _ (λ trip.
      made_unheld P _ _ (λ m. made_refuse_if_none P _ _ _ (λ number n. made_refuse_unless P _ _ _ (λ o. record { answered = refl; caused = refl }))))))))))))))))

  drives : (asked : AskedDrive) → IfMade P (start_drive world asked)
  drives asked =
      made_refuse_unless P _ _ _ (λ a. made_refuse_if_none P _ _ _ (λ row b. made_refuse_unless P _ _ _ (λ c.
      made_refuse_unless P _ _ _ (λ d. made_refuse_unless P _ _ _ (λ e. made_refuse_unless P _ _ _ (λ f.
      made_refuse_unless P _ _ _ (λ g. made_refuse_unless P _ _ _ (λ h.
      made_refuse_if_none P _ _ _ (λ layout i. made_by_plan P _ _ (λ trip.
      made_unheld P _ _ (λ j. made_refuse_if_none P _ _ _ (λ number k. made_refuse_unless P _ _ _ (λ l. record { answered = refl; caused = refl })))))))))))))

  advances : (at : ℕ) (key : VehicleKey) (order : List ℕ) (update edges : ℕ) → IfMade P (advance world at key order update edges)
  advances at key order update edges =
      made_refuse_if_none P _ _ _ (λ row a. made_refuse_if_none P _ _ _ (λ trip b. made_refuse_unless P _ _ _ (λ c.
      made_refuse_unless P _ _ _ (λ d. made_refuse_unless P _ _ _ (λ e. made_refuse_unless P _ _ _ (λ f.
      made_refuse_unless P _ _ _ (λ g. made_unheld P _ _ (λ h. made_refuse_if_none P _ _ _ (λ number i. record { answered = refl; caused = refl })))))))))

  places : (key : VehicleKey) (reference node : List ℕ) → IfMade P (place_vehicle world key reference node)
  places key reference node =
      made_refuse_unless P _ _ _ (λ a. made_refuse_if_none P _ _ _ (λ row b. made_refuse_unless P _ _ _ (λ c.
      made_unheld P _ _ (λ d. made_refuse_unless P _ _ _ (λ e. record { answered = refl; caused = refl })))))

  registers : (seats : ℕ) (key : VehicleKey) (node : List ℕ) (capacity : ℕ) → IfMade P (register_vehicle seats world key node capacity)
  registers seats key node capacity =
      made_refuse_unless P _ _ _ (λ a. made_refuse_unless P _ _ _ (λ b. made_unheld P _ _ (λ c. made_refuse_unless P _ _ _ (λ d. record { answered = refl; caused = refl }))))

module _ (world : World) where
  -- a state finishes acts
  module _ (of : VehicleKey) (said : StateMessage) where
    abbrev Q : Effect → Type 0
    Q = IsCaused (call.State of said)

    takes_idle : (key : VehicleKey) (row : VehicleRow) (state : StateMessage) → IfMade Q (idle_state key row state)
    takes_idle key row state = made_judged Q _ _ (λ over a. record { answered = refl; caused = refl })

    goes_on : (key : VehicleKey) (row : VehicleRow) (trip : Trip) (state : StateMessage) → IfMade Q (trip_state world key row trip state)
    goes_on key row trip state = made_judged Q _ _ (λ progress a. record { answered = refl; caused = all_acted key trip.order (zip trip.acts progress.statuses) })

    takes_fresh : (key : VehicleKey) (row : VehicleRow) (trip : Option Trip) (state : StateMessage) → IfMade Q (fresh_state world key row trip state)
    takes_fresh key row None state = takes_idle key row state
    takes_fresh key row (Some trip) state = made_branch Q _ _ _ (goes_on key row trip state) (made_refuse_unless Q _ _ _ (λ a. takes_idle key row state))

    takes_state : (key : VehicleKey) (state : StateMessage) → IfMade Q (take_state world key state)
    takes_state key state = made_refuse_if_none Q _ _ _ (λ row a. made_branch Q _ _ _ (takes_fresh key row _ state) (record { answered = refl; caused = refl }))

  each : (seats at : ℕ) (made : Call) → IfMade (IsCaused made) (step seats world at made)
  each seats at (call.SetLayout rows) = made_refuse_unless (IsCaused _) _ _ _ (λ a. made_laid (IsCaused _) _ _ (λ layout. record { answered = refl; caused = refl }))
  each seats at (call.RegisterVehicle key node capacity) = registers world _ seats key node capacity
  each seats at (call.RegisterLoad load station) = made_checked (IsCaused _) _ _ (made_refuse_unless (IsCaused _) _ _ _ (λ a. record { answered = refl; caused = refl }))
  each seats at (call.CorrectLoad load reference station) =
      made_refuse_unless (IsCaused _) _ _ _ (λ a. made_checked (IsCaused _) _ _
      (made_refuse_unless (IsCaused _) _ _ _ (λ b. record { answered = refl; caused = refl })))
  each seats at (call.LeaveLoad load reference) =
      made_refuse_unless (IsCaused _) _ _ _ (λ a. made_checked (IsCaused _) _ _
      (made_refuse_unless (IsCaused _) _ _ _ (λ b. record { answered = refl; caused = refl })))
  each seats at (call.AddJob job load to) =
      made_checked (IsCaused _) _ _ (made_refuse_if_none (IsCaused _) _ _ _ (λ origin a.
      made_refuse_unless (IsCaused _) _ _ _ (λ b. record { answered = refl; caused = refl })))
  each seats at (call.StopJob job) = made_refuse_if_none (IsCaused _) _ _ _ (λ row a. made_refuse_unless (IsCaused _) _ _ _ (λ b. record { answered = refl; caused = refl }))
  each seats at (call.StartOrder order key stops edges) = starts world _ (record { at = at; order = order; key = key; stops = stops; edges = edges })
  each seats at (call.StartDrive order key to edges) = drives world _ (record { at = at; order = order; key = key; to = to; edges = edges })
  each seats at (call.Advance key order update edges) = advances world _ at key order update edges
  each seats at (call.Cancel key) = made_refuse_if_none (IsCaused _) _ _ _ (λ row a. made_refuse_unless (IsCaused _) _ _ _ (λ b. instructs world _ at key row _))
  each seats at (call.Pause key) = made_refuse_if_none (IsCaused _) _ _ _ (λ row a. instructs world _ at key row _)
  each seats at (call.Resume key) = made_refuse_if_none (IsCaused _) _ _ _ (λ row a. instructs world _ at key row _)
  each seats at (call.PlaceVehicle key reference node) = places world _ key reference node
  each seats at (call.Resync key) = made_refuse_if_none (IsCaused _) _ _ _ (λ row a. record { answered = refl; caused = refl })
  each seats at (call.State key state) = takes_state key state key state
  each seats at (call.GetOrder key) = made_refuse_if_none (IsCaused _) _ _ _ (λ row a. record { answered = tells_a_message (call.GetOrder key) key row _; caused = refl })
  each seats at (call.GetInstant key) = made_refuse_if_none (IsCaused _) _ _ _ (λ row a. record { answered = tells_an_action key row row.pending; caused = refl })
  each seats at (call.Stocktake reference rows) =
      made_refuse_unless (IsCaused _) _ _ _ (λ a. made_refuse_unless (IsCaused _) _ _ _ (λ b.
      made_refuse_unless (IsCaused _) _ _ _ (λ c. made_refuse_unless (IsCaused _) _ _ _ (λ d. made_refuse_unless (IsCaused _) _ _ _ (λ e.
      made_refuse_unless (IsCaused _) _ _ _ (λ f. made_refuse_unless (IsCaused _) _ _ _ (λ g. record { answered = refl; caused = all_recorded (new_places world rows) })))))))
  each seats at (call.GetLoad load) = made_refuse_if_none (IsCaused _) _ _ _ (λ place a. record { answered = refl; caused = refl })
  each seats at (call.GetJob job) = made_refuse_if_none (IsCaused _) _ _ _ (λ row a. record { answered = refl; caused = refl })
  each seats at (call.GetVehicle key) = made_refuse_if_none (IsCaused _) _ _ _ (λ row a. record { answered = refl; caused = refl })
  each seats at (call.Report report) = record { answered = refl; caused = refl }

  -- ---- the laws

  kept : (made : Call) (outcome : Outcome) → IfMade (IsCaused made) outcome → is_refusal (answer_of outcome) ≡ true → (after world outcome ≡ world) × ((decided outcome).changes ≡ [])
  unfolding after answer_of decided
  kept made (Refused why) holds refused = (refl, refl)
  kept made (Made effect) holds refused = absurd (false≢true (sym holds.answered ∙ refused))

  pub refused_leaves : (seats at : ℕ) (made : Call) → is_refusal (answer_of (step seats world at made)) ≡ true
      → (after world (step seats world at made) ≡ world) × ((decided (step seats world at made)).changes ≡ [])
  refused_leaves seats at made refused = kept made (step seats world at made) (each seats at made) refused

  moved_for : (made : Call) (outcome : Outcome) → IfMade (IsCaused made) outcome → list_all (λ (move : Move). moves_for made move.cause) (moves_of outcome) ≡ true
  unfolding moves_of
  moved_for made (Refused why) holds = refl
  moved_for made (Made effect) holds = holds.caused

  pub moves_caused : (seats at : ℕ) (made : Call) → list_all (λ (move : Move). moves_for made move.cause) (moves_of (step seats world at made)) ≡ true
  moves_caused seats at made = moved_for made (step seats world at made) (each seats at made)
