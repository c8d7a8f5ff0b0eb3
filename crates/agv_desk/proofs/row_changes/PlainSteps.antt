-- The calls that touch no trip lead to the maps of the world after them.
use Rattle.std.proofs.Common.{◌≡◌, ℕ, List, Option, None, Some, refl}
use Rattle.agv_header.specs.declared.key.VehicleKey.{VehicleKey}
use Rattle.agv_message_core.specs.declared.instant.InstantKind.{InstantKind}
use Rattle.agv_message_core.specs.declared.state.StateMessage.{StateMessage}
use Rattle.agv_order.specs.declared.trip.Trip.{Trip}
use Rattle.agv_track_holds.specs.Footprints.{footprint_of}
use Rattle.agv_world_core.specs.Questions.{row_of, trip_of}
use Rattle.agv_world_core.specs.VehicleChanges.{KeepsOrderAndEdges}
use Rattle.agv_world_core.specs.Worlds.{World}
use Rattle.agv_world_core.specs.declared.row.VehicleRow.{VehicleRow}
use Rattle.agv_desk.specs.InOrder.{IsInOrder}
use Rattle.agv_desk.specs.InstantSteps.{instruct, cancel, pause, resume}
use Rattle.agv_desk.specs.JobSteps.{add_job, stop_job}
use Rattle.agv_desk.specs.LoadSteps.{register_load, correct_load, leave_load}
use Rattle.agv_desk.specs.Outcomes.{Effect}
use Rattle.agv_desk.specs.ReadSteps.{get_order, get_instant, get_load, get_job, get_vehicle}
use Rattle.agv_desk.specs.StateSteps.{idle_state}
use Rattle.agv_desk.specs.StocktakeSteps.{Row, take_stock}
use Rattle.agv_desk.specs.VehicleSteps.{new_vehicle, placed, register_vehicle, place_vehicle, resync}
use Rattle.agv_desk.proofs.row_changes.Effects.{LeadsTo, lays_none, touches_none}
use Rattle.agv_desk.proofs.row_changes.Given.{Given}
use Rattle.agv_desk.proofs.outcomes.Known.{vehicle_with, known, unknown}
use Rattle.agv_desk.proofs.outcomes.Ladders.{IfMade, made_refuse_unless, made_refuse_if_none, made_checked, made_unheld, made_judged}
use Rattle.agv_desk.proofs.row_changes.Steps.{missing, leads, notes, puts}

module _ (given : Given) (world : World) (in_order : IsInOrder world) where
  abbrev P : Effect → Type 0
  P = LeadsTo world

  -- ---- loads and jobs
  pub registers_load : (load : List ℕ) (station : Option (List ℕ)) → IfMade P (register_load world load station)
  registers_load load station = made_checked P _ _ (made_refuse_unless P _ _ _ (λ few. leads given world in_order _ (lays_none world) (touches_none world)))

  pub corrects_load : (load reference : List ℕ) (station : Option (List ℕ)) → IfMade P (correct_load world load reference station)
  corrects_load load reference station =
      made_refuse_unless P _ _ _ (λ new. made_checked P _ _ (made_refuse_unless P _ _ _ (λ few. leads given world in_order _ (lays_none world) (touches_none world))))

  pub lets_load_leave : (load reference : List ℕ) → IfMade P (leave_load world load reference)
  lets_load_leave load reference =
      made_refuse_unless P _ _ _ (λ new. made_checked P _ _ (made_refuse_unless P _ _ _ (λ few. leads given world in_order _ (lays_none world) (touches_none world))))

  pub adds_job : (job load to : List ℕ) → IfMade P (add_job world job load to)
  adds_job job load to =
      made_checked P _ _ (made_refuse_if_none P _ _ _ (λ origin is. made_refuse_unless P _ _ _ (λ few. leads given world in_order _ (lays_none world) (touches_none world))))

  pub stops_job : (job : List ℕ) → IfMade P (stop_job world job)
  stops_job job = made_refuse_if_none P _ _ _ (λ row is. made_refuse_unless P _ _ _ (λ waits. leads given world in_order _ (lays_none world) (touches_none world)))

  pub takes_stock : (reference : List ℕ) (rows : List Row) → IfMade P (take_stock world reference rows)
  takes_stock reference rows =
      made_refuse_unless P _ _ _ (λ a. made_refuse_unless P _ _ _ (λ b. made_refuse_unless P _ _ _ (λ c.
      made_refuse_unless P _ _ _ (λ d. made_refuse_unless P _ _ _ (λ e. made_refuse_unless P _ _ _ (λ f. made_refuse_unless P _ _ _ (λ g.
      leads given world in_order _ (lays_none world) (touches_none world))))))))

  -- ---- what is only told
  pub tells_order : (key : VehicleKey) → IfMade P (get_order world key)
  tells_order key = made_refuse_if_none P _ _ _ (λ row is. leads given world in_order _ (lays_none world) (touches_none world))

  pub tells_instant : (key : VehicleKey) → IfMade P (get_instant world key)
  tells_instant key = made_refuse_if_none P _ _ _ (λ row is. leads given world in_order _ (lays_none world) (touches_none world))

  pub tells_load : (load : List ℕ) → IfMade P (get_load world load)
  tells_load load = made_refuse_if_none P _ _ _ (λ place is. leads given world in_order _ (lays_none world) (touches_none world))

  pub tells_job : (job : List ℕ) → IfMade P (get_job world job)
  tells_job job = made_refuse_if_none P _ _ _ (λ row is. leads given world in_order _ (lays_none world) (touches_none world))

  pub tells_vehicle : (key : VehicleKey) → IfMade P (get_vehicle world key)
  tells_vehicle key = made_refuse_if_none P _ _ _ (λ row is. leads given world in_order _ (lays_none world) (touches_none world))

  -- ---- the row of a vehicle
  pub instructs : (at : ℕ) (key : VehicleKey) (row : VehicleRow) (kind : InstantKind) → row_of world key ≡ Some row → IfMade P (instruct at key row kind)
  instructs at key row kind there =
      made_refuse_unless P _ _ _ (λ free.
      made_refuse_if_none P _ _ _ (λ number is. leads given world in_order _ (lays_none world) (notes given world in_order key row _ there refl refl)))

  pub cancels : (at : ℕ) (key : VehicleKey) → IfMade P (cancel world at key)
  cancels at key = made_refuse_if_none P _ _ _ (λ row there. made_refuse_unless P _ _ _ (λ has. instructs at key row _ there))

  pub pauses : (at : ℕ) (key : VehicleKey) → IfMade P (pause world at key)
  pauses at key = made_refuse_if_none P _ _ _ (λ row there. instructs at key row _ there)

  pub resumes : (at : ℕ) (key : VehicleKey) → IfMade P (resume world at key)
  resumes at key = made_refuse_if_none P _ _ _ (λ row there. instructs at key row _ there)

  pub begins_anew : (key : VehicleKey) → IfMade P (resync world key)
  begins_anew key = made_refuse_if_none P _ _ _ (λ row there. leads given world in_order _ (lays_none world) (notes given world in_order key row _ there refl refl))

  pub takes_idle : (key : VehicleKey) (row : VehicleRow) (state : StateMessage) → row_of world key ≡ Some row → IfMade P (idle_state key row state)
  takes_idle key row state there =
      made_judged P _ _ (λ over is. leads given world in_order _ (lays_none world) (notes given world in_order key row _ there refl refl))

  -- ---- a vehicle that stands without a trip
  pub registers_vehicle : (seats : ℕ) (key : VehicleKey) (node : List ℕ) (capacity : ℕ) → IfMade P (register_vehicle seats world key node capacity)
  unfolding footprint_of
  registers_vehicle seats key node capacity =
      made_refuse_unless P _ _ _ (λ free. made_refuse_unless P _ _ _ (λ known_node. made_unheld P _ _ (λ opened. made_refuse_unless P _ _ _ (λ few.
      let new = new_vehicle capacity node in
      leads given world in_order _ (lays_none world)
      (puts given world in_order key None new (unknown world key (missing _ free)) (given.without world key new in_order.one_trip refl) (given.by_claim world key new in_order.apart opened) tt)))))

  pub places_vehicle : (key : VehicleKey) (reference node : List ℕ) → IfMade P (place_vehicle world key reference node)
  unfolding footprint_of
  places_vehicle key reference node =
      made_refuse_unless P _ _ _ (λ new_reference. made_refuse_if_none P _ _ _ (λ row there.
      made_refuse_unless P _ _ _ (λ known_node. made_unheld P _ _ (λ opened. made_refuse_unless P _ _ _ (λ few.
      let new = placed row node in
      leads given world in_order _ (lays_none world)
      (puts given world in_order key (Some (vehicle_with row (trip_of world key))) new (known world key row there) (given.without world key new in_order.one_trip refl) (given.by_claim world key new in_order.apart opened) (ended (trip_of world key))))))))
    where
      ended : (trip : Option Trip) → KeepsOrderAndEdges trip None
      ended None = tt
      ended (Some trip) = tt
