-- The stock invariant holds after a drive is begun: the vehicle's trip has no acts, as it had none without a trip.
use Rattle.std.proofs.Common.{◌≡◌, ◌<◌, ℕ, List, [], length, None, Some, Ok, refl, sym, ap, subst, ◌∙◌}
use Rattle.std.specs.FinMap as finite
use Rattle.agv_header.specs.declared.key.VehicleKey.{VehicleKey}
use Rattle.agv_layout.specs.Layout.{Layout}
use Rattle.agv_order.specs.Drives.{drive_planned, IsDriveTo}
use Rattle.agv_order.specs.declared.act.Act.{Act}
use Rattle.agv_order.specs.declared.trip.Trip.{Trip}
use Rattle.agv_world_core.specs.Questions.{row_of, trip_of}
use Rattle.agv_world_core.specs.StockInvariant.{HasStockInvariant, action_views, action_views_of, capacity_of}
use Rattle.agv_world_core.specs.Worlds.{World}
use Rattle.agv_world_core.specs.declared.row.VehicleRow.{VehicleRow}
use Rattle.agv_desk.specs.DriveSteps.{AskedDrive, start_drive}
use Rattle.agv_desk.specs.OrderParts.{order_of_drive, send_drive, send_trip}
use Rattle.agv_desk.specs.OrderSteps.{sent_on}
use Rattle.agv_desk.specs.Outcomes.{Effect}
use Rattle.agv_desk.proofs.outcomes.Keeping.{KeepsStock}
use Rattle.agv_desk.proofs.outcomes.Known.{known, vehicle_with}
use Rattle.agv_desk.proofs.outcomes.Ladders.{IfMade, made_refuse_if_none, made_refuse_unless, made_unheld}
use Rattle.agv_desk.proofs.row_changes.Steps.{missing}
use Rattle.agv_desk.proofs.stock.StockInvariantOrders.{made_planned}
use Rattle.agv_desk.proofs.stock.StockInvariantTrips.{depart, enter}
use Rattle.agv_desk.proofs.trip_acts.WalkSteps.{Now}

-- what the law of the crate below says of drives
abbrev pub DrivesGoByTheRoute : Type 0
DrivesGoByTheRoute = (layout : Layout) (vehicle : VehicleKey) (order at to : List ℕ) (base : ℕ) (trip : Trip)
    → drive_planned layout vehicle order at to base ≡ Ok trip → IsDriveTo layout vehicle order at to base trip × (0 < length trip.edges)

module _ (drives : DrivesGoByTheRoute) (world : World) (stock : HasStockInvariant world) where
  abbrev P : Effect → Type 0
  P = KeepsStock world

  module _ (asked : AskedDrive) (row : VehicleRow) (there : row_of world asked.key ≡ Some row) (idle : trip_of world asked.key ≡ None) where
    here : finite.get world.vehicles asked.key ≡ Some (vehicle_with row None)
    here = known world asked.key row there ∙ ap (λ trip. Some (vehicle_with row trip)) idle

    trip_keeps : (trip : Trip) → trip.acts ≡ [] → IfMade P (send_trip world (order_of_drive asked) row [] trip)
    trip_keeps trip none =
        made_unheld P _ _ (λ opened. made_refuse_if_none P _ _ _ (λ number next. made_refuse_unless P _ _ _ (λ few.
        record {
          stock =
              depart world asked.key (vehicle_with row None) here (sent_on row asked.at number (Some trip)) refl world.places world.jobs
              (subst (λ (acts : List Act). Now world.layout (action_views_of world) (capacity_of world) asked.key (action_views acts) world.places world.jobs) (sym none)
              (enter world asked.key (vehicle_with row None) here stock));
        })))

    drive_keeps : IfMade P (send_drive world asked row)
    drive_keeps =
        made_refuse_if_none P _ _ _ (λ layout is_set. made_planned P _ _ (λ trip is.
        trip_keeps trip (drives layout asked.key asked.order row.node asked.to asked.edges trip is).0.does))

  pub drive_start_keeps : (asked : AskedDrive) → IfMade P (start_drive world asked)
  drive_start_keeps asked =
      made_refuse_unless P _ _ _ (λ unused. made_refuse_if_none P _ _ _ (λ row there. made_refuse_unless P _ _ _ (λ node.
      made_refuse_unless P _ _ _ (λ new. made_refuse_unless P _ _ _ (λ idle. made_refuse_unless P _ _ _ (λ no_rest.
      made_refuse_unless P _ _ _ (λ ready. made_refuse_unless P _ _ _ (λ going.
      drive_keeps asked row there (missing _ idle)))))))))
