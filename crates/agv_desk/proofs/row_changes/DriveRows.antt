-- The call that starts a drive leads to the maps of the world after it.
use Rattle.std.proofs.Common.{◌≡◌, ℕ, List, [], ◌∷◌, Option, None, Some, Ok, nat_lt, length, false, refl, subst}
use Rattle.agv_header.specs.declared.key.VehicleKey.{VehicleKey}
use Rattle.agv_layout.specs.Layout.{Layout}
use Rattle.agv_layout.specs.declared.edge.Edge.{Edge}
use Rattle.agv_order.specs.Drives.{drive_along, drive_edges, drive_over, drive_planned}
use Rattle.agv_order.specs.declared.fault.PlanFault.TheVariants as fault
use Rattle.agv_order.specs.declared.trip.Trip.{Trip}
use Rattle.agv_world_core.specs.Questions.{row_of, trip_of, is_used}
use Rattle.agv_world_core.specs.Worlds.{World}
use Rattle.agv_world_core.specs.declared.key.UseKind.TheVariants as used
use Rattle.agv_world_core.specs.declared.row.VehicleRow.{VehicleRow}
use Rattle.agv_desk.specs.DriveSteps.{AskedDrive, start_drive}
use Rattle.agv_desk.specs.InOrder.{IsInOrder}
use Rattle.agv_desk.specs.OrderParts.{order_of_drive, send_drive, take_drive}
use Rattle.agv_desk.specs.Outcomes.{Effect}
use Rattle.agv_desk.proofs.outcomes.Ladders.{IfMade, made_refuse_unless, made_refuse_if_none}
use Rattle.agv_desk.proofs.row_changes.Effects.{LeadsTo}
use Rattle.agv_desk.proofs.row_changes.Given.{Given}
use Rattle.agv_desk.proofs.row_changes.OrderRows.{IsBegun, err_ok, made_planned, sends_trip, two_tests}
use Rattle.agv_desk.proofs.row_changes.Steps.{missing, not_true}

-- a drive has the name of its order, and begins where the vehicle stands
pub drive_begins : (layout : Layout) (vehicle : VehicleKey) (order at to : List ℕ) (base : ℕ) (trip : Trip)
    → drive_planned layout vehicle order at to base ≡ Ok trip → IsBegun vehicle order at trip
drive_begins layout vehicle order at to base trip = by_edges (drive_edges layout at to)
  where
    by_edges : (found : Option (List Edge)) → drive_along vehicle order at base found ≡ Ok trip → IsBegun vehicle order at trip
    by_edges None h = err_ok h
    by_edges (Some []) h = err_ok h
    by_edges (Some (edge ∷ edges)) h =
        subst (IsBegun vehicle order at)
        (two_tests (nat_lt 200 (length (edge ∷ edges))) (nat_lt (length (edge ∷ edges)) base) fault.TooLong fault.Beyond (drive_over vehicle order at base (edge ∷ edges)) trip h)
        (record { of_order = refl; own = refl; stands = refl })

module _ (given : Given) (world : World) (in_order : IsInOrder world) where
  abbrev P : Effect → Type 0
  P = LeadsTo world

  sends_drive : (asked : AskedDrive) (row : VehicleRow)
      → is_used world used.Order asked.order ≡ false → row_of world asked.key ≡ Some row → trip_of world asked.key ≡ None
      → IfMade P (send_drive world asked row)
  sends_drive asked row unused there idle =
      made_refuse_if_none P _ _ _ (λ layout is_set. made_planned P _ _ (λ trip is_plan.
      sends_trip given world in_order (order_of_drive asked) row [] trip unused there idle
      (drive_begins layout asked.key asked.order row.node asked.to asked.edges trip is_plan).of_order))

  takes_drive : (asked : AskedDrive) (row : VehicleRow)
      → is_used world used.Order asked.order ≡ false → row_of world asked.key ≡ Some row → IfMade P (take_drive world asked row)
  takes_drive asked row unused there =
      made_refuse_unless P _ _ _ (λ a. made_refuse_unless P _ _ _ (λ idle. made_refuse_unless P _ _ _ (λ c.
      made_refuse_unless P _ _ _ (λ d. made_refuse_unless P _ _ _ (λ e. sends_drive asked row unused there (missing _ idle))))))

  pub starts_drive : (asked : AskedDrive) → IfMade P (start_drive world asked)
  starts_drive asked =
      made_refuse_unless P _ _ _ (λ unused. made_refuse_if_none P _ _ _ (λ row there. made_refuse_unless P _ _ _ (λ node.
      takes_drive asked row (not_true _ unused) there)))
