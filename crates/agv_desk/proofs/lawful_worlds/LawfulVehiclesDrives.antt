-- The call that starts a drive keeps the layout, the vehicles and their trips lawful.
use Rattle.std.proofs.Common.{arith, ◌≡◌, ◌≤◌, ℕ, false, count_by, List, [], None, Some, Ok, sym, subst}
use Rattle.agv_header.specs.Name.{IsName}
use Rattle.agv_order.specs.Drives.{drive_planned}
use Rattle.agv_order.specs.declared.act.Act.{Act}
use Rattle.agv_order.specs.declared.trip.Trip.{Trip}
use Rattle.agv_world_core.specs.Lawful.{picks}
use Rattle.agv_world_core.specs.LawfulParts.{HasLawfulVehicles}
use Rattle.agv_world_core.specs.Questions.{row_of, trip_of, is_used}
use Rattle.agv_world_core.specs.Worlds.{World}
use Rattle.agv_world_core.specs.declared.key.UseKind.TheVariants as used
use Rattle.agv_world_core.specs.declared.row.VehicleRow.{VehicleRow}
use Rattle.agv_desk.specs.DriveSteps.{AskedDrive, start_drive}
use Rattle.agv_desk.specs.OrderParts.{order_of_drive, send_drive, take_drive}
use Rattle.agv_desk.specs.Outcomes.{Effect}
use Rattle.agv_desk.specs.WellTyped.{IsMoment}
use Rattle.agv_desk.proofs.lawful_worlds.LawfulVehiclesGiven.{GivenMore}
use Rattle.agv_desk.proofs.lawful_worlds.LawfulVehiclesOrders.{MayBeSent, layout_is, sends_trip}
use Rattle.agv_desk.proofs.lawful_worlds.LawfulVehiclesWritten.{keeps_rules}
use Rattle.agv_desk.proofs.outcomes.Keeping.{KeepsVehicles}
use Rattle.agv_desk.proofs.outcomes.Known.{known, vehicle_with}
use Rattle.agv_desk.proofs.outcomes.Ladders.{IfMade, made_refuse_unless, made_refuse_if_none}
use Rattle.agv_desk.proofs.row_changes.DriveRows.{drive_begins}
use Rattle.agv_desk.proofs.row_changes.Given.{Given}
use Rattle.agv_desk.proofs.row_changes.OrderRows.{made_planned}
use Rattle.agv_desk.proofs.row_changes.Steps.{missing, not_true}

module _ (given : Given) (more : GivenMore) (seats : ℕ) (world : World) (lawful : HasLawfulVehicles seats world) where
  abbrev P : Effect → Type 0
  P = KeepsVehicles seats world

  -- a drive that is planned may be sent: it picks nothing
  may_be_sent : (asked : AskedDrive) (row : VehicleRow) (trip : Trip)
      → drive_planned world.layout asked.key asked.order row.node asked.to asked.edges ≡ Ok trip → row.rest ≡ None
      → MayBeSent world.layout asked.key row trip
  may_be_sent asked row trip plan no_rest =
      let begun = drive_begins world.layout asked.key asked.order row.node asked.to asked.edges trip plan in
      let goes = (more.drives_go world.layout asked.key asked.order row.node asked.to asked.edges trip plan).0 in
      record {
        well_formed = more.drives world.layout asked.key asked.order row.node asked.to asked.edges trip plan;
        own = begun.own;
        picks_fit = subst (λ (acts : List Act). count_by picks acts ≤ row.capacity) (sym goes.does) (none row.capacity);
        stands = begun.stands;
        no_rest = no_rest;
      }
    where
      none : (n : ℕ) → 0 ≤ n
      none n = omega arith

  sends_drive : (asked : AskedDrive) (row : VehicleRow)
      → IsMoment asked.at → IsName asked.order → is_used world used.Order asked.order ≡ false → row_of world asked.key ≡ Some row → trip_of world asked.key ≡ None
      → row.rest ≡ None → IfMade P (send_drive world asked row)
  sends_drive asked row moment named unused there idle no_rest =
      made_refuse_if_none P _ _ _ (λ layout is_set. made_planned P _ _ (λ trip is_plan.
      let keeps = keeps_rules seats world lawful asked.key (vehicle_with row (trip_of world asked.key)) (known world asked.key row there) in
      let plan = subst (λ layout. drive_planned layout asked.key asked.order row.node asked.to asked.edges ≡ Ok trip) (layout_is given more seats world lawful layout keeps is_set) is_plan in
      sends_trip given more seats world lawful (order_of_drive asked) row [] trip moment named unused there idle
      (drive_begins layout asked.key asked.order row.node asked.to asked.edges trip is_plan).of_order (may_be_sent asked row trip plan no_rest)))

  takes_drive : (asked : AskedDrive) (row : VehicleRow)
      → IsMoment asked.at → IsName asked.order → is_used world used.Order asked.order ≡ false → row_of world asked.key ≡ Some row
      → IfMade P (take_drive world asked row)
  takes_drive asked row moment named unused there =
      made_refuse_unless P _ _ _ (λ a. made_refuse_unless P _ _ _ (λ idle. made_refuse_unless P _ _ _ (λ astray.
      made_refuse_unless P _ _ _ (λ d. made_refuse_unless P _ _ _ (λ e.
      sends_drive asked row moment named unused there (missing _ idle) (missing _ astray))))))

  pub starts_drive : (asked : AskedDrive) → IsMoment asked.at → IsName asked.order → IfMade P (start_drive world asked)
  starts_drive asked moment named =
      made_refuse_unless P _ _ _ (λ unused. made_refuse_if_none P _ _ _ (λ row there. made_refuse_unless P _ _ _ (λ node.
      takes_drive asked row moment named (not_true _ unused) there)))
