use Rattle.std.proofs.Common.{◌≡◌, sym, ap, ◌∙◌, Some, Result, Ok, Err, IfOk}
use Rattle.std.specs.Option.{option_map}
use Rattle.agv_order.specs.Drives.{drive_along, drive_planned}
use Rattle.agv_order.specs.Plans.{edges_named}
use Rattle.agv_order.specs.WellFormed.{IsWellFormed}
use Rattle.agv_order.specs.declared.fault.PlanFault.{PlanFault}
use Rattle.agv_order.specs.declared.trip.Trip.{Trip}
use Rattle.agv_order.proofs.Driving.{drive_well}
use Rattle.agv_order.proofs.trip.Trip.plan_drive.Goals as goal

pub returns-clause-well_formed : goal.returns-clause-well_formed
returns-clause-well_formed c =
    let layout = c.args.layout.now in
    let made = drive_along c.args.vehicle c.args.order c.args.at_node c.args.edges in
    well c.drive_along.result
    (ap (λ ids. made (option_map (edges_named layout) ids)) (sym c.in_ok-ids.ensures ∙ c.in-Some.is)
    ∙ ap (λ ids. made (Some (edges_named layout ids))) (sym c.as_slice.ensures)
    ∙ ap (λ edges. made (Some edges)) (sym c.in_ok-way.ensures)
    ∙ sym c.drive_along.ensures)
  where
    well : (result : Result Trip PlanFault) → drive_planned c.args.layout.now c.args.vehicle c.args.order c.args.at_node c.args.to c.args.edges ≡ result → IfOk result (IsWellFormed c.args.layout.now)
    well (Ok trip) is = drive_well c.args.layout.now c.args.vehicle c.args.order c.args.at_node c.args.to c.args.edges trip is
    well (Err why) is = tt
