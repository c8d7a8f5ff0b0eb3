use Rattle.std.proofs.Common.{rules}
use Rattle.agv_order.proofs.NewTrips.{planned_well}
use Rattle.agv_order.proofs.trip.Trip.plan.Goals as goal

pub returns-clause-well_formed : goal.returns-clause-well_formed
returns-clause-well_formed c = λ fit few.
    planned_well c.args.layout.now c.args.vehicle c.args.jobs.now c.args.stops.now c.args.order c.args.at_node c.args.edges _ fit few (search rules)
