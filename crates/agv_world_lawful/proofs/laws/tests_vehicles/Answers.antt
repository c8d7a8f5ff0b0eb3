use Rattle.std.proofs.Common.{subst, sym}
use Rattle.agv_world_core.specs.Kept.{Keeps}
use Rattle.agv_world_core.specs.LawfulParts.{HasLawfulVehicles}
use Rattle.agv_world_lawful.proofs.vehicle_tests.FitTests.{Below}
use Rattle.agv_world_lawful.proofs.vehicle_tests.VehicleTests.{each_passed, kept, lawful_vehicles}
use Rattle.agv_world_lawful.proofs.vehicle_tests.LawfulVehiclesPass.{told_again, vehicles_again}
use Rattle.agv_world_lawful.proofs.laws.tests_vehicles.Goals as goal

pub returns-clause-passed : goal.returns-clause-passed
returns-clause-passed c seats tables values all =
    let below : Below = record { again = c.gives_itself.ensures; node = c.needs_a_node.ensures; fits = c.tests_well_formed.ensures } in
    let passes = each_passed seats tables all in
    (kept below seats tables values passes, lawful_vehicles below seats tables values passes)

pub returns-clause-again : goal.returns-clause-again
returns-clause-again c seats tables world keeps lawful =
    let below : Below = record { again = c.gives_itself.ensures; node = c.needs_a_node.ensures; fits = c.tests_well_formed.ensures } in
    let same = told_again seats tables world keeps lawful in
    (same, vehicles_again below seats tables (subst (Keeps tables) (sym same) keeps) (subst (HasLawfulVehicles seats) (sym same) lawful))
