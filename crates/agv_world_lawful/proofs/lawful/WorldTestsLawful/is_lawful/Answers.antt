use Rattle.std.proofs.Common.{◌≡◌, ◌↔◌, ◌&&◌, Bool, true, ◌∙◌, sym}
use Rattle.agv_world_lawful.specs.LawfulTests.{are_lawful_vehicles}
use Rattle.agv_world_lawful.specs.LoadTests.{are_lawful_loads}
use Rattle.agv_world_lawful.proofs.load_tests.LawfulTold.{AreLawful, TestsVehicles, follows_ok, lawful_told}
use Rattle.agv_world_lawful.proofs.lawful.WorldTestsLawful.is_lawful.Goals as goal

pub returns : goal.returns
returns c =
    let seats = c.args.seats in
    let tables = c.args.self.now in
    let tests : TestsVehicles seats tables = record { told = c.tests_vehicles.ensures.passed seats tables c.has_values.ensures; again = c.tests_vehicles.ensures.again seats tables } in
    let all = lawful_told seats tables c.has_values.ensures tests in
    follows_ok (λ (b : Bool). b ≡ (are_lawful_vehicles seats tables && are_lawful_loads tables)) (λ (b : Bool). (b ≡ true) ↔ AreLawful seats tables)
    (λ b is. (λ yes. all.0 (sym is ∙ yes), λ lawful. is ∙ all.1 lawful))
    c.passes.result c.passes.ensures
