use Rattle.agv_desk.proofs.lawful_worlds.LawfulSteps.{step_lawful}
use Rattle.agv_desk.proofs.laws.lawful.keeps_lawful.Goals as goal

pub returns : goal.returns
returns c = step_lawful c.keeps_vehicles_lawful.ensures c.keeps_stock_invariant.ensures c.loads_meet_invariant.ensures
