use Rattle.agv_desk.proofs.lawful_worlds.LawfulSteps.{lawful_finds}
use Rattle.agv_desk.proofs.laws.lawful.finds_each_load.Goals as goal

pub returns : goal.returns
returns c = lawful_finds c.acts_find_their_loads.ensures c.loads_meet_invariant.ensures
