use Rattle.std.proofs.Common.{◌∙◌, sym, ap}
use Rattle.agv_world_core.specs.Questions.{count_of}
use Rattle.agv_world_core.specs.Told.{world_of}
use Rattle.agv_world_core.proofs.told_worlds.Counts.{len-vehicles_of}
use Rattle.agv_world_core.proofs.world.World.count.Goals as goal

pub returns-in-Vehicles : goal.returns-in-Vehicles
unfolding count_of
returns-in-Vehicles c = c.len.ensures ∙ sym (len-vehicles_of c.args.self.now) ∙ ap (count_of (world_of c.args.self.now)) (sym c.in-Vehicles.is)

pub returns-in-Loads : goal.returns-in-Loads
unfolding count_of
returns-in-Loads c = c.len-in-Loads.ensures ∙ ap (count_of (world_of c.args.self.now)) (sym c.in-Loads.is)

pub returns-in-Jobs : goal.returns-in-Jobs
unfolding count_of
returns-in-Jobs c = c.len-in-Jobs.ensures ∙ ap (count_of (world_of c.args.self.now)) (sym c.in-Jobs.is)

pub returns-in-Orders : goal.returns-in-Orders
unfolding count_of
returns-in-Orders c = c.used_count.ensures ∙ ap (count_of (world_of c.args.self.now)) (sym c.in-Orders.is)

pub returns-in-References : goal.returns-in-References
unfolding count_of
returns-in-References c = c.used_count-in-References.ensures ∙ ap (count_of (world_of c.args.self.now)) (sym c.in-References.is)
