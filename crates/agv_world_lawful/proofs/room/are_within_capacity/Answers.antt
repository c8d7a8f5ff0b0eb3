use Rattle.std.proofs.Common.{◌∙◌, ap}
use Rattle.agv_world_lawful.specs.LoadTests.{are_within_capacity_among}
use Rattle.agv_world_lawful.proofs.load_tests.LoadsOfOthers.{within_capacity_on_vehicle}
use Rattle.agv_world_lawful.proofs.room.are_within_capacity.Goals as goal

pub returns : goal.returns
returns c = c.are_within_capacity_among.ensures ∙ ap (are_within_capacity_among c.args.world.now) (c.as_slice.ensures.value ∙ c.in_ok-loads.ensures) ∙ within_capacity_on_vehicle c.args.world.now
