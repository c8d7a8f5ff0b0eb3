use Rattle.std.proofs.Common.{◌≡◌}
use Rattle.std.specs.FinMap as map
use Rattle.agv_world_plain.proofs.Carrying.{carrier_among}
use Rattle.agv_world_plain.proofs.carriers.carrier.Given as goal

-- the first of what is left is the first of all
abbrev pub invariant-loop-key : goal.invariant-loop-key
invariant-loop-key l = carrier_among l.world l.job l.key-iterator ≡ carrier_among l.world l.job (map.entries l.world.vehicles)
