use Rattle.std.proofs.Common.{take}
use Rattle.agv_desk.specs.WellTyped.{AreWellTyped}
use Rattle.agv_desk.proofs.laws.histories.types_each_call.Given as goal

abbrev pub invariant-loop-made : goal.invariant-loop-made
invariant-loop-made l = AreWellTyped (take l.made-index l.calls)
