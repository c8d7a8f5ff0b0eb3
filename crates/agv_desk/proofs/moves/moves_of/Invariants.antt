use Rattle.std.proofs.Common.{◌≡◌, ◌++◌, drop}
use Rattle.agv_desk.specs.Moves.{moves_in}
use Rattle.agv_desk.proofs.moves.moves_of.Given as goal

abbrev pub invariant-loop-change : goal.invariant-loop-change
invariant-loop-change l = l.moves.items ++ moves_in (drop l.change-index l.change-items) ≡ moves_in l.change-items
