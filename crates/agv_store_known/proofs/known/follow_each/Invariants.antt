use Rattle.std.proofs.Common.{take}
use Rattle.agv_store_known.proofs.Knowing.{LeadsTo}
use Rattle.agv_store_known.proofs.known.follow_each.Given as goal

-- what is known is so with the maps so far
abbrev pub invariant-loop-change : goal.invariant-loop-change
invariant-loop-change l = LeadsTo l.changes l.initial.known (take l.change-index l.changes) l.known
