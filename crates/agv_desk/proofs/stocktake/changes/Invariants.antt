use Rattle.std.proofs.Common.{◌≡◌, ◌++◌, drop, map}
use Rattle.agv_world_core.specs.declared.change.Change.TheVariants as row
use Rattle.agv_desk.proofs.stocktake.changes.Given as goal

abbrev pub invariant-loop-load : goal.invariant-loop-load
invariant-loop-load l = l.changes.items ++ map (λ move. row.Load move.0 move.1) (drop l.load-index l.moves) ≡ map (λ move. row.Load move.0 move.1) l.moves
