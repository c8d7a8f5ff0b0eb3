use Rattle.std.proofs.Common.{◌≡◌, ◌≤◌, length}
use Rattle.std.specs.Vec.{vec_capacity, vec_len}
use Rattle.agv_store.proofs.CallsInTurn.{HasServed}
use Rattle.agv_store.proofs.desk.Desk.run.Given as goal

abbrev pub invariant-loop-made : goal.invariant-loop-made
invariant-loop-made g l =
    (length l.given.items ≡ l.made-index) × (vec_len l.given ≡ l.made-index) × (length l.calls ≤ vec_capacity l.given) × HasServed g.S.Store l.initial.self l.self l.calls l.given.items
