use Rattle.std.proofs.Common.{◌≡◌, ◌++◌, ℕ, List, map}
use Rattle.std.specs.List.{zip}
use Rattle.agv_world_core.specs.declared.change.Change.TheVariants as row
use Rattle.agv_desk.specs.ActSteps.{act_moves}
use Rattle.agv_desk.specs.Outcomes.{Move}
use Rattle.agv_desk.proofs.acts.push_moves.Given as goal

abbrev pub invariant-loop-act : goal.invariant-loop-act
invariant-loop-act l =
    let loads = λ (move : Move). row.Load move.load move.place in
    (order : List ℕ) → l.changes.items ++ map loads (act_moves l.key order (zip l.act-iterator.a.rest.now l.act-iterator.b.rest.now)) ≡ l.initial.changes.items ++ map loads (act_moves l.key order (zip l.acts l.statuses))
