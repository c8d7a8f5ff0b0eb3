use Rattle.std.proofs.Common.{List, ◌++◌, ◌∷◌, [], length, ap, ◌∙◌}
use Rattle.agv_world_core.specs.declared.change.Change.{Change}
use Rattle.agv_world_core.specs.declared.change.Change.TheVariants as row
use Rattle.agv_desk.specs.Outcomes.{decided}
use Rattle.agv_desk.specs.Shared.{reference_key}
use Rattle.agv_desk.specs.declared.answer.Answer.TheVariants as answer
use Rattle.agv_desk.proofs.stocktakes.CountedWhole.{move_rows}
use Rattle.agv_desk.proofs.stocktake.counted_decision.Goals as goal

pub returns : goal.returns
unfolding decided
returns c =
    let moves = c.args.moves.now in
    let said = c.made_with.ensures.answer ∙ ap (answer.Counted (length moves)) (c.from.ensures ∙ c.in_ok-unknown.ensures) in
    let rows = c.made_with.ensures.changes ∙ c.in_ok-changes.ensures ∙ ap (λ (rows : List Change). rows ++ (row.Used (reference_key c.args.reference) ∷ [])) (move_rows row.Load moves) in
    λ i. record { answer = said i; changes = rows i }
