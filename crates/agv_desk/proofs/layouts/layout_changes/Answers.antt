use Rattle.std.proofs.Common.{rules, ◌≤◌, ◌++◌, ◌∙◌, ap, sym, length, map}
use Rattle.std.proofs.lemmas.List.{append-nil, at_drop_all}
use Rattle.agv_desk.specs.LayoutSteps.{row_written}
use Rattle.agv_desk.proofs.row_changes.Laying.{rows_written}
use Rattle.agv_desk.proofs.layouts.layout_changes.Goals as goal

pub returns : goal.returns
returns c =
    let rows = c.as_slice-row-items.result.now in
    let made = c.loop-row.changes.items in
    let none : length rows ≤ c.loop-row.row-index = search rules in
    sym (append-nil made)
    ∙ ap (λ rest. made ++ rest) (sym (at_drop_all (map row_written) rows c.loop-row.row-index none))
    ∙ c.loop-row.invariant
    ∙ ap (map row_written) (c.as_slice-row-items.ensures.value ∙ c.in_ok-rows.ensures.rows)
    ∙ rows_written c.args.layout.now
