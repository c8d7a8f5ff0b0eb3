use Rattle.std.proofs.Common.{◌∙◌}
use Rattle.agv_desk.proofs.row_changes.Laying.{is_laid}
use Rattle.agv_desk.proofs.layouts.lay.Goals as goal

pub returns-clause-laid : goal.returns-clause-laid
returns-clause-laid c =
    is_laid c.args.rows.now _ c.made_with.result c.in_ok-layout.ensures.given c.made_with.ensures.answer (c.made_with.ensures.changes ∙ c.in_ok-changes.ensures)
