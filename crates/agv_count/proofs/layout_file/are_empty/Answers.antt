use Rattle.std.proofs.Common.{◌&&◌, ◌==◌, length, ap, ◌∙◌}
use Rattle.agv_count.proofs.layout_file.are_empty.Goals as goal

pub returns-then-is_empty : goal.returns-then-is_empty
returns-then-is_empty c =
    c.is_empty-then-is_empty.ensures ∙ ap (λ b. b && length c.args.to.now == 0) c.if-is_empty.ensures
