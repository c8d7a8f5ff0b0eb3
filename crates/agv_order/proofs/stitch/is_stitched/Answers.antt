use Rattle.std.proofs.Common.{◌&&◌, ◌==◌, nat_eq, ap, sym, ◌∙◌}
use Rattle.std.specs.Cmp.Lexicographic.{pointwise}
use Rattle.std.specs.List.{filter, slice_get}
use Rattle.agv_order.specs.declared.stitch.Mark.{Mark}
use Rattle.agv_order.specs.Joins.{is_stitching_node, last_of}
use Rattle.agv_order.specs.Stitch.{is_released}
use Rattle.agv_order.proofs.Stitching.{at_both, not_without_first, not_without_last}
use Rattle.agv_order.proofs.stitch.is_stitched.Goals as goal

pub returns-in_default : goal.returns-in_default
returns-in_default c =
    sym (not_without_last (last_of (filter is_released c.args.held.now)) (slice_get c.args.update.now 0) (sym c.in_default.is ∙ c.last_released.ensures))

pub returns-in_default-first : goal.returns-in_default-first
returns-in_default-first c =
    let last = last_of (filter is_released c.args.held.now) in
    sym (not_without_first last) ∙ ap (is_stitching_node last) c.in_default-first.ensures.value

pub returns : goal.returns
returns c =
    let mark = c.in-Some.last in
    let last = last_of (filter is_released c.args.held.now) in
    c.eq.ensures
    ∙ (ap (λ (m : Mark). pointwise nat_eq mark.id m.id && mark.seq == m.seq) c.mark_of.ensures
    ∙ (sym (at_both last _ mark c.in-Some.ensures)
    ∙ ap (is_stitching_node last) c.in-Some-first.ensures.value))
