-- What is decided where rows are to be the layout.
use Rattle.std.proofs.Common.{◌≡◌, ◌≢◌, List, map, Some, Ok, Err, sym, ap, ◌∙◌}
use Rattle.std.proofs.lemmas.List.{append-nil, map-append}
use Rattle.std.proofs.lemmas.Simd.{map-map}
use Rattle.agv_layout.specs.Layout.{Layout}
use Rattle.agv_layout.specs.LayoutOf.{layout_of, rows_in}
use Rattle.agv_layout.specs.declared.fault.LayoutFault.{LayoutFault}
use Rattle.agv_layout.specs.declared.fault.LayoutFault.TheVariants as fault
use Rattle.agv_layout.specs.declared.row.LayoutRow.{LayoutRow}
use Rattle.agv_world_core.specs.TableChanges.{layout_changes}
use Rattle.agv_desk.specs.LayoutSteps.{IsWhy, if_given, lay, not_set, row_written}
use Rattle.agv_desk.specs.Outcomes.{Outcome, Made, decided, answer_only}
use Rattle.agv_desk.specs.declared.answer.Answer.TheVariants as answer
use Rattle.agv_desk.specs.declared.answer.Decision.{Decision}

-- a row for each row of a layout
pub rows_written : (layout : Layout) → map row_written (rows_in layout) ≡ layout_changes layout
rows_written layout = simp (map-append, map-map)

-- what is done with a layout
abbrev put : Layout → Outcome
put layout = Made (record (answer_only answer.Done) { layout = Some layout })

-- the rows give this layout
pub is_laid : (rows : List LayoutRow) (layout : Layout) (decision : Decision) → layout_of rows ≡ Ok layout
    → decision.answer ≡ answer.Done → decision.changes ≡ layout_changes layout → decision ≡ decided (lay rows)
unfolding decided if_given
is_laid rows layout decision read done changes =
    let all = changes ∙ sym (append-nil (layout_changes layout)) in
    (λ i. record { answer = done i; changes = all i })
    ∙ sym (ap (λ read. decided (if_given read put)) read)

-- the rows give none
pub is_why : (rows : List LayoutRow) (why : LayoutFault) → (why ≢ fault.Memory → layout_of rows ≡ Err why) → IsWhy (lay rows) (not_set why)
unfolding if_given
is_why rows fault.Limit read = ap (λ read. if_given read put) (read (λ e. cc))
is_why rows fault.Bad read = ap (λ read. if_given read put) (read (λ e. cc))
is_why rows fault.Memory read = tt
