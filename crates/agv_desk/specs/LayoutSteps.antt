-- The call that sets the layout, which can be set only once (this project's profile).
use Rattle.std.specs.Prelude.{◌≡◌, List, is_none, Some, Result, Ok, Err}
use Rattle.agv_header.specs.declared.refusal.Refusal.{Refusal}
use Rattle.agv_header.specs.declared.refusal.Refusal.TheVariants as refusal
use Rattle.agv_layout.specs.Layout.{Layout}
use Rattle.agv_layout.specs.LayoutOf.{layout_of}
use Rattle.agv_layout.specs.declared.fault.LayoutFault.{LayoutFault}
use Rattle.agv_layout.specs.declared.fault.LayoutFault.TheVariants as fault
use Rattle.agv_layout.specs.declared.row.LayoutRow.{LayoutRow}
use Rattle.agv_layout.specs.declared.row.LayoutRow.TheVariants as given
use Rattle.agv_world_core.specs.Questions.{layout_set}
use Rattle.agv_world_core.specs.Worlds.{World}
use Rattle.agv_world_core.specs.declared.change.Change.{Change}
use Rattle.agv_world_core.specs.declared.change.Change.TheVariants as row
use Rattle.agv_desk.specs.Outcomes.{Outcome, Refused, Made, refuse_unless, answer_only}
use Rattle.agv_desk.specs.declared.answer.Answer.TheVariants as answer
use Rattle.agv_desk.specs.declared.layouts.NotSet.{NotSet}
use Rattle.agv_desk.specs.declared.layouts.NotSet.TheVariants as unset

-- the refusal for rows that give no layout
abbrev pub layout_refusal : LayoutFault → Refusal
layout_refusal fault.Limit = refusal.Limit
layout_refusal fault.Bad = refusal.LayoutBad
layout_refusal fault.Memory = refusal.Memory

-- `rest` of the layout, or the refusal if there is none
unfoldable pub if_given : Result Layout LayoutFault → (Layout → Outcome) → Outcome
if_given (Ok layout) rest = rest layout
if_given (Err why) rest = Refused (layout_refusal why)

-- the layout that the rows give is set: Limit if there are too many rows, LayoutBad
abbrev pub lay : List LayoutRow → Outcome
lay rows =
    if_given (layout_of rows) (λ layout.
    Made (record (answer_only answer.Done) { layout = Some layout }))

-- PUT /layout: LayoutSet; then `lay`
abbrev pub set_layout : World → List LayoutRow → Outcome
set_layout world rows = refuse_unless (is_none (layout_set world)) refusal.LayoutSet (lay rows)

-- ---- parts

-- the change that writes the row of a node, an edge or a station
abbrev pub row_written : LayoutRow → Change
row_written (given.Node id) = row.Node id
row_written (given.Edge id start finish) = row.Edge id (record { start = start; finish = finish })
row_written (given.Station id node capacity) = row.Station id (record { node = node; capacity = capacity })

-- why a layout is not set: its rows are refused, or an allocation was
abbrev pub not_set : LayoutFault → NotSet
not_set fault.Limit = unset.Refused refusal.Limit
not_set fault.Bad = unset.Refused refusal.LayoutBad
not_set fault.Memory = unset.Failed (record {})

-- the outcome is this refusal; nothing is said of a refused allocation
abbrev pub IsWhy : Outcome → NotSet → Type 0
IsWhy outcome (unset.Refused why) = outcome ≡ Refused why
IsWhy outcome (unset.Failed memory) = Unit {0}
