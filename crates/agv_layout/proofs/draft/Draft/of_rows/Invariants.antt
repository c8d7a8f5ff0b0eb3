use Rattle.std.proofs.Common.{◌≡◌, take}
use Rattle.agv_layout.specs.Draft.{drawn}
use Rattle.agv_layout.specs.LayoutOf.{layout_in}
use Rattle.agv_layout.specs.Rows.{AreNamed}
use Rattle.agv_layout.proofs.Rows.{AreDistinct}
use Rattle.agv_layout.proofs.draft.Draft.of_rows.Given as goal

abbrev pub invariant-loop-row : goal.invariant-loop-row
invariant-loop-row l = record {
  drawn : drawn l.draft ≡ layout_in (take l.row-index l.rows);
  distinct : AreDistinct (take l.row-index l.rows);
  named : AreNamed (take l.row-index l.rows);
}
