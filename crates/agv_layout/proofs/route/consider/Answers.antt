use Rattle.std.proofs.Common.{◌∙◌, sym}
use Rattle.std.specs.BTreeMap.{get, is_at}
use Rattle.agv_header.specs.Name.{name_cmp}
use Rattle.agv_layout.specs.Layout.{edge_of}
use Rattle.agv_layout.specs.Ways.{is_nearer}
use Rattle.agv_layout.proofs.Noted.{noted-not, noted-and, noted-before, noted-now}
use Rattle.agv_layout.proofs.route.consider.Goals as goal

pub returns-then-not-is_nearer : goal.returns-then-not-is_nearer
returns-then-not-is_nearer c = λ at. noted-not (get name_cmp c.args.ways.now at) (edge_of c.args.id c.args.ends) (is_at (name_cmp c.args.ends.start) at) (is_nearer c.args.distances.now c.args.ends) (sym c.if-not-is_nearer.ensures)

pub returns-then-contains_key : goal.returns-then-contains_key
returns-then-contains_key c = λ at.
    noted-before c.args.ways.now c.args.ends.start at (edge_of c.args.id c.args.ends) (sym c.if-contains_key.ensures)
    ∙ noted-and (get name_cmp c.args.ways.now at) (edge_of c.args.id c.args.ends) (is_at (name_cmp c.args.ends.start) at) (is_nearer c.args.distances.now c.args.ends) (sym c.if-not-is_nearer.ensures)

pub returns : goal.returns
returns c = λ at.
    c.in_ok-insert.ensures.updates.0 at
    ∙ noted-now c.args.ways.now c.args.ends.start at (edge_of c.args.id c.args.ends) (sym c.if-contains_key.ensures)
    ∙ noted-and (get name_cmp c.args.ways.now at) (edge_of c.args.id c.args.ends) (is_at (name_cmp c.args.ends.start) at) (is_nearer c.args.distances.now c.args.ends) (sym c.if-not-is_nearer.ensures)
