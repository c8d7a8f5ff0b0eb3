use Rattle.agv_count.proofs.LayoutListed.{layout_back, rows_listed}
use Rattle.agv_count.proofs.laws.export_gives_layout.Goals as goal

pub returns-clause-listed : goal.returns-clause-listed
returns-clause-listed c layout rules = rows_listed layout (c.lists_its_nodes.ensures layout) rules

pub returns-clause-back : goal.returns-clause-back
returns-clause-back c layout rules = layout_back layout (c.lists_its_nodes.ensures layout) rules (c.gives_itself.ensures layout rules)
