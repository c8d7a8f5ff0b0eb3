use Rattle.agv_layout.proofs.Drafts.{some_decides}
use Rattle.agv_layout.proofs.draft.Draft.has_node.Goals as goal

pub returns : goal.returns
returns c = some_decides c.args.self.now c.is_empty.result c.is_empty.ensures
