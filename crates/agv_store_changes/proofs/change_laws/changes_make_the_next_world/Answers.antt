use Rattle.agv_store_changes.proofs.ChangesRun.{worlds_changed}
use Rattle.agv_store_changes.proofs.change_laws.changes_make_the_next_world.Goals as goal

pub returns : goal.returns
returns c = worlds_changed c.lists_follow_changes.ensures.all
