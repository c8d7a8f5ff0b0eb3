use Rattle.agv_store_rows.proofs.ListsHeld.{held_changed}
use Rattle.agv_store_rows.proofs.row_list_laws.a_database_follows_changes.Goals as goal

pub returns : goal.returns
returns c = λ desk old new changes made maps h. held_changed c.lists_follow_changes.ensures.all desk old new changes maps made h
