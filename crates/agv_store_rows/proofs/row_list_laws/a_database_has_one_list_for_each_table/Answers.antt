use Rattle.agv_store_rows.proofs.ListsHeld.{held_alike, one_lists}
use Rattle.agv_store_rows.proofs.row_list_laws.a_database_has_one_list_for_each_table.Goals as goal

pub returns : goal.returns
returns c = record { alike = held_alike; one = one_lists }
