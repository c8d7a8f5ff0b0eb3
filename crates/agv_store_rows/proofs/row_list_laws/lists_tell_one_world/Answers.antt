use Rattle.agv_store_rows.proofs.ListsTell.{one_rows}
use Rattle.agv_store_rows.proofs.row_list_laws.lists_tell_one_world.Goals as goal

pub returns : goal.returns
returns c = one_rows c.rows_tell_one_table.ensures.one
