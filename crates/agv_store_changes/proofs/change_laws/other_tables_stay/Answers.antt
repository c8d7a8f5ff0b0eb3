use Rattle.agv_store_sql.proofs.DeskStatements.{keeps_others_as_is, keeps_others_then}
use Rattle.agv_store_changes.proofs.change_laws.other_tables_stay.Goals as goal

pub returns : goal.returns
returns c = record { itself = keeps_others_as_is; next = keeps_others_then }
