use Rattle.agv_store_changes.proofs.ChangesFound.{found_either, rows_found, worlds_found}
use Rattle.agv_store_changes.proofs.change_laws.openings_find_rows_before_or_after.Goals as goal

pub returns-clause-either : goal.returns-clause-either
returns-clause-either c = found_either

pub returns-clause-rows : goal.returns-clause-rows
returns-clause-rows c = rows_found

pub returns-clause-worlds : goal.returns-clause-worlds
returns-clause-worlds c = λ changes desk old found. worlds_found changes desk old found c.changes_make_the_next_world.ensures
