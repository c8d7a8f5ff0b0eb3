use Rattle.agv_app_files.proofs.Stores.{memory_is_clean}
use Rattle.agv_app_files.proofs.laws.stores_in_memory_are_clean.Goals as goal

pub returns : goal.returns
returns c = memory_is_clean
