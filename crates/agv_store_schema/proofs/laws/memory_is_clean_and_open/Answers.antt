use Rattle.agv_store_schema.proofs.Memory.{memory_is_clean, memory_stays_open}
use Rattle.agv_store_schema.proofs.laws.memory_is_clean_and_open.Goals as goal

pub returns : goal.returns
returns c = record { clean = memory_is_clean; stays_open = memory_stays_open }
