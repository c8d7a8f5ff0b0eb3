-- Why creating the desk's tables failed.
use Rattle.sqlite.specs.declared.error.Error.{Error}
use Rattle.sqlite.specs.declared.error.Error.TheVariants.{SqliteFailure}
use Rattle.sqlite.specs.declared.error.ErrorCode.TheVariants.{OutOfMemory}
use Rattle.agv_store_create.specs.declared.making_fault.MakingFault.{MakingFault}
use Rattle.agv_store_create.specs.declared.making_fault.MakingFault.TheVariants as fault

-- the fault for an error of the database: `Memory` if memory ran out, else `Storage`
abbrev pub making_fault_of : Error → MakingFault
making_fault_of (SqliteFailure OutOfMemory) = fault.Memory
making_fault_of _ = fault.Storage
