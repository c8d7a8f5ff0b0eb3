-- Why reading the desk's tables failed.
use Rattle.std.specs.Prelude.{if◌then◌else◌}
use Rattle.sqlite.specs.declared.error.Error.{Error}
use Rattle.agv_store_schema.specs.Errors.{is_of_store}
use Rattle.agv_store_read.specs.declared.open_fault.OpenFault.{OpenFault}
use Rattle.agv_store_read.specs.declared.open_fault.OpenFault.TheVariants as fault

-- the fault for an error of the database: `Memory` if memory ran out, else `Storage`
abbrev pub open_fault_of : Error → OpenFault
open_fault_of error = if is_of_store error then fault.Storage else fault.Memory
