-- The fault for an error of the database while changes are written.
use Rattle.std.specs.Prelude.{if◌then◌else◌}
use Rattle.sqlite.specs.declared.error.Error.{Error}
use Rattle.agv_world_core.specs.declared.fault.Fault.{Fault}
use Rattle.agv_world_core.specs.declared.fault.Fault.TheVariants as fault
use Rattle.agv_store_schema.specs.Errors.{is_of_store}

-- `Memory` if memory ran out, else `Storage`
abbrev pub fault_of : Error → Fault
fault_of error = if is_of_store error then fault.Storage else fault.Memory
