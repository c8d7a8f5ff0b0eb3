-- What a fault of a query or of a write sets: that the store has failed, or that it is in doubt whether the store is still open.
use Rattle.std.specs.Prelude.{◌≡◌, Bool, true, false, Result, Ok, Err}
use Rattle.agv_world_core.specs.declared.fault.Fault.{Fault}
use Rattle.agv_world_core.specs.declared.fault.Fault.TheVariants as machine
use Rattle.agv_store_read.specs.declared.open_fault.OpenFault.{OpenFault}
use Rattle.agv_store_read.specs.declared.open_fault.OpenFault.TheVariants as fault

-- the result of a query as a floor returns it: tables that encode no world are a fault of the store
abbrev pub noted : {A : Type 0} → Result A OpenFault → Result A Fault
noted (Ok answer) = Ok answer
noted (Err fault.Memory) = Err machine.Memory
noted (Err fault.Storage) = Err machine.Storage
noted (Err fault.Damaged) = Err machine.Storage

-- whether it is in doubt that the store is open: running out of memory may have closed it
abbrev pub doubted_by : {A : Type 0} → Result A Fault → Bool → Bool
doubted_by (Ok answer) before = before
doubted_by (Err machine.Memory) before = true
doubted_by (Err machine.Storage) before = before

-- a call returns `Storage` exactly if the store has failed when the call ends
abbrev pub EndsAs : {A : Type 0} → Result A Fault → Bool → Type 0
EndsAs (Ok answer) failed = failed ≡ false
EndsAs (Err machine.Memory) failed = failed ≡ false
EndsAs (Err machine.Storage) failed = failed ≡ true
