use Rattle.std.proofs.Common.{◌≡◌, true, inl, inr, ap}
use Rattle.csv.specs.Reading.{error_kind, stops_reader}
use Rattle.csv.specs.declared.error.Error.{Error}
use Rattle.csv.specs.declared.error.ErrorKind.{ErrorKind}
use Rattle.agv_count.specs.Fault.{fault_of}
use Rattle.agv_count.specs.declared.fault.CsvFault.TheVariants as fault
use Rattle.agv_count.proofs.fault.CsvFaultFromError.from.Goals as goal

-- an error that stops the reader is no fault of the file
of_machine : (kind : ErrorKind) (error : Error) → kind ≡ error_kind error → stops_reader kind ≡ true → fault.Memory ≡ fault_of error
of_machine kind error said stops = rw (← said, stops)

pub returns-in-OutOfMemory : goal.returns-in-OutOfMemory
returns-in-OutOfMemory c =
    of_machine _ _ c.kind.ensures (elim c.in-OutOfMemory.is [ inl is ↦ ap stops_reader is | inr is ↦ ap stops_reader is.1 ])
