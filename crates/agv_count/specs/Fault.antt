-- The fault of an error of `csv`.
use Rattle.std.specs.Prelude.{if◌then◌else◌}
use Rattle.csv.specs.Reading.{error_kind, stops_reader}
use Rattle.csv.specs.declared.error.Error.{Error}
use Rattle.agv_count.specs.declared.fault.CsvFault.{CsvFault}
use Rattle.agv_count.specs.declared.fault.CsvFault.TheVariants as fault

-- `Memory` if memory was refused or the reader failed, which is no fault of the file, and otherwise `BadCsv`
abbrev pub fault_of : Error → CsvFault
fault_of error = if stops_reader (error_kind error) then fault.Memory else fault.BadCsv
