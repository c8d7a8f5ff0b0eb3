-- A file in memory.
use Rattle.std.specs.Prelude.{ℕ, List}
use Rattle.agv_app_files.specs.declared.memory_file.MemoryFile.{MemoryFile}

-- its bytes
abbrev pub bytes_of : MemoryFile → List ℕ
bytes_of file = file.bytes.items
