-- A store over two files in memory.
use Rattle.sqlite_trees.specs.declared.store.Store.{Ghosts}
use Rattle.sqlite_store.specs.declared.store.FileStore.{FileStore}
use Rattle.sqlite.specs.Files.{over_files}
use Rattle.agv_app_files.specs.FullMemory.{in_memory}
use Rattle.agv_app_files.specs.contracts.memory_file.MemoryFileDisk.TheImpl.{ghosts}
use Rattle.agv_app_files.specs.declared.memory_file.MemoryFile.{MemoryFile}
use Rattle.agv_app_files.specs.declared.memory_store.InMemory.{InMemory}

-- the store over two files in memory
abbrev pub MemoryStore : Type 0
MemoryStore = InMemory (FileStore MemoryFile ghosts)

-- what clauses cite of its state
abbrev pub over_memory_files : Ghosts MemoryStore
over_memory_files = in_memory over_files
