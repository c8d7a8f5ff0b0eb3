-- Which database a connection over files has.
use Rattle.std.specs.Prelude.{◌≡◌}
use Rattle.sqlite_disk.specs.declared.Disk as disk
use Rattle.sqlite_disk.specs.declared.files.Files.{Files}
use Rattle.sqlite_store.specs.declared.store.FileStore.{FileStore}
use Rattle.sqlite_trees.specs.Tree.{Trees}
use Rattle.sqlite.specs.Files.{HoldsDatabase, file_state, image_of}
use Rattle.sqlite.specs.Held.{Held}

-- the connection has the database that the files hold
abbrev pub Shows : {D : Type 0} {g : disk.Ghosts D} → Files D → Held (FileStore D g) → Type 0
Shows {g = g} files conn = (db : Trees) → HoldsDatabase (image_of g files) db → (file_state conn).committed.trees ≡ db
