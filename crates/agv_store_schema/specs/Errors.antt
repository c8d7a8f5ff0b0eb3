-- Which errors of a database are faults of its store.
use Rattle.std.specs.Prelude.{◌≡◌, Bool, true, false}
use Rattle.sqlite.specs.declared.error.Error.{Error}
use Rattle.sqlite.specs.declared.error.Error.TheVariants.{SqliteFailure}
use Rattle.sqlite.specs.declared.error.ErrorCode.TheVariants.{OutOfMemory}

-- every error except that memory ran out
abbrev pub is_of_store : Error → Bool
is_of_store (SqliteFailure OutOfMemory) = false
is_of_store _ = true

-- the error is a fault of the store
abbrev pub IsOfStore : Error → Type 0
IsOfStore error = is_of_store error ≡ true
