-- What holds of a connection to a database: whether its store is clean, whether it is open, and how a later moment relates to an earlier one.
use Rattle.std.specs.Prelude.{◌≡◌, ◌≤◌, ◌⊎◌, false, IsTrue, IsSome}
-- re-exported for the crates above
pub use Rattle.sqlite_disk.specs.Disk.{MoreFaults}
use Rattle.sqlite_trees.specs.declared.store.Store.{Ghosts}
use Rattle.sqlite.specs.State.{HasCleanDisk}
use Rattle.sqlite.specs.Held.{Held, state}

module _ {S : Type 0} (g : Ghosts S) where
  -- no wrong answer of the disk has been taken for a right one so far
  abbrev pub IsClean : Held S → Type 0
  IsClean held = HasCleanDisk (state g held)

  -- no fault has closed the connection
  abbrev pub IsOpen : Held S → Type 0
  IsOpen held = IsTrue (state g held).is_open

  -- the causes by which a call may fail: its store failed during it, an earlier fault had closed the connection, or the connection limits the steps of a query
  abbrev pub HasStorageCause : Held S → Held S → Type 0
  HasStorageCause old new = MoreFaults (state g old).faults (state g new).faults ⊎ (((state g old).is_open ≡ false) ⊎ IsSome (state g old).step_limit)

  -- a later moment of the same connection: faults are counted on, the step limit is the same, and only a fault has closed it
  pub record IsLater (old new : Held S) : Type 0 where
    pub clean : IsClean new → IsClean old
    pub faults : (state g old).faults ≤ (state g new).faults
    pub step_limit : (state g new).step_limit ≡ (state g old).step_limit
    pub closes : IsClean new → IsOpen old → IsOpen new ⊎ MoreFaults (state g old).faults (state g new).faults
