-- How a run of the program ends: its fault, its exit status, and what it prints.
use Rattle.std.specs.Prelude.{◌≡◌, ◌⊎◌, ◌<◌, ◌≤◌, ℕ, ◌++◌, Bool, List, Option, Result, Ok, Err, IfOk, codes}
use Rattle.sqlite_trees.specs.declared.store.Store.{Ghosts}
use Rattle.sqlite.specs.Held.{Held, state}
use Rattle.sqlite.specs.Steps.{IsEmpty}
use Rattle.sqlite.specs.declared.error.Error.{Error}
use Rattle.agv_header.specs.declared.refusal.Refusal.TheVariants as refusal
use Rattle.agv_world_core.specs.Worlds.{empty_world}
use Rattle.agv_face.specs.Bytes.{IsPutWhole}
use Rattle.agv_face.specs.StreamEnd.{IsStreamEnd}
use Rattle.agv_face.specs.declared.stream_end.Ended.{Ended}
use Rattle.agv_face.specs.declared.stream_end.Ended.TheVariants as ended
use Rattle.agv_face.specs.declared.stream_end.Served.{Served}
use Rattle.agv_face.specs.declared.stream_end.StreamFault.{StreamFault}
use Rattle.agv_face.specs.declared.stream_end.StreamFault.TheVariants as stream
use Rattle.agv_face.specs.declared.counting_io.CountingIo.{CountingIo}
use Rattle.agv_app_files.specs.MemoryStores.{over_memory_files}
use Rattle.agv_store_schema.specs.Connections.{IsClean}
use Rattle.agv_store_floor.specs.Floors.{Keyed, world_at}
use Rattle.agv_store_read.specs.declared.open_fault.OpenFault.{OpenFault}
use Rattle.agv_store_read.specs.declared.open_fault.OpenFault.TheVariants as opening
use Rattle.agv_app_line.specs.CommandLine.{last_moment}
use Rattle.agv_app_line.specs.declared.line.Line.{Line}
use Rattle.agv_app_line.specs.declared.line.Line.TheVariants as line
use Rattle.agv_app_run.specs.declared.outcome.NextFault.{NextFault}
use Rattle.agv_app_run.specs.declared.outcome.NextFault.TheVariants as next
use Rattle.agv_app_run.specs.declared.outcome.RunFault.{RunFault}
use Rattle.agv_app_run.specs.declared.outcome.RunFault.TheVariants as fault

-- ---- how a run ends

-- success, or a fault
abbrev pub RunEnd : Type 0
RunEnd = Result (Unit {0}) RunFault

-- the fault for an opening that failed
abbrev pub opening_fault : OpenFault → RunFault
opening_fault opening.Damaged = fault.Damaged
opening_fault opening.Memory = fault.Memory
opening_fault opening.Storage = fault.Storage

-- the fault for a connection that wasn't served
abbrev pub next_fault : NextFault → RunFault
next_fault next.Net = fault.Net
next_fault next.Clock = fault.Clock

-- the end of a run whose stream was served to this end: a fault of the machine if the last answer was its refusal
abbrev pub end_by : Ended → RunEnd
end_by (ended.Refused refusal.Memory) = Err fault.Memory
end_by (ended.Refused refusal.Storage) = Err fault.Storage
end_by _ = Ok tt

-- the end of a run whose stream ended so
abbrev pub end_of : Result Served StreamFault → RunEnd
end_of (Ok served) = end_by served.ended
end_of (Err (stream.Read answers)) = Err fault.Read
end_of (Err (stream.Write answers)) = Err fault.Write

-- ---- what is printed, and the exit status

-- the name of a fault
abbrev pub fault_name : RunFault → List ℕ
fault_name fault.Damaged = codes "Damaged"
fault_name fault.Memory = codes "Memory"
fault_name fault.Storage = codes "Storage"
fault_name fault.Read = codes "Read"
fault_name fault.Write = codes "Write"
fault_name fault.Net = codes "Net"
fault_name fault.Clock = codes "Clock"

-- the line that is printed for a fault
abbrev pub fault_line : RunFault → List ℕ
fault_line why = codes "fault: " ++ fault_name why ++ codes "\n"

-- the exit status of a run
abbrev pub status_of : RunEnd → ℕ
status_of (Ok done) = 0
status_of (Err why) = 1

-- a fault was printed as its line, whole or cut short where a write failed; after success nothing was printed
module _ {E : Type 0} (contents : E → Option (List ℕ)) (errors errors_then : CountingIo E) where
  abbrev pub IsTold : RunEnd → Type 0
  IsTold (Ok done) = errors_then ≡ errors
  IsTold (Err why) = (whole : Bool) × IsPutWhole contents errors errors_then (fault_line why) whole

-- ---- opening a desk

-- a database with no table was opened, or none could be; and its store always returns what was written
abbrev pub IsNewDatabase : {S : Type 0} → Ghosts S → Result (Held S) Error → Type 0
IsNewDatabase {S = S} g opened = ((held : Held S) → IsClean g held) × IfOk opened (λ conn. IsEmpty (state g conn))

-- the desk's world is the empty one
abbrev pub KnowsNothing : {S : Type 0} → Ghosts S → Keyed S → Type 0
KnowsNothing g desk = world_at g desk.held ≡ empty_world

-- ---- carrying out a line

-- the most reads of a stream
abbrev pub stream_reads : ℕ
stream_reads = 16777216

-- the reader of the input and the writer of the output, each before and after
module _ {R W : Type 0} (remaining : R → Option (List ℕ)) (contents : W → Option (List ℕ)) (reader reader_then : CountingIo R) (writer writer_then : CountingIo W) where
  -- nothing was read or written
  abbrev pub IsUntouched : Type 0
  IsUntouched = (reader_then ≡ reader) × (writer_then ≡ writer)

  -- the input was served by this desk at a moment
  pub record IsServedRun {S : Type 0} (g : Ghosts S) (at : ℕ) (desk : Keyed S) (end : RunEnd) : Type 0 where
    pub desk_then : Keyed S
    pub ended : Result Served StreamFault
    pub stream : IsStreamEnd g remaining contents at stream_reads desk desk_then reader reader_then writer writer_then ended
    pub end_is : end ≡ end_of ended

  -- the input was served at this number of milliseconds if that is a moment; otherwise the fault is `Clock`
  abbrev pub IsReplayed : {S : Type 0} → Ghosts S → ℕ → Keyed S → RunEnd → Type 0
  IsReplayed g at desk end = (at ≤ last_moment → IsServedRun g at desk end) × (last_moment < at → IsUntouched × (end ≡ Err fault.Clock))

  -- no desk could be made in a new database, or the input was served from the empty world of a new desk
  abbrev pub IsReplayedAnew : {S : Type 0} → Ghosts S → ℕ → RunEnd → Type 0
  IsReplayedAnew {S = S} g at end =
      (IsUntouched × ((end ≡ Err fault.Memory) ⊎ (end ≡ Err fault.Storage)))
      ⊎ ((desk : Keyed S) × KnowsNothing g desk × IsReplayed g at desk end)

  -- the same over a database in memory
  abbrev pub IsReplayedInMemory : ℕ → RunEnd → Type 0
  IsReplayedInMemory = IsReplayedAnew over_memory_files

  -- the end of a line; nothing is specified for files and sockets
  abbrev pub IsCarriedOut : Line → RunEnd → Type 0
  IsCarriedOut (line.Replay db at) end = db.now ≡ codes "memory" → IsReplayedInMemory at end
  IsCarriedOut (line.Serve db port connections) end = Unit {0}
  IsCarriedOut (line.Report db kind) end = Unit {0}
  IsCarriedOut (line.Migrate db) end = Unit {0}

-- a line was carried out to an end, which was printed and determines the exit status
pub record IsRun {R W E : Type 0} (remaining : R → Option (List ℕ)) (contents : W → Option (List ℕ)) (contents_of_errors : E → Option (List ℕ)) (asked : Line)
    (reader reader_then : CountingIo R) (writer writer_then : CountingIo W) (errors errors_then : CountingIo E) (status : ℕ) : Type 0 where
  pub end : RunEnd
  pub carried_out : IsCarriedOut remaining contents reader reader_then writer writer_then asked end
  pub told : IsTold contents_of_errors errors errors_then end
  pub status_is : status ≡ status_of end
