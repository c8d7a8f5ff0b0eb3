-- The refusal for a fault of the machine, and how a stream ends with it. No public clause cites this.
use Rattle.std.specs.Prelude.{◌≡◌, ◌+◌, ℕ, List, Option, Result, Ok, Err}
use Rattle.std.specs.Io.KnownBytes.{Appends}
use Rattle.agv_header.specs.declared.refusal.Refusal.{Refusal}
use Rattle.agv_header.specs.declared.refusal.Refusal.TheVariants as refusal
use Rattle.agv_face_http.specs.Output.{refusal_text}
use Rattle.agv_world_core.specs.declared.fault.Fault.{Fault}
use Rattle.agv_world_core.specs.declared.fault.Fault.TheVariants as machine
use Rattle.agv_face.specs.Bytes.{IsCut}
use Rattle.agv_face.specs.CountingIo.{inner_of, FailedOnce, FailedNever}
use Rattle.agv_face.specs.declared.stream_end.Ended.TheVariants as ended
use Rattle.agv_face.specs.declared.stream_end.Served.{Served}
use Rattle.agv_face.specs.declared.stream_end.StreamFault.{StreamFault}
use Rattle.agv_face.specs.declared.stream_end.StreamFault.TheVariants as fault
use Rattle.agv_face.specs.declared.counting_io.CountingIo.{CountingIo}

-- the refusal for a fault
abbrev pub refusal_for : Fault → Refusal
refusal_for machine.Memory = refusal.Memory
refusal_for machine.Storage = refusal.Storage

-- the refusal was written after this many answers, whole or cut short
module _ {W : Type 0} (contents : W → Option (List ℕ)) (writer writer_then : CountingIo W) (why : Fault) (answers : ℕ) where
  abbrev pub IsRefused : Result Served StreamFault → Type 0
  IsRefused (Ok served) =
      (served ≡ record { answers = answers + 1; ended = ended.Refused (refusal_for why) })
      × Appends (contents (inner_of writer)) (contents (inner_of writer_then)) (refusal_text (refusal_for why)) × FailedNever writer writer_then
  IsRefused (Err (fault.Read n)) = ⊥
  IsRefused (Err (fault.Write n)) =
      (n ≡ answers) × IsCut (contents (inner_of writer)) (contents (inner_of writer_then)) (refusal_text (refusal_for why)) × FailedOnce writer writer_then
